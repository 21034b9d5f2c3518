-- The graph of T: rows that cross and agree complement each other; and the maximal sets of the graph are those of T. Assumes nothing.
use mathlib.Core.Path.{◌≡◌, sym, ◌∙◌}
use mathlib.Core.List.{List, []}
use Prim.Native.Nat.{ℕ, ◌<◌, ◌≤◌}
use lib.ListN.{length, get_or}
use Rattle.definitions.specs.ComplementUnion.{complement_at, maximal_sets, union_sets}
use Rattle.definitions.proofs.Complementing.{complement_sym, complement_self}
use Rattle.definitions.proofs.Sets.{listed_ext}
use Rattle.cliques.specs.Graph.{adjacent}
use Rattle.fusing.specs.Graph.{CrossingRows, Narrowed, GraphOf}

module _ (words : List ℕ) (rows : List (List ℕ)) (found neighbours : List ℕ) (crossing : CrossingRows words rows found)
    (narrowed : Narrowed rows found neighbours) where
  adjacent_is : (j k : ℕ) → j < length rows → k < length rows → adjacent neighbours j k ≡ complement_at words rows j k
  adjacent_is j k h g = narrowed.agrees j k h g ∙ sym (crossing.each j h k g)

  pub graph_of : length rows ≤ length neighbours → GraphOf words rows neighbours
  graph_of room = record {
    graph = record {
      rows = room;
      symmetric = λ j k h g. adjacent_is j k h g ∙ complement_sym words (get_or rows j []) (get_or rows k []) ∙ sym (adjacent_is k j g h);
      apart = λ j h. adjacent_is j j h h ∙ complement_self words (get_or rows j []);
    };
    adjacent_as = adjacent_is;
  }

-- the maximal sets of the graph are those of T
pub graph_sets : (words : List ℕ) (rows : List (List ℕ)) (neighbours : List ℕ) → GraphOf words rows neighbours
    → maximal_sets (adjacent neighbours) (length rows) ≡ union_sets words rows
unfolding union_sets
graph_sets words rows neighbours g = listed_ext (adjacent neighbours) (complement_at words rows) (length rows) g.adjacent_as
