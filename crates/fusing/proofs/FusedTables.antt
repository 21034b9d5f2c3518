-- What the parts give together: the sets found are those of T, and the ordered joined rows are the fused table. Assumes nothing.
use mathlib.Core.Path.{◌≡◌, refl, sym, ◌∙◌, ap, ap₂, subst}
use mathlib.Core.Bool.{Bool}
use mathlib.Core.List.{List, [], ◌∷◌, ◌++◌, map}
use Prim.Native.Nat.{ℕ, ◌≤◌, ◌<◌}
use Rattle.std.proofs.Common.{Option, Some, None}
use lib.ListN.{length, take, length-map}
use lib.Seq.{take_at}
use Rattle.definitions.proofs.Images.{rows_length}
use Rattle.definitions.specs.Limits.{max_sets}
use Rattle.definitions.specs.Lists.{find_index}
use Rattle.definitions.specs.Image.{rows_in}
use Rattle.definitions.specs.OuterUnion.{compare_row}
use Rattle.definitions.specs.Ascending.{ascending}
use Rattle.definitions.specs.ComplementUnion.{same_row, joined, maximal_sets, union_sets, fused_rows}
use Rattle.definitions.specs.SetList.{bits, fused_position}
use Rattle.cliques.specs.Graph.{adjacent, Graph, FoundSets}
use Rattle.rows.specs.Indices.{rows_at, Ordered}
use Rattle.fusing.specs.Fused.{SetsOf, joined_rows, FusedOf}
use Rattle.fusing.specs.Graph.{GraphOf}
use Rattle.fusing.specs.Positions.{positions_in}
use Rattle.fusing.proofs.Neighbours.{graph_sets}

-- ---- the sets found in the graph of T

module _ (words : List ℕ) (c n : ℕ) (cells neighbours : List ℕ) (size : length neighbours ≡ n) (g : GraphOf words (rows_in c n cells) neighbours) where
  abbrev T : List (List ℕ)
  T = rows_in c n cells

  -- a word for each row of T
  rows_are : length T ≡ length neighbours
  rows_are = rows_length c n cells ∙ sym size

  pub graph_for : Graph neighbours (length neighbours)
  graph_for = subst (Graph neighbours) rows_are g.graph

  sets_are : maximal_sets (adjacent neighbours) (length neighbours) ≡ union_sets words T
  sets_are = ap (maximal_sets (adjacent neighbours)) (sym rows_are) ∙ graph_sets words T neighbours g

  pub sets_of : (list : List ℕ) (r : Option ℕ) → FoundSets neighbours (length neighbours) list r → SetsOf words T list r
  sets_of list None found = subst (λ (l : List (List Bool)). max_sets < length l) sets_are found
  sets_of list (Some r) found = (found.0, found.1 ∙ ap length sets_are, found.2 ∙ ap (map bits) sets_are)

-- ---- the fused table: m indices name the distinct joined rows in ascending order

module _ (words : List ℕ) (T : List (List ℕ)) (c count m : ℕ) (cells order : List ℕ) (known : rows_in c count cells ≡ joined_rows words T)
    (o : Ordered c count cells (take m order)) where
  abbrev named : List (List ℕ)
  named = rows_at c cells (take m order)

  ordered_fused : named ≡ fused_rows words T
  unfolding fused_rows
  ordered_fused = o.rows ∙ ap (ascending compare_row) known

  positions_fused : positions_in named (rows_in c count cells) ≡ map (fused_position words T) (union_sets words T)
  unfolding positions_in
  positions_fused = ap₂ (λ (t s : List (List ℕ)). map (λ r. find_index (same_row r) t) s) ordered_fused known ∙ twice (union_sets words T)
    where
      twice : (ss : List (List Bool))
          → map (λ r. find_index (same_row r) (fused_rows words T)) (map (joined T) ss) ≡ map (fused_position words T) ss
      twice [] = refl
      twice (s ∷ ss) = ap (λ (t : List ℕ). fused_position words T s ∷ t) (twice ss)

  -- the positions written are those of the joined rows in the fused table
  positions_known : (positions rest : List ℕ) → positions ≡ positions_in named (rows_in c count cells) ++ rest
      → take count positions ≡ map (fused_position words T) (union_sets words T)
  unfolding positions_in
  positions_known positions rest e =
      ap (take count) e
      ∙ take_at (positions_in named (rows_in c count cells)) rest count
      (length-map (rows_in c count cells) (λ r. find_index (same_row r) named) ∙ rows_length c count cells)
      ∙ positions_fused

  pub fused_of : (positions rest : List ℕ) → m ≤ count → m ≤ length order
      → positions ≡ positions_in named (rows_in c count cells) ++ rest → FusedOf words T c count cells order positions m
  fused_of positions rest fewer within e = record {
    fewer = fewer;
    within = within;
    below = o.below;
    fused = ordered_fused;
    placed = positions_known positions rest e;
  }
