-- The records of a set list, made of sets as bits and of the positions of their joined rows.
use Rattle.std.specs.Prelude.{List, [], ◌∷◌, ℕ, ◌≤◌, length, take}
use Rattle.definitions.specs.Limits.{mark_words, max_sets}
use Rattle.definitions.specs.SetList.{record_of}
use Rattle.rows.specs.Indices.{Below}

-- the records of sets, each with its position
unfoldable pub records_of : List ℕ → List ℕ → List (List ℕ)
records_of [] positions = []
records_of (set ∷ sets) [] = []
records_of (set ∷ sets) (position ∷ positions) = record_of mark_words set position ∷ records_of sets positions

-- as many sets as a set list can hold, each with a position
pub record Listable (sets positions : List ℕ) : Type 0 where
  pub few : length sets ≤ max_sets
  pub paired : length sets ≤ length positions
  pub small : Below max_sets (take (length sets) positions)
