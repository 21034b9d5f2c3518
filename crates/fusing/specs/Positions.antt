-- The positions of rows in a table whose rows are named by indices.
use Rattle.std.specs.Prelude.{◌≡◌, List, map, ℕ, ◌<◌, ◌≤◌, length, get_or}
use Rattle.definitions.specs.Limits.{max_sets}
use Rattle.definitions.specs.Lists.{find_index}
use Rattle.definitions.specs.ComplementUnion.{same_row}
use Rattle.rows.specs.declared.named.Rows.{Rows}
use Rattle.rows.specs.Indices.{Ordered}

-- the positions of rows in a table
unfoldable pub positions_in : List (List ℕ) → List (List ℕ) → List ℕ
positions_in table rows = map (λ r. find_index (same_row r) table) rows

-- the position of each row is the count of the indices, which is none, or that at which the row's own index stands
pub record OwnPositions (order positions : List ℕ) : Type 0 where
  pub named : (i : ℕ) → i < length positions → (get_or positions i 0 ≡ length order → ⊥)
      → (get_or positions i 0 < length order) × (get_or order (get_or positions i 0) 0 ≡ i)

-- indices that name the distinct ones among rows, in ascending order
pub record DistinctRows (t : Rows) (order : List ℕ) : Type 0 where
  pub few : length order ≤ max_sets
  pub ordered : Ordered t.width t.len t.cells.now order
