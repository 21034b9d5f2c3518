-- What the steps of complement union ask of T and have found of it: its maximal sets, and the fused table with the positions of the joined
-- rows. `words` are the union's column words, which say by their marks what complements.
use Rattle.std.specs.Prelude.{◌≡◌, List, map, ℕ, ◌*◌, ◌≤◌, ◌<◌, length, take, Option, Some, None}
use Rattle.definitions.specs.Limits.{max_union_rows, max_sets}
use Rattle.definitions.specs.ComplementUnion.{joined, union_sets, fused_rows}
use Rattle.definitions.specs.SetList.{bits, fused_position}
use Rattle.rows.specs.declared.named.Rows.{Rows}
use Rattle.rows.specs.Rows.{rows_of}
use Rattle.rows.specs.Indices.{rows_at, Below}
use Rattle.patterns.specs.Columns.{ColumnsOf}

-- rows of T, and for each column the word that holds those filled there
pub record RowsOf (t : Rows) (columns : List ℕ) : Type 0 where
  pub few : t.len ≤ max_union_rows
  pub filled : ColumnsOf (rows_of t) t.width columns

-- more sets than may be listed, or how many there are, with which the list begins
abbrev pub SetsOf : List ℕ → List (List ℕ) → List ℕ → Option ℕ → Type 0
SetsOf words rows list None = max_sets < length (union_sets words rows)
SetsOf words rows list (Some r) =
    (r ≤ max_sets) × (r ≡ length (union_sets words rows)) × (take r list ≡ map bits (union_sets words rows))

-- the list holds the sets, and nothing else
pub record AllSetsOf (words : List ℕ) (rows : List (List ℕ)) (list : List ℕ) : Type 0 where
  pub few : length list ≤ max_sets
  pub listed : list ≡ map bits (union_sets words rows)

-- the joined row of each set, in set order
abbrev pub joined_rows : List ℕ → List (List ℕ) → List (List ℕ)
joined_rows words rows = map (joined rows) (union_sets words rows)

-- room for the joined rows of so many sets, their indices and their positions
pub record RoomFor (count width : ℕ) (joined order positions : List ℕ) : Type 0 where
  pub rows : count * width ≤ length joined
  pub indices : count ≤ length order
  pub positions_too : count ≤ length positions

-- the first m indices name the fused rows among the joined ones, and each of count sets has its position
pub record FusedOf (words : List ℕ) (rows : List (List ℕ)) (width count : ℕ) (joined order positions : List ℕ) (m : ℕ) : Type 0 where
  pub fewer : m ≤ count
  pub within : m ≤ length order
  pub below : Below count (take m order)
  pub fused : rows_at width joined (take m order) ≡ fused_rows words rows
  pub placed : take count positions ≡ map (fused_position words rows) (union_sets words rows)
