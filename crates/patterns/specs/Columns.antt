-- The columns' filled rows: for each column the set of the rows that are filled there, bit k for row k.
use Rattle.std.specs.Prelude.{◌≡◌, cond, List, [], ◌∷◌, ◌++◌, map, ℕ, ◌≤◌, ◌<◌, length, get_or}
use Rattle.definitions.specs.Word.{is_filled}
use Rattle.definitions.specs.SetList.{bits}
use Rattle.bitsets.specs.Bits.{rows_below, word_bits}

-- the blank word of a cell: all rows for an empty one, none for a filled one
abbrev pub blank_of : ℕ → ℕ
blank_of cell = cond (is_filled cell) 0 (rows_below word_bits)

-- the rows that are filled in a column, as a set
unfoldable pub filled_in : List (List ℕ) → ℕ → ℕ
filled_in rows column = bits (map (λ r. is_filled (get_or r column 0)) rows)

-- a word for each of the first columns: the rows that are filled there
pub record ColumnsOf (rows : List (List ℕ)) (width : ℕ) (columns : List ℕ) : Type 0 where
  pub size : width ≤ length columns
  pub words : (c : ℕ) → c < width → get_or columns c 0 ≡ filled_in rows c

-- the columns' filled rows hold row j too, after j rows
pub record FilledRow (row : List ℕ) (j : ℕ) (found columns : List ℕ) : Type 0 where
  pub more : (rows : List (List ℕ)) → length rows ≡ j → ColumnsOf rows (length row) found → ColumnsOf (rows ++ (row ∷ [])) (length row) columns
