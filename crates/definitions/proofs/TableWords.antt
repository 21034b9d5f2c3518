-- The words of a result at the front of a buffer: they read back as the columns and the rows that they were made of. Assumes nothing.
use mathlib.Core.Path.{◌≡◌, sym, ◌∙◌, ap}
use mathlib.Core.List.{List, ◌++◌}
use Prim.Native.Nat.{ℕ, ◌+◌, ◌*◌, ◌≤◌}
use native.Mathlib.Nat.{mul-le-mul}
use native.Mathlib.Omega.{arith}
use lib.ListN.{length, length-append}
use Rattle.definitions.specs.Limits.{max_columns, max_sets}
use Rattle.definitions.specs.Image.{column_count, row_count, column_words, cell_words, rows_in, image_of}
use Rattle.definitions.specs.Statements.{Member}
use Rattle.definitions.proofs.Counts.{image_length_lem}
use Rattle.definitions.proofs.Images.{header_rows, count_front, words_front, image_rows_front}

-- a table that may stand in an image
pub record Table (columns : List ℕ) (rows : List (List ℕ)) : Type 0 where
  pub few_columns : length columns ≤ max_columns
  pub few_rows : length rows ≤ max_sets
  pub even : (r : List ℕ) → Member r rows → length r ≡ length columns

module _ (columns : List ℕ) (rows : List (List ℕ)) (t : Table columns rows) (rest : List ℕ) where
  abbrev image : List ℕ
  image = image_of columns rows

  pub columns_front : column_words (image ++ rest) ≡ columns
  columns_front = words_front columns rows (omega (arith, t.few_columns)) rest

  row_count_lem : row_count (image ++ rest) ≡ length rows
  unfolding image_of
  row_count_lem = header_rows (length rows) (length columns) (omega (arith, t.few_rows)) (omega (arith, t.few_columns))

  pub rows_front : rows_in (column_count (image ++ rest)) (length rows) (cell_words (image ++ rest)) ≡ rows
  rows_front =
      ap (λ (n : ℕ). rows_in (column_count (image ++ rest)) n (cell_words (image ++ rest))) (sym row_count_lem)
      ∙ image_rows_front columns rows (omega (arith, t.few_columns)) rest (omega (arith, t.few_rows)) t.even

  -- all of it is there
  pub table_front : 1 + column_count (image ++ rest) + length rows * column_count (image ++ rest) ≤ length (image ++ rest)
  table_front =
      let size : 1 + column_count (image ++ rest) + length rows * column_count (image ++ rest) ≡ 1 + length columns + length rows * length columns =
      ap (λ (n : ℕ). 1 + n + length rows * n) (count_front columns rows (omega (arith, t.few_columns)) rest) in
      omega (arith, size, image_length_lem columns rows t.even, length-append image rest)

-- the words of a table within limits
pub table_words : (columns : List ℕ) (rows : List (List ℕ)) (n : ℕ) → ((r : List ℕ) → Member r rows → length r ≡ length columns)
    → length columns ≤ max_columns → length rows ≤ n → length (image_of columns rows) ≤ 1 + max_columns + n * max_columns
table_words columns rows n even few most = omega (arith, image_length_lem columns rows even, mul-le-mul most few)
