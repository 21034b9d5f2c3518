-- The image of a minimum union, read as a table: the union's columns with their ids and marks, and the rows that stay; and when it is taken
-- as a table again. Assumes nothing.
use mathlib.Core.Path.{◌≡◌, ◌∙◌, ap}
use mathlib.Core.Bool.{◌||◌}
use mathlib.Core.List.{List, map, flatten}
use Prim.Native.Nat.{ℕ}
use native.Mathlib.Omega.{arith}
use lib.Dec.{leb}
use lib.ListN.{length}
use Rattle.definitions.specs.Limits.{max_rows, max_union_rows}
use Rattle.definitions.specs.Word.{id_of}
use Rattle.definitions.specs.Image.{row_count, column_words, image_ids, cell_words, image_rows, image_of}
use Rattle.definitions.specs.OuterUnion.{union_ids, marks, union_columns, union_rows}
use Rattle.definitions.specs.MinimumUnion.{minimum_rows}
use Rattle.definitions.specs.Answer.{no}
use Rattle.definitions.specs.Calls.{Accepted, minimum_image}
use Rattle.definitions.specs.Claims.{Passed}
use Rattle.definitions.specs.Grouping.{ResultAsTable}
use Rattle.definitions.proofs.Minimum.{minimum_is}
use Rattle.definitions.proofs.Counts.{minimum_count}
use Rattle.definitions.proofs.Unions.{minimum_even}
use Rattle.definitions.proofs.UnionColumns.{columns_ids, columns_narrow, union_marks}
use Rattle.definitions.proofs.Questions.{rows_asked}
use Rattle.definitions.proofs.Images.{header_rows, image_columns, image_cells, image_rows_lem, accepted_rows, minimum_short}
use Rattle.definitions.proofs.TablePasses.{union_passes, accepted_cells}

module _ (a b : List ℕ) (c : Accepted a b) where
  -- the rows that stay
  abbrev stay : List (List ℕ)
  stay = minimum_rows (union_rows a b)

  pub result_columns : column_words (minimum_image a b) ≡ union_columns a b
  unfolding minimum_image
  result_columns = image_columns (union_columns a b) stay (columns_narrow a b c)

  pub result_ids : image_ids (minimum_image a b) ≡ union_ids a b
  result_ids = ap (map id_of) result_columns ∙ columns_ids a b

  pub result_marks : (id : ℕ) → marks (column_words (minimum_image a b)) id ≡ (marks (column_words a) id || marks (column_words b) id)
  result_marks id = ap (λ (l : List ℕ). marks l id) result_columns ∙ union_marks a b id

  pub result_rows : image_rows (minimum_image a b) ≡ stay
  unfolding minimum_image
  result_rows = image_rows_lem (union_columns a b) stay (columns_narrow a b c) (minimum_short a b c) (minimum_even a b)

  pub result_count : row_count (minimum_image a b) ≡ length stay
  unfolding minimum_image image_of
  result_count = header_rows (length stay) (length (union_columns a b)) (minimum_short a b c) (columns_narrow a b c)

  pub result_cells : cell_words (minimum_image a b) ≡ flatten stay
  unfolding minimum_image
  result_cells = image_cells (union_columns a b) stay (columns_narrow a b c)

  -- it passes the questions but for its number of rows, which is at most that of T
  result_passes : Passed max_union_rows (minimum_image a b)
  unfolding minimum_image
  result_passes =
      union_passes a b max_union_rows stay c (omega arith) (omega (arith, accepted_rows a b c, minimum_count (union_rows a b))) (minimum_even a b)
      (λ r h. accepted_cells a b c r ((minimum_is (union_rows a b) r).0 h).0)

pub result_as_table : ResultAsTable
result_as_table a b c =
    rows_asked max_union_rows max_rows (minimum_image a b) (result_passes a b c)
    ∙ ap (λ (n : ℕ). no (leb n max_rows) 3) (result_count a b c)
