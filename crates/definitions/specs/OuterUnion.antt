-- Document 01, "Outer union", and request A2's marks: the columns of the union, rows widened by empty cells, and T.
use Rattle.std.specs.Prelude.{ℕ, Bool, cond, ◌&&◌, ◌||◌, List, [], ◌∷◌, ◌++◌, map, eqb, ltb, get_or}
use Rattle.std.specs.declared.cmp.Ordering.{Ordering}
use Rattle.std.specs.declared.cmp.Ordering.TheVariants.{Less, Equal, Greater}
use Rattle.definitions.specs.Lists.{any, find_index}
use Rattle.definitions.specs.Word.{id_of, mark_of, column_word}
use Rattle.definitions.specs.Image.{column_words, image_ids, image_rows}
use Rattle.definitions.specs.Ascending.{ascending}

-- words as unsigned numbers
abbrev pub compare_word : ℕ → ℕ → Ordering
compare_word x y = cond (ltb x y) Less (cond (ltb y x) Greater Equal)

abbrev pub then_by : Ordering → Ordering → Ordering
then_by Less later = Less
then_by Equal later = later
then_by Greater later = Greater

-- "rows are compared by their words as unsigned numbers, first column first"
unfoldable pub compare_row : List ℕ → List ℕ → Ordering
compare_row [] [] = Equal
compare_row [] (y ∷ t) = Less
compare_row (x ∷ s) [] = Greater
compare_row (x ∷ s) (y ∷ t) = then_by (compare_word x y) (compare_row s t)

-- "Its columns are the ids of both tables, ascending, each once."
unfoldable pub union_ids : List ℕ → List ℕ → List ℕ
union_ids a b = ascending compare_word (image_ids a ++ image_ids b)

-- one of a table's column words has the id and the mark
abbrev pub marks : List ℕ → ℕ → Bool
marks words id = any (λ w. eqb id (id_of w) && mark_of w) words

-- the union's word for an id, told by the column words of both tables: "A column is marked in the union if either table marks it."
abbrev pub union_column : List ℕ → List ℕ → ℕ → ℕ
union_column first second id = column_word id (marks first id || marks second id)

-- the union's column words
unfoldable pub union_columns : List ℕ → List ℕ → List ℕ
union_columns a b = map (union_column (column_words a) (column_words b)) (union_ids a b)

-- the cell of a row in the column with an id; the empty cell where its table lacks that column
abbrev pub cell_in : List ℕ → List ℕ → ℕ → ℕ
cell_in ids row id = get_or row (find_index (eqb id) ids) 0

-- "Each row gets empty cells in columns that its table lacks."
unfoldable pub widened : List ℕ → List ℕ → List ℕ → List ℕ
widened union ids row = map (cell_in ids row) union

unfoldable pub widened_rows : List ℕ → List ℕ → List (List ℕ)
widened_rows union image = map (widened union (image_ids image)) (image_rows image)

-- T, a term of document 01: "T is the list of distinct rows, ascending". A position, its term too, is the index of a row
-- in T, from 0.
unfoldable pub union_rows : List ℕ → List ℕ → List (List ℕ)
union_rows a b = ascending compare_row (widened_rows (union_ids a b) a ++ widened_rows (union_ids a b) b)
