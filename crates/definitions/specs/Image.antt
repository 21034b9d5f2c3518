-- Document 01, "Table image": what the words of an image are, and the image of a table.
use Rattle.std.specs.Prelude.{ℕ, zero, suc, ◌+◌, ◌*◌, Bool, ◌&&◌, eqb, length, get_or, take, drop}
use mathlib.Core.List.{List, [], ◌∷◌, ◌++◌, map, flatten}
use Rattle.definitions.specs.Word.{kind_of, rows_of, columns_of, header_spare, header_word, id_of, column_spare}

-- the first word; 0 stands for it in a list without words
abbrev pub header : List ℕ → ℕ
header image = get_or image 0 0

abbrev pub column_count : List ℕ → ℕ
column_count image = columns_of (header image)

abbrev pub row_count : List ℕ → ℕ
row_count image = rows_of (header image)

abbrev pub is_header : ℕ → Bool
is_header w = eqb (kind_of w) 3 && eqb (header_spare w) 0

abbrev pub is_column : ℕ → Bool
is_column w = eqb (kind_of w) 2 && eqb (column_spare w) 0

-- "Then a word for each column"
abbrev pub column_words : List ℕ → List ℕ
column_words image = take (column_count image) (drop 1 image)

-- "Ids .. are the schema map: equal ids in two images mean the same column."
abbrev pub image_ids : List ℕ → List ℕ
image_ids image = map id_of (column_words image)

-- "Then the cells, row by row."
abbrev pub cell_words : List ℕ → List ℕ
cell_words image = drop (1 + column_count image) image

-- the first n rows of c words each
abbrev pub rows_in : ℕ → ℕ → List ℕ → List (List ℕ)
rows_in c zero words = []
rows_in c (suc n) words = take c words ∷ rows_in c n (drop c words)

abbrev pub image_rows : List ℕ → List (List ℕ)
image_rows image = rows_in (column_count image) (row_count image) (cell_words image)

-- "With c columns and r rows an image has 1 + c + r × c words."
abbrev pub image_length : List ℕ → ℕ
image_length image = 1 + column_count image + row_count image * column_count image

-- the image of the table with these column words and rows
unfoldable pub image_of : List ℕ → List (List ℕ) → List ℕ
image_of columns rows = header_word (length rows) (length columns) ∷ (columns ++ flatten rows)
