-- Document 01, "The questions a call goes through": the questions 1 to 7, put to one table.
use Rattle.std.specs.Prelude.{ℕ, Bool, true, false, ◌&&◌, List, eqb, leb, ltb, length}
use Rattle.definitions.specs.Limits.{max_columns}
use Rattle.definitions.specs.Lists.{all, distinct}
use Rattle.definitions.specs.Word.{is_cell}
use Rattle.definitions.specs.Image.{header, column_count, row_count, is_header, is_column, column_words, image_ids, cell_words, image_length}

-- "Is there a first word, of kind 3, with bits 17 to 5 zero?"
abbrev pub has_header : List ℕ → Bool
has_header image = ltb 0 (length image) && is_header (header image)

-- "Are there 1 to 16 columns?"
abbrev pub columns_fit : List ℕ → Bool
columns_fit image = leb 1 (column_count image) && leb (column_count image) max_columns

-- "Are there at most 32 rows?"
abbrev pub rows_fit : ℕ → List ℕ → Bool
rows_fit limit image = leb (row_count image) limit

-- "Has the image exactly 1 + c + r × c words?"
abbrev pub length_fits : List ℕ → Bool
length_fits image = eqb (length image) (image_length image)

-- "Is every column word of kind 2 with bits 29 to 16 zero?", where by request A2 number 5 "lets bit 29 pass"
abbrev pub columns_right : List ℕ → Bool
columns_right image = all is_column (column_words image)

-- "Are the ids distinct?"
abbrev pub ids_distinct : List ℕ → Bool
ids_distinct image = distinct eqb (image_ids image)

-- "Is every cell either zero or of kind 1?", where by request A4 number 7 is given for a cell that is neither, "nor this word", `none`
abbrev pub cells_right : List ℕ → Bool
cells_right image = all is_cell (cell_words image)

-- a question: on a yes the rest, on a no its number
abbrev pub ask : Bool → ℕ → ℕ → ℕ
ask true number rest = rest
ask false number rest = number

-- "In order; the first no gives its number": 0 where all seven are answered yes. The row limit is a parameter.
unfoldable pub image_number : ℕ → List ℕ → ℕ
image_number limit image =
    ask (has_header image) 1
    (ask (columns_fit image) 2
    (ask (rows_fit limit image) 3
    (ask (length_fits image) 4
    (ask (columns_right image) 5
    (ask (ids_distinct image) 6
    (ask (cells_right image) 7
    0))))))
