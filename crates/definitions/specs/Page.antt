-- Request A3, "The table on a page": the lines of a page, which columns and rows stand on it, how many pages there are, and the checks.
use Rattle.std.specs.Prelude.{ℕ, ◌+◌, ◌*◌, ◌-◌, ◌/◌, ◌%◌, max, cond, leb, ltb, length, get_or, take, drop, replicate}
use mathlib.Core.List.{List, [], ◌∷◌, ◌++◌, map, flatten}
use Rattle.std.specs.Int.{div_ceil}
use Rattle.definitions.specs.Limits.{max_stored_rows}
use Rattle.definitions.specs.Lists.{tabulate}
use Rattle.definitions.specs.Image.{column_count, row_count, column_words, image_rows}
use Rattle.definitions.specs.Questions.{image_number}
use Rattle.definitions.specs.Answer.{Outcome, done, unless, no}
use Rattle.definitions.specs.Text.{decimal, id_text, cell_text}

-- ---- a line

-- "lines of exactly 80 characters and a byte 10"
abbrev pub line_width : ℕ
line_width = 80

-- "Characters 1–4 hold the row position"
abbrev pub position_width : ℕ
position_width = 4

-- "cells of 12 characters"
abbrev pub cell_width : ℕ
cell_width = 12

abbrev pub blanks : ℕ → List ℕ
blanks n = replicate n 32

-- "flushed right" in so many characters
abbrev pub flush_right : ℕ → List ℕ → List ℕ
flush_right width text = blanks (width - length text) ++ text

-- the position and the cells of a line, "all flushed right"
abbrev pub line_text : List ℕ → List (List ℕ) → List ℕ
line_text position cells = flush_right position_width position ++ flatten (map (flush_right cell_width) cells)

-- "then blanks", up to 80 characters, and byte 10
unfoldable pub page_line : List ℕ → List (List ℕ) → List ℕ
page_line position cells =
    let text : List ℕ = line_text position cells in
    (text ++ blanks (line_width - length text)) ++ (10 ∷ [])

-- ---- a page

-- "Columns go in bands of six"
abbrev pub band_columns : ℕ
band_columns = 6

-- what a list with an element for each column has in a band
abbrev pub in_band : {A : Type 0} → ℕ → List A → List A
in_band band l = take band_columns (drop (band_columns * band) l)

-- "59 rows a page"
abbrev pub page_rows : ℕ
page_rows = 59

-- "Line 1 holds ids": the position is "blank in line 1"
abbrev pub ids_line : List ℕ → ℕ → List ℕ
ids_line image band = page_line [] (map id_text (in_band band (column_words image)))

-- "the other lines rows": the line of the row at a position of the image. "An empty cell is shown as `-`."
abbrev pub cells_line : List ℕ → ℕ → ℕ → List ℕ
cells_line image band position = page_line (decimal position) (map cell_text (in_band band (get_or (image_rows image) position [])))

-- "unused lines are blank"
abbrev pub line_at : List ℕ → ℕ → ℕ → List ℕ
line_at image band position = cond (ltb position (row_count image)) (cells_line image band position) (page_line [] [])

-- line i below the ids, on the page of a band that shows its rows from 59 × part on
abbrev pub line_on : List ℕ → ℕ → ℕ → ℕ → List ℕ
line_on image band part i = line_at image band (page_rows * part + i)

unfoldable pub band_page : List ℕ → ℕ → ℕ → List ℕ
band_page image band part = ids_line image band ++ flatten (tabulate page_rows (line_on image band part))

-- ---- the pages of a table

-- "59 rows a page", on the last one perhaps fewer; "A table without rows has one page a band."
abbrev pub band_pages : List ℕ → ℕ
band_pages image = max 1 (div_ceil (row_count image) page_rows)

-- the pages of all bands; the last band may have fewer than six columns
abbrev pub page_count : List ℕ → ℕ
page_count image = div_ceil (column_count image) band_columns * band_pages image

-- "the first six down all rows, 59 rows a page, then the next six from the first row again. .. Pages count from 0"
unfoldable pub page : List ℕ → ℕ → List ℕ
page image n = band_page image (n / band_pages image) (n % band_pages image)

-- page after page
unfoldable pub all_pages : List ℕ → List ℕ
all_pages image = flatten (tabulate (page_count image) (page image))

-- ---- the call

-- "60 lines of exactly 80 characters and a byte 10, 4,860 bytes"
abbrev pub page_bytes : ℕ
page_bytes = 4860

-- "then 15 for a page that doesn't exist, then 16 for fewer than 4,860 bytes"; "a done answer carries how many there are"
abbrev pub exists_outcome : List ℕ → ℕ → ℕ → Outcome
exists_outcome image n room =
    unless (no (ltb n (page_count image)) 15) 2
    (unless (no (leb page_bytes room) 16) 2
    (done (page_count image ∷ [])))

-- "1 to 7 of the image with 1,024 in place of 32"
unfoldable pub page_outcome : List ℕ → ℕ → ℕ → Outcome
page_outcome image n room = unless (image_number max_stored_rows image) 0 (exists_outcome image n room)
