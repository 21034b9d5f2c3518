-- Request A3: the terms in which its claims are stated: the bytes of a page, a cell that stands on one, and a call that is done.
use Rattle.std.specs.Prelude.{◌≡◌, ◌↔◌, List, [], ◌∷◌, ℕ, ◌+◌, ◌*◌, ◌%◌, ◌≤◌, ◌<◌, length, get_or, take, drop}
use Rattle.definitions.specs.Limits.{max_stored_rows}
use Rattle.definitions.specs.Image.{column_words, image_rows}
use Rattle.definitions.specs.Text.{decimal, id_text, cell_text}
use Rattle.definitions.specs.Page.{line_width, position_width, cell_width, flush_right, band_columns, page_rows, page_count, page_bytes}
use Rattle.definitions.specs.Claims.{Passed}

-- a line's characters and the byte 10
abbrev pub line_bytes : ℕ
line_bytes = line_width + 1

-- "Line 1 holds ids, the other lines rows."
abbrev pub page_lines : ℕ
page_lines = 1 + page_rows

-- the bytes of a page: there is a byte 10 behind each 80 characters, and nowhere else
pub record IsPage (bytes : List ℕ) : Type 0 where
  pub size : length bytes ≡ page_bytes
  pub lines : (i : ℕ) → i < page_bytes → (get_or bytes i 0 ≡ 10) ↔ (i % line_bytes ≡ line_width)

-- a place for a cell: the page, the line on it and the field of that line, each from 0
pub record CellPlace : Type 0 where
  pub on_page : ℕ
  pub on_line : ℕ
  pub field : ℕ
  pub a_line : on_line < page_lines
  pub a_field : field < band_columns

-- how many characters of a line stand before a field
abbrev pub before_field : ℕ → ℕ
before_field field = position_width + field * cell_width

-- so many bytes from an index on
abbrev pub bytes_at : ℕ → ℕ → List ℕ → List ℕ
bytes_at at n bytes = take n (drop at bytes)

-- bytes that begin with a page show the cell of a row and a column of an image at a place: the place holds the cell's text flushed
-- right, its line begins with the row's position, and the same field of the first line holds the column's id
pub record CellShown (image : List ℕ) (row column : ℕ) (place : CellPlace) (bytes : List ℕ) : Type 0 where
  pub cell : bytes_at (place.on_line * line_bytes + before_field place.field) cell_width bytes
      ≡ flush_right cell_width (cell_text (get_or (get_or (image_rows image) row []) column 0))
  pub position : bytes_at (place.on_line * line_bytes) position_width bytes ≡ flush_right position_width (decimal row)
  pub id : bytes_at (before_field place.field) cell_width bytes ≡ flush_right cell_width (id_text (get_or (column_words image) column 0))

-- demand 1: a page is written where the image passes the questions 1 to 7, the page exists and the buffer has room for it
pub record PageDone (image : List ℕ) (n room : ℕ) (values : List ℕ) : Type 0 where
  pub accepted : Passed max_stored_rows image
  pub exists : n < page_count image
  pub bytes_room : page_bytes ≤ room
  pub carries : values ≡ page_count image ∷ []
