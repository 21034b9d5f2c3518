-- Texts of words: the lines of a table in a buffer, and those of a set list.
use Rattle.std.specs.Prelude.{ℕ, ◌+◌, ◌*◌, ◌≤◌, length, drop}
use mathlib.Core.List.{List, [], ◌∷◌, ◌++◌, map, flatten}
use Rattle.definitions.specs.Limits.{set_width, mark_words}
use Rattle.definitions.specs.Word.{id_of}
use Rattle.definitions.specs.Image.{column_count, cell_words, rows_in}
use Rattle.definitions.specs.Reading.{positions_in, joined_position}
use Rattle.definitions.specs.Text.{decimal}
use Rattle.definitions.specs.Listing.{columns_line, union_title, set_line}
use Rattle.definitions.specs.Program.{row_lines}
use Rattle.text.specs.Bytes.{space}

-- ---- a table

-- the words of an image reach to the end of its first n rows
abbrev pub HasRows : List ℕ → ℕ → Type 0
HasRows image n = 1 + column_count image + n * column_count image ≤ length image

-- these rows
abbrev pub first_rows : List ℕ → ℕ → List (List ℕ)
first_rows image n = rows_in (column_count image) n (cell_words image)

-- their lines
abbrev pub table_lines : List ℕ → ℕ → List ℕ
table_lines image n = row_lines (first_rows image n)

-- the columns, the title of T, and its rows
abbrev pub union_lines : List ℕ → List (List ℕ) → ℕ → List ℕ
union_lines column_words rows filled = columns_line (map id_of column_words) ++ (union_title (length rows) filled ++ row_lines rows)

-- ---- the set list

-- the set line of a record
abbrev pub record_line : List ℕ → List ℕ
record_line words = set_line (positions_in mark_words words) (joined_position mark_words words)

-- the lines of records
abbrev pub records_lines : List (List ℕ) → List ℕ
records_lines records = flatten (map record_line records)

-- the lines of the first n records of a set list, behind its header
abbrev pub list_lines : List ℕ → ℕ → List ℕ
list_lines list n = records_lines (rows_in set_width n (drop 1 list))

-- positions with a space behind each: the start of a set line
unfoldable pub positions_text : List ℕ → List ℕ
positions_text [] = []
positions_text (position ∷ positions) = decimal position ++ (space ∷ positions_text positions)
