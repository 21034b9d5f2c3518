-- The limits of document 01 on tables, unions and sets, and of the requests, each by name, and here alone.
use Rattle.std.specs.Prelude.{ℕ, ◌+◌}

-- "A source table has 1 to 16 columns and 0 to 32 rows." A union has at most 16 columns too.
abbrev pub max_columns : ℕ
max_columns = 16

-- two tables have at most this many ids
abbrev pub max_ids : ℕ
max_ids = max_columns + max_columns

abbrev pub max_rows : ℕ
max_rows = 32

-- so that T has at most this many rows
abbrev pub max_union_rows : ℕ
max_union_rows = max_rows + max_rows

-- "are there at most 1,024 maximal sets?"
abbrev pub max_sets : ℕ
max_sets = 1024

-- the rows of a table that is stored, as a fused table may have them. Request A3: "1 to 7 of the image with 1,024 in place of 32"
abbrev pub max_stored_rows : ℕ
max_stored_rows = 1024

-- "then 4 words a set: three of kind 2 whose low 30 bits mark positions .. and one of kind 1"
abbrev pub mark_words : ℕ
mark_words = 3

-- "whose low 30 bits mark positions"
abbrev pub marks_per_word : ℕ
marks_per_word = 30

abbrev pub set_width : ℕ
set_width = mark_words + 1
