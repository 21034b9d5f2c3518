-- Document 01, "Program `fuse`": its whole output, from the bytes of the two files. A missing file has none.
use Rattle.std.specs.Prelude.{ℕ, ◌+◌, ◌*◌, ◌%◌, ◌^◌, Bool, cond, eqb, length, take}
use mathlib.Core.List.{List, [], ◌∷◌, ◌++◌, map, flatten}
use Rattle.definitions.specs.Limits.{max_columns, max_union_rows, max_sets}
use Rattle.definitions.specs.OuterUnion.{union_ids, union_columns, union_rows}
use Rattle.definitions.specs.MinimumUnion.{filled, minimum_rows, pairs_tried}
use Rattle.definitions.specs.ComplementUnion.{union_sets, fused_rows}
use Rattle.definitions.specs.SetList.{fused_position}
use Rattle.definitions.specs.Answer.{Outcome, done, refused}
use Rattle.definitions.specs.Calls.{complement_outcome}
use Rattle.definitions.specs.Reading.{positions_of}
use Rattle.definitions.specs.Text.{ascii}
use Rattle.definitions.specs.Listing.{columns_line, union_title, minimum_title, sets_title, fused_title}
use Rattle.definitions.specs.Listing.{row_line, set_line, ragged_line, refused_line}

-- ---- files

-- "It reads at most 2,120 bytes a file"
abbrev pub max_bytes : ℕ
max_bytes = 2120

-- the word of four bytes, "low byte first"
abbrev pub word_of_bytes : ℕ → ℕ → ℕ → ℕ → ℕ
word_of_bytes a b c d = a + b * 2 ^ 8 + c * 2 ^ 16 + d * 2 ^ 24

-- the words of a list of bytes; bytes that fill no word make none
unfoldable pub words_of : List ℕ → List ℕ
words_of [] = []
words_of (a ∷ []) = []
words_of (a ∷ b ∷ []) = []
words_of (a ∷ b ∷ c ∷ []) = []
words_of (a ∷ b ∷ c ∷ d ∷ bytes) = word_of_bytes a b c d ∷ words_of bytes

-- ---- the listing of two images

-- the lines of the rows of a table
abbrev pub row_lines : List (List ℕ) → List ℕ
row_lines rows = flatten (map row_line rows)

-- the lines of sets of T
abbrev pub set_lines : List ℕ → List (List ℕ) → List (List Bool) → List ℕ
set_lines columns rows sets = flatten (map (λ set. set_line (positions_of 0 set) (fused_position columns rows set)) sets)

-- the columns and T; a listing shows no mark
unfoldable pub union_text : List ℕ → List ℕ → List ℕ
union_text a b =
    columns_line (union_ids a b)
    ++ (union_title (length (union_rows a b)) (filled (flatten (union_rows a b)))
    ++ row_lines (union_rows a b))

unfoldable pub minimum_text : List ℕ → List ℕ → List ℕ
minimum_text a b =
    minimum_title (length (minimum_rows (union_rows a b))) (filled (flatten (minimum_rows (union_rows a b))))
    (pairs_tried (union_rows a b))
    ++ row_lines (minimum_rows (union_rows a b))

unfoldable pub sets_text : List ℕ → List ℕ → List ℕ
sets_text a b =
    let sets = union_sets (union_columns a b) (union_rows a b) in
    sets_title (length sets) ++ set_lines (union_columns a b) (union_rows a b) sets

unfoldable pub fused_text : List ℕ → List ℕ → List ℕ
fused_text a b =
    let rows = fused_rows (union_columns a b) (union_rows a b) in
    fused_title (length rows) (filled (flatten rows)) ++ row_lines rows

unfoldable pub listing : List ℕ → List ℕ → List ℕ
listing a b = union_text a b ++ (minimum_text a b ++ (sets_text a b ++ fused_text a b))

-- ---- the program

-- "It lends 16,384 words for the table and 4,100 for the sets."
abbrev pub lent_table : ℕ
lent_table = 16384

abbrev pub lent_sets : ℕ
lent_sets = 4100

-- "If complement union is refused, the whole output is the line `refused N table K`."
abbrev pub unless_refused : Outcome → List ℕ → List ℕ
unless_refused (done values) text = text
unless_refused (refused number table) text = refused_line number table

-- the text for two images; `printed` tells what is printed of them where complement union isn't refused
unfoldable pub unions_text : (List ℕ → List ℕ → List ℕ) → List ℕ → List ℕ → List ℕ
unions_text printed a b = unless_refused (complement_outcome a b lent_table lent_sets) (printed a b)

-- "If the bytes read of a file aren't a multiple of 4, its whole output is one line, `ragged` and that file's name"
abbrev pub unless_ragged : List ℕ → List ℕ → List ℕ → List ℕ
unless_ragged name bytes text = cond (eqb (length bytes % 4) 0) text (ragged_line name)

-- what is written for the bytes read; "board.tbl is named if both are so"
unfoldable pub read_text : (List ℕ → List ℕ → List ℕ) → List ℕ → List ℕ → List ℕ
read_text printed board plant =
    unless_ragged (ascii "board.tbl") board
    (unless_ragged (ascii "plant.tbl") plant
    (unions_text printed (words_of board) (words_of plant)))

-- the whole output for the bytes of two files
unfoldable pub whole_text : (List ℕ → List ℕ → List ℕ) → List ℕ → List ℕ → List ℕ
whole_text printed board plant = read_text printed (take max_bytes board) (take max_bytes plant)

-- that of `fuse`
abbrev pub fuse_text : List ℕ → List ℕ → List ℕ
fuse_text = whole_text listing

-- ---- its greatest length, over the limits

-- a row line: at most ten digits a cell, a byte behind each, and the line's end
abbrev pub row_bytes : ℕ
row_bytes = 11 * max_columns + 1

-- a set line: at most two digits a position and a byte behind each, `>`, a space, a position of at most four digits,
-- and the line's end
abbrev pub set_bytes : ℕ
set_bytes = 3 * max_union_rows + 7

-- the title lines: the columns with ids of at most five digits, and four titles of at most three numbers of five digits
abbrev pub title_bytes : ℕ
title_bytes = 6 * max_columns + 8 + 4 * 26

-- no output is longer
abbrev pub max_text : ℕ
max_text = title_bytes + (2 * max_union_rows + max_sets) * row_bytes + max_sets * set_bytes
