-- Document 01, "Program `fuse`": its lines.
use Rattle.std.specs.Prelude.{ℕ, List, [], ◌∷◌, ◌++◌, map}
use Rattle.definitions.specs.Text.{ascii, decimal, cell_text}

-- "Fields have one space between them, lines end with byte 10."
unfoldable pub line : List (List ℕ) → List ℕ
line [] = 10 ∷ []
line (f ∷ []) = f ++ (10 ∷ [])
line (f ∷ g ∷ fields) = f ++ (32 ∷ line (g ∷ fields))

-- "Title lines": a word and numbers
abbrev pub title_line : List ℕ → List ℕ → List ℕ
title_line title numbers = line (title ∷ map decimal numbers)

-- "After `columns` stand the ids."
abbrev pub columns_line : List ℕ → List ℕ
columns_line ids = title_line (ascii "columns") ids

-- "Title lines give rows and filled cells, for `minimum` also pairs tried, for `sets` the number of sets."
abbrev pub union_title : ℕ → ℕ → List ℕ
union_title rows filled = title_line (ascii "union") (rows ∷ filled ∷ [])

abbrev pub minimum_title : ℕ → ℕ → ℕ → List ℕ
minimum_title rows filled pairs = title_line (ascii "minimum") (rows ∷ filled ∷ pairs ∷ [])

abbrev pub sets_title : ℕ → List ℕ
sets_title sets = title_line (ascii "sets") (sets ∷ [])

abbrev pub fused_title : ℕ → ℕ → List ℕ
fused_title rows filled = title_line (ascii "fused") (rows ∷ filled ∷ [])

-- "A row line gives the row's cells."
abbrev pub row_line : List ℕ → List ℕ
row_line cells = line (map cell_text cells)

-- "A set line gives positions in T, then `>`, then the fused row's position."
abbrev pub set_line : List ℕ → ℕ → List ℕ
set_line positions position = line (map decimal positions ++ (ascii ">" ∷ decimal position ∷ []))

-- "one line, `ragged` and that file's name"
abbrev pub ragged_line : List ℕ → List ℕ
ragged_line name = line (ascii "ragged" ∷ name ∷ [])

-- "the line `refused N table K`"
abbrev pub refused_line : ℕ → ℕ → List ℕ
refused_line number table = line (ascii "refused" ∷ decimal number ∷ ascii "table" ∷ decimal table ∷ [])
