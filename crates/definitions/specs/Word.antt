-- Document 01, "Table image", with the marks of request A2 and the cell `none` of request A4: a 32-bit word and its fields. Bit 0 is the
-- lowest.
use Rattle.std.specs.Prelude.{ℕ, ◌+◌, ◌*◌, ◌/◌, ◌%◌, ◌^◌, Bool, cond, not, ◌||◌, eqb}

-- "A word's top two bits are its kind"
abbrev pub kind_of : ℕ → ℕ
kind_of w = w / 2 ^ 30

-- a word of a kind with its low 30 bits
abbrev pub word_of : ℕ → ℕ → ℕ
word_of kind low = kind * 2 ^ 30 + low

-- "Header, kind 3: bits 29 to 18 hold the number of rows, bits 4 to 0 the number of columns, bits 17 to 5 are zero."
abbrev pub rows_of : ℕ → ℕ
rows_of w = w / 2 ^ 18 % 2 ^ 12

abbrev pub columns_of : ℕ → ℕ
columns_of w = w % 2 ^ 5

abbrev pub header_spare : ℕ → ℕ
header_spare w = w / 2 ^ 5 % 2 ^ 13

abbrev pub header_word : ℕ → ℕ → ℕ
header_word rows columns = word_of 3 (rows * 2 ^ 18 + columns)

-- "Then a word for each column, kind 2: bits 15 to 0 hold the column id"
abbrev pub id_of : ℕ → ℕ
id_of w = w % 2 ^ 16

-- request A2: "Bit 29 of a column word becomes the mark."
abbrev pub mark_of : ℕ → Bool
mark_of w = eqb (w / 2 ^ 29 % 2) 1

-- bits 28 to 16 are zero: the question with number 5 "lets bit 29 pass" alone
abbrev pub column_spare : ℕ → ℕ
column_spare w = w / 2 ^ 16 % 2 ^ 13

-- the column word of an id, marked or not
abbrev pub column_word : ℕ → Bool → ℕ
column_word id mark = word_of 2 (cond mark (2 ^ 29) 0 + id)

-- request A4: "A cell of kind 2 with all other bits zero" says "there is none"
abbrev pub none : ℕ
none = word_of 2 0

-- "Kind 0 with all other bits zero is the empty cell. Kind 1 is a filled cell", and of `none` request A4 says: "It is filled"
abbrev pub is_filled : ℕ → Bool
is_filled w = not (eqb w 0)

-- a word that may stand as a cell: "number 7 is given for a cell that is neither zero, nor of kind 1, nor this word"
abbrev pub is_cell : ℕ → Bool
is_cell w = eqb w 0 || eqb (kind_of w) 1 || eqb w none
