-- Document 01, "Complementation and complement union": the words of a set list, read.
-- A record has m mark words and a row word.
use Rattle.std.specs.Prelude.{ℕ, suc, ◌*◌, ◌/◌, ◌%◌, ◌^◌, Bool, cond, List, [], ◌∷◌, ◌++◌, eqb, get_or, drop}
use Rattle.definitions.specs.Limits.{marks_per_word}
use Rattle.definitions.specs.Lists.{tabulate}
use Rattle.definitions.specs.Word.{rows_of}
use Rattle.definitions.specs.Image.{header, rows_in}

-- "a header of kind 3 (bits 29 to 18 the number of sets ..)"
abbrev pub set_count : List ℕ → ℕ
set_count list = rows_of (header list)

-- "then 4 words a set": the records, each of m mark words and a row word
abbrev pub records_in : ℕ → List ℕ → List (List ℕ)
records_in m list = rows_in (suc m) (set_count list) (drop 1 list)

-- "whose low 30 bits mark positions 0–29, 30–59 and 60–63 (lowest bit first ..)"
abbrev pub mark_at : List ℕ → ℕ → Bool
mark_at words p = eqb (get_or words (p / marks_per_word) 0 / 2 ^ (p % marks_per_word) % 2) 1

-- a record's marks of n positions, as a set
unfoldable pub marks_in : ℕ → List ℕ → List Bool
marks_in n words = tabulate n (mark_at words)

-- the set of a record: the marks of all positions that its mark words hold
abbrev pub set_in : ℕ → List ℕ → List Bool
set_in m words = marks_in (marks_per_word * m) words

-- the positions of a set, ascending, from a position on
unfoldable pub positions_of : ℕ → List Bool → List ℕ
positions_of from [] = []
positions_of from (b ∷ set) = cond b (from ∷ []) [] ++ positions_of (suc from) set

-- the positions of a record's set
abbrev pub positions_in : ℕ → List ℕ → List ℕ
positions_in m words = positions_of 0 (set_in m words)

-- "and one of kind 1 with the joined row's position in the fused table"
abbrev pub joined_position : ℕ → List ℕ → ℕ
joined_position m words = get_or words m 0 % 2 ^ 30
