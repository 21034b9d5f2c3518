-- Document 01, "Complementation and complement union": the words of the set list.
use Rattle.std.specs.Prelude.{ℕ, zero, suc, ◌+◌, ◌*◌, ◌/◌, ◌%◌, ◌^◌, Bool, cond, length}
use mathlib.Core.List.{List, [], ◌∷◌, ◌++◌, map, flatten}
use Rattle.definitions.specs.Limits.{mark_words}
use Rattle.definitions.specs.Lists.{find_index}
use Rattle.definitions.specs.Word.{word_of, header_word}
use Rattle.definitions.specs.ComplementUnion.{same_row, union_sets, joined, fused_rows}

-- a set as bits of a number: bit k says whether position k is in it
unfoldable pub bits : List Bool → ℕ
bits [] = 0
bits (m ∷ s) = cond m 1 0 + 2 * bits s

-- n words of kind 2 "whose low 30 bits mark positions 0–29, 30–59 and 60–63 (lowest bit first, unused bits zero)"
unfoldable pub marks_from : ℕ → ℕ → List ℕ
marks_from zero set = []
marks_from (suc n) set = word_of 2 (set % 2 ^ 30) ∷ marks_from n (set / 2 ^ 30)

-- "the joined row's position in the fused table"
abbrev pub fused_position : List ℕ → List (List ℕ) → List Bool → ℕ
fused_position columns rows s = find_index (same_row (joined rows s)) (fused_rows columns rows)

-- a record: m mark words of a set, "and one of kind 1 with the joined row's position"
unfoldable pub record_of : ℕ → ℕ → ℕ → List ℕ
record_of m set position = marks_from m set ++ (word_of 1 position ∷ [])

unfoldable pub set_record : List ℕ → List (List ℕ) → List Bool → List ℕ
set_record columns rows s = record_of mark_words (bits s) (fused_position columns rows s)

-- "a header of kind 3 (bits 29 to 18 the number of sets, bits 4 to 0 the width ..), then" the records
unfoldable pub list_of : ℕ → List (List ℕ) → List ℕ
list_of m records = header_word (length records) (suc m) ∷ flatten records

-- "The set list is a header of kind 3 .. then 4 words a set"
unfoldable pub set_list : List ℕ → List (List ℕ) → List ℕ
set_list columns rows = list_of mark_words (map (set_record columns rows) (union_sets columns rows))
