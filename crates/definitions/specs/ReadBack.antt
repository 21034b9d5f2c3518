-- Request A1, "Reading a set list back": the words that are written of a list, the checks, and lists made or written again.
-- A record has m mark words; `rows` is "the number of rows in T" that the caller gives.
use Rattle.std.specs.Prelude.{ℕ, zero, suc, ◌+◌, ◌*◌, Bool, ◌&&◌, eqb, leb, ltb, length, get_or, take, drop}
use mathlib.Core.List.{List, [], ◌∷◌, ◌++◌, map, flatten}
use Rattle.definitions.specs.Limits.{max_union_rows, max_sets, mark_words, marks_per_word}
use Rattle.definitions.specs.Lists.{all, any, tabulate}
use Rattle.definitions.specs.Word.{kind_of}
use Rattle.definitions.specs.Image.{column_count}
use Rattle.definitions.specs.Ascending.{is_ascending}
use Rattle.definitions.specs.ComplementUnion.{compare_set, union_sets}
use Rattle.definitions.specs.SetList.{bits, fused_position, record_of, list_of}
use Rattle.definitions.specs.Questions.{has_header, ask}
use Rattle.definitions.specs.Answer.{Outcome, done, unless}
use Rattle.definitions.specs.Calls.{enough_room}
use Rattle.definitions.specs.Reading.{set_count, records_in, set_in, positions_of, positions_in, joined_position}

-- ---- what is written

-- what a record tells: the positions of the set's members, ascending, and the joined row's position
pub record Entry : Type 0 where
  pub members : List ℕ
  pub position_of_joined : ℕ

abbrev pub entry_in : ℕ → List ℕ → Entry
entry_in m words = record { members = positions_in m words; position_of_joined = joined_position m words }

-- "without kind bits, the number of members, the positions ascending and the joined row's position"
abbrev pub entry_words : Entry → List ℕ
entry_words entry = length entry.members ∷ (entry.members ++ (entry.position_of_joined ∷ []))

abbrev pub read_record : ℕ → List ℕ → List ℕ
read_record m words = entry_words (entry_in m words)

-- "For each set it writes": the words of a list that is read
unfoldable pub read_words : ℕ → List ℕ → List ℕ
read_words m list = flatten (map (read_record m) (records_in m list))

-- ---- the checks, each true where its number isn't given

-- 12: "if the row count is over 64, the header isn't as document 01 says or counts more than 1,024 sets, or the length isn't
-- 1 + 4 × sets"
unfoldable pub is_set_list : ℕ → ℕ → List ℕ → Bool
is_set_list m rows list =
    leb rows max_union_rows
    && (has_header list && eqb (column_count list) (suc m))
    && leb (set_count list) max_sets
    && eqb (length list) (1 + suc m * set_count list)

-- 13: "for a wrong kind,"
abbrev pub are_mark_words : List ℕ → Bool
are_mark_words marks = all (λ w. eqb (kind_of w) 2) marks

abbrev pub kinds_right : ℕ → List ℕ → Bool
kinds_right m words = are_mark_words (take m words) && eqb (kind_of (get_or words m 0)) 1

-- "an unused bit set, an empty set, a position not in T": an unused bit marks a position from 64 on, and T has at most 64 rows
-- where 12 isn't given
abbrev pub positions_right : ℕ → List ℕ → Bool
positions_right rows positions = ltb 0 (length positions) && all (λ p. ltb p rows) positions

-- "or a joined row's position above 1,023"
unfoldable pub is_record : ℕ → ℕ → List ℕ → Bool
is_record m rows words =
    kinds_right m words && positions_right rows (positions_in m words) && ltb (joined_position m words) max_sets

-- 14: "if records don't strictly follow the set order"
abbrev pub in_set_order : ℕ → List ℕ → Bool
in_set_order m list = is_ascending compare_set (map (set_in m) (records_in m list))

-- "first 12 ..; then over all records 13 ..; then 14": 0 where none of them is given
unfoldable pub list_number : ℕ → ℕ → List ℕ → ℕ
list_number m rows list =
    ask (is_set_list m rows list) 12
    (ask (all (is_record m rows) (records_in m list)) 13
    (ask (in_set_order m list) 14
    0))

-- "then 10 for a short buffer", one of fewer words than are to be written. "the done answer carries the sets and the words
-- written"
abbrev pub words_room : ℕ → List ℕ → ℕ → Outcome
words_room sets words room = enough_room words room (done (sets ∷ length words ∷ []))

unfoldable pub read_outcome : List ℕ → ℕ → ℕ → Outcome
read_outcome list rows room =
    unless (list_number mark_words rows list) 2 (words_room (set_count list) (read_words mark_words list) room)

-- ---- "the sets that made it"

abbrev pub made_entry : List ℕ → List (List ℕ) → List Bool → Entry
made_entry columns rows s = record { members = positions_of 0 s; position_of_joined = fused_position columns rows s }

-- the words of T's sets and of the positions of their joined rows
unfoldable pub made_words : List ℕ → List (List ℕ) → List ℕ
made_words columns rows = flatten (map (λ s. entry_words (made_entry columns rows s)) (union_sets columns rows))

-- ---- "written again by document 01's layout"

-- the entries of so many sets, from the words that were written of them
unfoldable pub entries_of : ℕ → List ℕ → List Entry
entries_of zero words = []
entries_of (suc n) [] = []
entries_of (suc n) (count ∷ words) =
    record { members = take count words; position_of_joined = get_or words count 0 } ∷ entries_of n (drop (suc count) words)

-- the set of these positions, of those that m mark words hold
abbrev pub set_of : ℕ → List ℕ → List Bool
set_of m positions = tabulate (marks_per_word * m) (λ p. any (eqb p) positions)

abbrev pub record_again : ℕ → Entry → List ℕ
record_again m entry = record_of m (bits (set_of m entry.members)) entry.position_of_joined

-- the list of entries
unfoldable pub list_again : ℕ → List Entry → List ℕ
list_again m entries = list_of m (map (record_again m) entries)
