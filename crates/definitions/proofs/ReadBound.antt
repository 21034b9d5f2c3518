-- How many words are read of an accepted list, at most: its buffer can be lent once for all. Assumes nothing.
use mathlib.Core.List.{List, [], ◌∷◌, map}
use Prim.Native.Nat.{ℕ, ◌+◌, ◌*◌, ◌≤◌}
use native.Mathlib.Omega.{arith}
use lib.ListN.{length, length-append, length-map}
use Rattle.definitions.specs.Limits.{mark_words, max_union_rows, max_sets}
use Rattle.definitions.specs.Reading.{records_in, set_in, positions_in, joined_position}
use Rattle.definitions.specs.ReadBack.{read_record, read_words}
use Rattle.definitions.specs.Claims.{AcceptedList}
use Rattle.definitions.proofs.Positions.{positions_few}
use Rattle.definitions.proofs.ListChecks.{ValidRecord}
use Rattle.definitions.proofs.WrittenAgain.{accepted_form, accepted_valid}
use Rattle.definitions.proofs.Reading.{records_count}
use Rattle.definitions.proofs.Lines.{at_most_map, flatten_bound}

-- of a record: the number of its members, a word for each, at most one a row, and the joined row's position
pub entry_bound : (m rows : ℕ) (words : List ℕ) → ValidRecord m rows words → length (read_record m words) ≤ rows + 2
entry_bound m rows words s =
    let few = positions_few rows 0 (set_in m words) s.in_rows in
    omega (arith, length-append (positions_in m words) (joined_position m words ∷ []))

pub read_words_bound : {rows : ℕ} {list : List ℕ} → AcceptedList rows list
    → length (read_words mark_words list) ≤ max_sets * (max_union_rows + 2)
unfolding read_words
read_words_bound {rows} {list} c =
    let l = accepted_form c in
    let records = records_in mark_words list in
    let each = flatten_bound (max_union_rows + 2) (map (read_record mark_words) records)
    (at_most_map (max_union_rows + 2) (read_record mark_words) records
    (λ words h. omega (arith, l.few_rows, entry_bound mark_words rows words (accepted_valid c words h)))) in
    let size = length-map records (read_record mark_words) in
    omega (arith, l.few_sets, records_count mark_words list)
