-- What it is for a set list to be accepted and for its reader to be done: a yes to each check, and the values that the
-- answer carries. Assumes nothing.
use mathlib.Core.Path.{◌≡◌, refl, sym, ◌∙◌, ap}
use mathlib.Core.Bool.{true}
use mathlib.Core.Logic.{◌↔◌}
use mathlib.Core.List.{List, map}
use Prim.Native.Nat.{ℕ}
use lib.Dec.{leb}
use lib.ListN.{length}
use Rattle.definitions.specs.Limits.{mark_words}
use Rattle.definitions.specs.Lists.{all}
use Rattle.definitions.specs.ComplementUnion.{compare_set}
use Rattle.definitions.specs.Answer.{done, no}
use Rattle.definitions.specs.Reading.{records_in, set_in}
use Rattle.definitions.specs.ReadBack.{read_words, is_set_list, is_record, in_set_order, list_number, read_outcome}
use Rattle.definitions.specs.Statements.{StrictlyAscending}
use Rattle.definitions.specs.Claims.{AcceptedList, ReadDone}
use Rattle.definitions.specs.Promise.{ReadPromise}
use Rattle.definitions.proofs.Ascending.{neighbours_ascend}
use Rattle.definitions.proofs.Orders.{sets}
use Rattle.definitions.proofs.Questions.{ask_passed, asks}
use Rattle.definitions.proofs.Outcomes.{unless_done, unless_passed, within_done, within_passed, same_values}

module _ (rows : ℕ) (list : List ℕ) where
  pub accepted_list : (list_number mark_words rows list ≡ 0) ↔ AcceptedList rows list
  unfolding list_number
  accepted_list = (to, from)
    where
      order : (in_set_order mark_words list ≡ true)
          ↔ StrictlyAscending compare_set (map (set_in mark_words) (records_in mark_words list))
      order = neighbours_ascend sets (map (set_in mark_words) (records_in mark_words list))

      to : list_number mark_words rows list ≡ 0 → AcceptedList rows list
      to e =
          let q12 = ask_passed (is_set_list mark_words rows list) 11 _ e in
          let q13 = ask_passed (all (is_record mark_words rows) (records_in mark_words list)) 12 _ q12.1 in
          let q14 = ask_passed (in_set_order mark_words list) 13 _ q13.1 in
          record { listed = q12.0; records = q13.0; ordered = order.0 q14.0 }

      from : AcceptedList rows list → list_number mark_words rows list ≡ 0
      from c = asks _ 12 _ c.listed (asks _ 13 _ c.records (asks _ 14 _ (order.1 c.ordered) refl))

pub read_done : (list : List ℕ) (rows room : ℕ) (values : List ℕ)
    → (read_outcome list rows room ≡ done values) ↔ ReadDone list rows room values
unfolding read_outcome
read_done list rows room values = (
  λ e.
      let p = unless_done (list_number mark_words rows list) 2 _ values e in
      let q = unless_done (no (leb (length (read_words mark_words list)) room) 10) 2 _ values p.1 in
      record {
        accepted = (accepted_list rows list).0 p.0;
        room_for_words = within_done (length (read_words mark_words list)) room 9 q.0;
        carries = same_values _ values q.1;
      },
  λ d.
      unless_passed _ 2 _ ((accepted_list rows list).1 d.accepted)
      ∙ unless_passed _ 2 _ (within_passed (length (read_words mark_words list)) room 10 d.room_for_words)
      ∙ ap done (sym d.carries),
)

-- "no other call is refused": a done call of the reader has passed every check, and carries its counts
pub read_complete : {list : List ℕ} {rows : ℕ} {words values words_after : List ℕ} → ReadPromise list rows words (done values) words_after
    → ReadDone list rows (length words) values
read_complete {list} {rows} {words} {values} p = (read_done list rows (length words) values).0 (sym p.answers)
