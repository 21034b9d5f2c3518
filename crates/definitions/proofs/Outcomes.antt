-- What it is for a pair to be accepted and for a call to be done: a yes to each question, and the values that the answer carries.
-- Assumes nothing.
use Rattle.definitions.specs.declared.refusal.Question.{Question}
use Rattle.definitions.specs.declared.refusal.Question.TheVariants as question
use Rattle.definitions.specs.Refusal.{question_number}
use mathlib.Core.Path.{◌≡◌, refl, sym, ◌∙◌, ap}
use mathlib.Core.Bool.{Bool, true, false}
use mathlib.Core.Logic.{◌↔◌}
use mathlib.Core.List.{List, [], ◌∷◌, flatten}
use Prim.Native.Nat.{ℕ, zero, suc, ◌≤◌, ◌<◌}
use native.Mathlib.Omega.{arith}
use lib.Dec.{leb}
use lib.ListN.{length}
use borrow.Author.Tests.{leb-true, le-leb, lt-leb}
use Rattle.definitions.specs.Limits.{max_columns, max_rows, max_sets}
use Rattle.definitions.specs.OuterUnion.{union_ids, union_columns, union_rows}
use Rattle.definitions.specs.MinimumUnion.{filled, minimum_rows, pairs_tried}
use Rattle.definitions.specs.ComplementUnion.{union_sets}
use Rattle.definitions.specs.SetList.{set_list}
use Rattle.definitions.specs.Questions.{image_number}
use Rattle.definitions.specs.Answer.{Outcome, done, refused, unless, no}
use Rattle.definitions.specs.Claims.{TableDone, ComplementDone}
use Rattle.definitions.specs.Calls.{Accepted, pair_outcome, enough_room, outer_image, minimum_image, fused_image, outer_outcome, minimum_outcome, complement_outcome}

pub unless_done : (number table : ℕ) (rest : Outcome) (values : List ℕ) → unless number table rest ≡ done values → (number ≡ 0) × (rest ≡ done values)
unless_done zero table rest values e = (refl, e)
unless_done (suc number) table rest values e = absurd (let z : ◌≡◌ {A = ℕ} 0 1 = cc in omega arith)

pub unless_passed : (number table : ℕ) (rest : Outcome) → number ≡ 0 → unless number table rest ≡ rest
unless_passed number table rest e = ap (λ (k : ℕ). unless k table rest) e

no_yes : (b : Bool) (number : ℕ) → no b (suc number) ≡ 0 → b ≡ true
no_yes true number e = refl
no_yes false number e = absurd (omega arith)

pub within_done : (x y number : ℕ) → no (leb x y) (suc number) ≡ 0 → x ≤ y
within_done x y number e = leb-true x y (no_yes (leb x y) number e)

pub within_passed : (x y number : ℕ) → x ≤ y → no (leb x y) number ≡ 0
within_passed x y number h = ap (λ (b : Bool). no b number) (le-leb x y h)

-- a question with a number other than 0 on the result, by its test
pub asked_no : (x y number : ℕ) (rest : Outcome) → y < x → refused (suc number) 2 ≡ unless (no (leb x y) (suc number)) 2 rest
asked_no x y number rest h = sym (ap (λ (b : Bool). unless (no b (suc number)) 2 rest) (lt-leb x y h))

pub asked_yes : (x y number : ℕ) (rest : Outcome) → x ≤ y → rest ≡ unless (no (leb x y) number) 2 rest
asked_yes x y number rest h = sym (unless_passed (no (leb x y) number) 2 rest (within_passed x y number h))

-- an accepted pair goes on to the next question
pub accepted_on : (a b : List ℕ) (rest : Outcome) → Accepted a b → pair_outcome a b rest ≡ rest
unfolding pair_outcome
accepted_on a b rest c =
    unless_passed (image_number max_rows a) 0 _ c.first
    ∙ unless_passed (image_number max_rows b) 1 _ c.second
    ∙ unless_passed (no (leb (length (union_ids a b)) max_columns) 8) 2 rest (within_passed (length (union_ids a b)) max_columns 8 c.columns)

pub accepted_done : (a b : List ℕ) (rest : Outcome) (values : List ℕ) → pair_outcome a b rest ≡ done values → Accepted a b × (rest ≡ done values)
unfolding pair_outcome
accepted_done a b rest values e =
    let p = unless_done (image_number max_rows a) 0 _ values e in
    let q = unless_done (image_number max_rows b) 1 _ values p.1 in
    let r = unless_done (no (leb (length (union_ids a b)) max_columns) 8) 2 rest values q.1 in
    (record { first = p.0; second = q.0; columns = within_done (length (union_ids a b)) max_columns 7 r.0 }, r.1)

-- ---- outer union and minimum union, done

pub same_values : (counts values : List ℕ) → done counts ≡ done values → values ≡ counts
same_values counts values e = cc

table_done : (a b image : List ℕ) (room : ℕ) (counts values : List ℕ) → (pair_outcome a b (enough_room image room (done counts)) ≡ done values) ↔ TableDone a b image room counts values
table_done a b image room counts values = (
  λ e.
      let p = accepted_done a b (enough_room image room (done counts)) values e in
      let q = unless_done (no (leb (length image) room) 10) 2 (done counts) values p.1 in
      record { accepted = p.0; table_room = within_done (length image) room 9 q.0; carries = same_values counts values q.1 },
  λ d.
      accepted_on a b (enough_room image room (done counts)) d.accepted
      ∙ unless_passed (no (leb (length image) room) 10) 2 (done counts) (within_passed (length image) room 10 d.table_room)
      ∙ ap done (sym d.carries),
)

pub outer_done : (a b : List ℕ) (room : ℕ) (values : List ℕ)
    → (outer_outcome a b room ≡ done values)
    ↔ TableDone a b (outer_image a b) room (length (union_rows a b) ∷ length (outer_image a b) ∷ filled (flatten (union_rows a b)) ∷ []) values
unfolding outer_outcome
outer_done a b room values = table_done a b (outer_image a b) room _ values

pub minimum_done : (a b : List ℕ) (room : ℕ) (values : List ℕ)
    → (minimum_outcome a b room ≡ done values)
    ↔ TableDone a b (minimum_image a b) room
    (length (minimum_rows (union_rows a b)) ∷ length (minimum_image a b) ∷ filled (flatten (minimum_rows (union_rows a b))) ∷ pairs_tried (union_rows a b) ∷ []) values
unfolding minimum_outcome
minimum_done a b room values = table_done a b (minimum_image a b) room _ values

-- ---- complement union, done

pub complement_done : (a b : List ℕ) (room sets_room : ℕ) (values : List ℕ) → (complement_outcome a b room sets_room ≡ done values) ↔ ComplementDone a b room sets_room values
unfolding complement_outcome fused_image
complement_done a b room sets_room values = (to, from)
  where
    to : complement_outcome a b room sets_room ≡ done values → ComplementDone a b room sets_room values
    to e =
        let p = accepted_done a b _ values e in
        let q = unless_done (no (leb (length (union_sets (union_columns a b) (union_rows a b))) max_sets) 9) 2 _ values p.1 in
        let r = unless_done (no (leb (length (fused_image a b)) room) 10) 2 _ values q.1 in
        let u = unless_done (no (leb (length (set_list (union_columns a b) (union_rows a b))) sets_room) 11) 2 _ values r.1 in
        record {
          accepted = p.0;
          few_sets = within_done (length (union_sets (union_columns a b) (union_rows a b))) max_sets 8 q.0;
          table_room = within_done (length (fused_image a b)) room 9 r.0;
          set_room = within_done (length (set_list (union_columns a b) (union_rows a b))) sets_room 10 u.0;
          carries = same_values _ values u.1;
        }

    from : ComplementDone a b room sets_room values → complement_outcome a b room sets_room ≡ done values
    from d =
        accepted_on a b _ d.accepted
        ∙ unless_passed _ 2 _ (within_passed (length (union_sets (union_columns a b) (union_rows a b))) max_sets 9 d.few_sets)
        ∙ unless_passed _ 2 _ (within_passed (length (fused_image a b)) room 10 d.table_room)
        ∙ unless_passed _ 2 _ (within_passed (length (set_list (union_columns a b) (union_rows a b))) sets_room 11 d.set_room)
        ∙ ap done (sym d.carries)

-- ---- questions by their names

-- a no to a question is a refusal with its number
pub unless_question : (q : Question) (table : ℕ) (rest : Outcome) → unless (question_number q) table rest ≡ refused (question_number q) table
unless_question question.Header table rest = refl
unless_question question.Columns table rest = refl
unless_question question.Rows table rest = refl
unless_question question.Length table rest = refl
unless_question question.ColumnWords table rest = refl
unless_question question.Ids table rest = refl
unless_question question.Cells table rest = refl
unless_question question.UnionColumns table rest = refl
unless_question question.Sets table rest = refl
unless_question question.TableRoom table rest = refl
unless_question question.SetRoom table rest = refl
unless_question question.ListLayout table rest = refl
unless_question question.Records table rest = refl
unless_question question.SetOrder table rest = refl
unless_question question.Page table rest = refl
unless_question question.PageRoom table rest = refl
