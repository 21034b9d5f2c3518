-- The answers of the call of a page. Assumes nothing.
use Rattle.std.proofs.Common.{◌≡◌, sym, ◌∙◌, ap, ℕ, ◌<◌, ◌≤◌, List, [], ◌∷◌, ◌++◌, length, drop, Result, Ok, Err, arith, zero-add}
use Prim.Native.Nat.{suc}
use Rattle.definitions.specs.declared.refusal.Refusal.{Refusal}
use Rattle.definitions.specs.declared.refusal.Question.TheVariants.{Page, PageRoom}
use Rattle.definitions.specs.declared.refusal.Subject.TheVariants.{Both}
use Rattle.definitions.specs.Refusal.{put_to}
use Rattle.definitions.specs.Limits.{max_stored_rows}
use Rattle.definitions.specs.Questions.{image_number}
use Rattle.definitions.specs.Answer.{Outcome, done, unless, or_refused, afterwards, page_says}
use Rattle.definitions.specs.Page.{page_count, page, page_bytes, exists_outcome, page_outcome}
use Rattle.definitions.specs.PageClaims.{PageDone}
use Rattle.definitions.specs.Promise.{PagePromise}
use Rattle.definitions.proofs.Outcomes.{asked_no, asked_yes}
use Rattle.definitions.proofs.Pages.{page-length, page_done}
use Rattle.lists.specs.Written.{Fits, Written}

-- a buffer that is as long as the call asks for has room for a page
pub page_fits : (image : List ℕ) (n : ℕ) (found : List ℕ) → page_bytes ≤ length found → Fits found 0 (page image n)
page_fits image n found h = omega (arith, page-length image n)

-- ---- the questions of the page

module _ (image : List ℕ) (n room : ℕ) where
  pub no-page : (r : Refusal) → r ≡ put_to Both Page → page_count image ≤ n → page_says (Err r) ≡ exists_outcome image n room
  no-page r e h = ap (λ (x : Refusal). page_says (Err x)) e ∙ asked_no (suc n) (page_count image) 14 _ (omega arith)

  module _ (exists : n < page_count image) where
    pub no_room : (r : Refusal) → r ≡ put_to Both PageRoom → room < page_bytes → page_says (Err r) ≡ exists_outcome image n room
    no_room r e h =
        ap (λ (x : Refusal). page_says (Err x)) e ∙ asked_no page_bytes room 15 _ h ∙ asked_yes (suc n) (page_count image) 15 _ (omega arith)

    pub a_page : (pages : ℕ) → pages ≡ page_count image → page_bytes ≤ room → page_says (Ok pages) ≡ exists_outcome image n room
    a_page pages e h =
        ap (λ (k : ℕ). done (k ∷ [])) e ∙ asked_yes page_bytes room 16 _ h ∙ asked_yes (suc n) (page_count image) 15 _ (omega arith)

-- ---- the call: an image is asked about, and then its page

module _ (image : List ℕ) (n : ℕ) (found : List ℕ) where
  -- a refusal that is told changes nothing
  refused_page : (r : Refusal) (answer : Result ℕ Refusal) → answer ≡ Err r → page_says (Err r) ≡ page_outcome image n (length found)
      → PagePromise image n found (page_says answer) found
  refused_page r answer f e = record {
    answers = ap page_says f ∙ e;
    writes = sym (ap (λ (x : Result ℕ Refusal). afterwards (page_says x) (page image n) found) f);
  }

  module _ {A : Type 0} (asked : Result A Refusal)
      (put : (rest : Outcome) → unless (image_number max_stored_rows image) 0 rest ≡ or_refused asked rest) where
    -- what the questions 1 to 7 leave of the call
    left : page_outcome image n (length found) ≡ or_refused asked (exists_outcome image n (length found))
    unfolding page_outcome
    left = put (exists_outcome image n (length found))

    pub image_refused : (r : Refusal) (answer : Result ℕ Refusal) → asked ≡ Err r → answer ≡ Err r → PagePromise image n found (page_says answer) found
    image_refused r answer e f =
        refused_page r answer f (ap (λ (x : Result A Refusal). or_refused x (exists_outcome image n (length found))) (sym e) ∙ sym left)

    module _ (stored : A) (is_stored : asked ≡ Ok stored) (words : List ℕ) (same : words ≡ image) (checked : Result ℕ Refusal)
        (says : page_says checked ≡ exists_outcome words n (length found)) where
      told : page_says checked ≡ page_outcome image n (length found)
      told =
          says ∙ ap (λ (l : List ℕ). exists_outcome l n (length found)) same
          ∙ ap (λ (x : Result A Refusal). or_refused x (exists_outcome image n (length found))) (sym is_stored) ∙ sym left

      pub page_refused : (r : Refusal) (answer : Result ℕ Refusal) → checked ≡ Err r → answer ≡ Err r → PagePromise image n found (page_says answer) found
      page_refused r answer e f = refused_page r answer f (ap page_says (sym e) ∙ told)

      module _ (pages : ℕ) (is : checked ≡ Ok pages) where
        page_exists : PageDone image n (length found) (pages ∷ [])
        page_exists = (page_done image n (length found) (pages ∷ [])).0 (sym told ∙ ap page_says is)

        pub asked_for : (n < page_count words) × Fits found 0 (page words n)
        asked_for =
            let d = page_exists in
            (omega (arith, d.exists, ap page_count same), page_fits words n found d.bytes_room)

        pub page_written : {after : List ℕ} {end : ℕ} → Written found 0 (page words n) after end → PagePromise image n found (page_says (Ok pages)) after
        page_written w = record {
          answers = ap page_says (sym is) ∙ told;
          writes = w.holds ∙ ap (λ (k : ℕ). page words n ++ drop k found) (w.ends ∙ zero-add (length (page words n)))
              ∙ ap (λ (l : List ℕ). page l n ++ drop (length (page l n)) found) same;
        }
