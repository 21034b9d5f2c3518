-- How the reader ends: which number the checks give, and the promise for each way out. Assumes nothing.
use mathlib.Core.Path.{◌≡◌, refl, sym, ◌∙◌, ap, ap₂}
use mathlib.Core.Bool.{Bool, true, false}
use mathlib.Core.List.{List, [], ◌∷◌, ◌++◌, map}
use Prim.Native.Nat.{ℕ, ◌<◌, ◌≤◌}
use native.Mathlib.Omega.{arith}
use lib.ListN.{length, drop}
use Rattle.definitions.specs.declared.refusal.Question.{Question}
use Rattle.definitions.specs.Refusal.{question_number}
use Rattle.definitions.specs.Limits.{max_sets, mark_words, set_width}
use Rattle.definitions.specs.Lists.{all}
use Rattle.definitions.specs.Ascending.{is_ascending}
use Rattle.definitions.specs.ComplementUnion.{compare_set}
use Rattle.definitions.specs.Reading.{set_count, records_in, set_in}
use Rattle.definitions.specs.Answer.{done, refused, unless}
use Rattle.definitions.specs.ReadBack.{is_set_list, is_record, list_number, read_words, words_room, read_outcome}
use Rattle.definitions.specs.Promise.{ReadPromise}
use Rattle.definitions.proofs.Images.{rows_length}
use Rattle.definitions.proofs.Outcomes.{unless_passed, unless_question, asked_no, asked_yes}
use Rattle.definitions.proofs.ListChecks.{well_formed_is}
use Rattle.definitions.proofs.ReadOutcome.{accepted_list}
use Rattle.lists.specs.Written.{Written}
use Rattle.set_lists.specs.Marks.{entries}

-- ---- the checks

pub fails_12 : (rows : ℕ) (list : List ℕ) → is_set_list mark_words rows list ≡ false → 12 ≡ list_number mark_words rows list
unfolding list_number
fails_12 rows list f = sym (rw f)

-- a list with these records
module _ (rows : ℕ) (list : List ℕ) {records : List (List ℕ)} (listed : is_set_list mark_words rows list ≡ true) (e : records ≡ records_in mark_words list) where
  pub fails_13 : {b : Bool} → b ≡ all (is_record mark_words rows) records → b ≡ false → 13 ≡ list_number mark_words rows list
  unfolding list_number
  fails_13 t f = sym (rw (listed, ap (all (is_record mark_words rows)) (sym e) ∙ sym t ∙ f))

  module _ {b d : Bool} (t : b ≡ all (is_record mark_words rows) records) (passed : b ≡ true)
      (g : d ≡ is_ascending compare_set (map (set_in mark_words) records)) where
    ordered : is_ascending compare_set (map (set_in mark_words) (records_in mark_words list)) ≡ d
    ordered = ap (λ (r : List (List ℕ)). is_ascending compare_set (map (set_in mark_words) r)) (sym e) ∙ sym g

    pub fails_14 : d ≡ false → 14 ≡ list_number mark_words rows list
    unfolding list_number
    fails_14 f = sym (rw (listed, ap (all (is_record mark_words rows)) (sym e) ∙ sym t ∙ passed, ordered ∙ f))

    pub passes : d ≡ true → 0 ≡ list_number mark_words rows list
    unfolding list_number
    passes f = sym (rw (listed, ap (all (is_record mark_words rows)) (sym e) ∙ sym t ∙ passed, ordered ∙ f))

-- ---- the call

module _ (rows : ℕ) (list found : List ℕ) where
  -- a check that the list fails
  pub refused_list : (q : Question) → question_number q ≡ list_number mark_words rows list → ReadPromise list rows found (refused (question_number q) 2) found
  unfolding read_outcome
  refused_list q e = record {
    answers = sym (unless_question q 2 _)
        ∙ ap (λ (n : ℕ). unless n 2 (words_room (set_count list) (read_words mark_words list) (length found))) e;
    writes = refl;
  }

  -- the list passes, and these are its records
  module _ {records : List (List ℕ)} (none : 0 ≡ list_number mark_words rows list) (e : records ≡ records_in mark_words list) where
    count : length records ≡ set_count list
    count = ap length e ∙ rows_length set_width (set_count list) (drop 1 list)

    pub few_records : length records ≤ max_sets
    few_records = omega (arith, count, ((well_formed_is mark_words rows list).0 ((accepted_list rows list).0 (sym none)).listed).few_sets)

    words_are : entries records ≡ read_words mark_words list
    unfolding read_words
    words_are = ap entries e

    room : read_outcome list rows (length found) ≡ words_room (set_count list) (read_words mark_words list) (length found)
    unfolding read_outcome
    room = unless_passed (list_number mark_words rows list) 2 _ (sym none)

    pub short_buffer : length found < length (entries records) → ReadPromise list rows found (refused 10 2) found
    short_buffer h = record {
      answers = asked_no (length (read_words mark_words list)) (length found) 9 _ (omega (arith, ap length words_are)) ∙ sym room;
      writes = refl;
    }

    pub done_reading : {after : List ℕ} {end : ℕ} → Written found 0 (entries records) after end → ReadPromise list rows found (done (length records ∷ end ∷ [])) after
    done_reading {after} {end} w =
        let size : end ≡ length (read_words mark_words list) = omega (arith, w.ends, ap length words_are) in
        record {
          answers = ap₂ (λ (n k : ℕ). done (n ∷ k ∷ [])) count size
              ∙ asked_yes (length (read_words mark_words list)) (length found) 10 _ (omega (arith, w.within)) ∙ sym room;
          writes = w.holds ∙ ap₂ (λ (l : List ℕ) (k : ℕ). l ++ drop k found) words_are size;
        }
