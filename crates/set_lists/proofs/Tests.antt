-- The checks of a list and of its records, in parts: its layout, the tests of one record, and those of all. Assumes nothing.
use mathlib.Core.Path.{◌≡◌, refl, sym, ◌∙◌, ap, ap₂, subst}
use mathlib.Core.Bool.{Bool, true, false, ◌&&◌}
use mathlib.Core.List.{List, [], ◌∷◌, map}
use Prim.Native.Nat.{ℕ, zero, suc, ◌+◌, ◌*◌, ◌/◌, ◌%◌, ◌^◌, ◌<◌, ◌≤◌}
use native.Mathlib.Omega.{arith}
use lib.Dec.{eqb, ltb}
use lib.ListN.{length, get_or, take, drop}
use Rattle.std.specs.Simd.{first_chunks}
use Rattle.std.specs.List.{AllAdjacentBelow, IsAllAdjacentAnswer}
use Rattle.std.specs.declared.cmp.Ordering.{Ordering}
use Rattle.definitions.specs.Limits.{max_union_rows, max_sets, mark_words, set_width}
use Rattle.definitions.specs.Lists.{all}
use Rattle.definitions.specs.Word.{kind_of, rows_of, columns_of}
use Rattle.definitions.specs.Image.{header, is_header, rows_in}
use Rattle.definitions.specs.Ascending.{is_before, is_ascending}
use Rattle.definitions.specs.Reading.{set_count, records_in, positions_of, positions_in}
use Rattle.definitions.specs.ReadBack.{is_set_list, are_mark_words, is_record}
use Rattle.std.proofs.lemmas.Bool.{and_from, and_right, false_from_ne_true}
use Rattle.definitions.proofs.ListChecks.{WellFormed, well_formed_is}
use Rattle.definitions.proofs.Marks.{front_set}
use Rattle.lists.proofs.Flat.{chunk_rows}
use Rattle.set_lists.specs.Marks.{marks_fit}

-- ---- the list as a whole

pub not_listed : (rows : ℕ) (list : List ℕ) → (WellFormed mark_words rows list → ⊥) → is_set_list mark_words rows list ≡ false
not_listed rows list broken =
    false_from_ne_true (is_set_list mark_words rows list) (λ e. broken ((well_formed_is mark_words rows list).0 e))

-- a list of a first word and others
module _ (rows : ℕ) {first : ℕ} {list rest : List ℕ} (e : list ≡ first ∷ rest) where
  pub header_is : header list ≡ first
  header_is = ap header e

  pub rest_is : length list ≡ 1 + length rest
  rest_is = omega (arith, ap length e)

  module _ (size : length rest ≡ set_width * rows_of first) where
    pub listed : rows ≤ max_union_rows → is_header first ≡ true → columns_of first ≡ set_width → rows_of first ≤ max_sets
        → is_set_list mark_words rows list ≡ true
    listed few is width sets = (well_formed_is mark_words rows list).1 (record {
      few_rows = few;
      first_word = omega (arith, rest_is);
      is_header_word = ap is_header header_is ∙ is;
      width = ap columns_of header_is ∙ width;
      few_sets = omega (arith, sets, ap rows_of header_is);
      all_words = omega (arith, rest_is, size, ap rows_of header_is);
    })

    pub chunks_are : {chunks : List (List ℕ)} → chunks ≡ first_chunks set_width (length rest / set_width) rest → chunks ≡ records_in mark_words list
    chunks_are c =
        let count : length rest / set_width ≡ set_count list = omega (arith, size, ap rows_of header_is) in
        c ∙ chunk_rows set_width (length rest / set_width) rest
        ∙ ap₂ (rows_in set_width) count (ap (drop 1) (sym e))

-- ---- one record

-- the test of its row word, of its having a member, and of its mark words
module _ (m rows : ℕ) (words part : List ℕ) (e : part ≡ take m words) (h : m ≤ length words) where
  abbrev row_test : Bool
  row_test = eqb (kind_of (get_or words m 0)) 1 && ltb (get_or words m 0 % 2 ^ 30) max_sets

  abbrev some_test : Bool
  some_test = ltb 0 (length (positions_in (length part) part))

  parts : (ks k h p l : Bool) → ((k && l) && h && (ks && p)) ≡ (((ks && k) && (h && p)) && l)
  parts true true true true true = refl
  parts true true true true false = refl
  parts true true true false true = refl
  parts true true true false false = refl
  parts true true false p true = refl
  parts true true false p false = refl
  parts true false h p l = refl
  parts false true true p true = refl
  parts false true true p false = refl
  parts false true false p true = refl
  parts false true false p false = refl
  parts false false h p l = refl

  tests : (row_test && some_test && marks_fit rows part) ≡ is_record m rows words
  unfolding is_record
  tests =
      ap₂ (λ (l ps : List ℕ). row_test && ltb 0 (length ps) && (are_mark_words l && all (λ p. ltb p rows) ps))
      e (ap (positions_of 0) (front_set m words e h))
      ∙ parts (are_mark_words (take m words)) (eqb (kind_of (get_or words m 0)) 1) (ltb 0 (length (positions_in m words)))
      (all (λ p. ltb p rows) (positions_in m words)) (ltb (get_or words m 0 % 2 ^ 30) max_sets)

  module _ {row : Bool} (q : row ≡ row_test) where
    pub row_fails : row ≡ false → false ≡ is_record m rows words
    row_fails f = ap (λ (b : Bool). b && some_test && marks_fit rows part) (sym f ∙ q) ∙ tests

    module _ (passed : row ≡ true) {some : Bool} (r : some ≡ some_test) where
      pub marks_tell : some ≡ true → marks_fit rows part ≡ is_record m rows words
      marks_tell t = ap₂ (λ (b c : Bool). b && c && marks_fit rows part) (sym passed ∙ q) (sym t ∙ r) ∙ tests

      pub some_fails : some ≡ false → false ≡ is_record m rows words
      some_fails f = ap₂ (λ (b c : Bool). b && c && marks_fit rows part) (sym passed ∙ q) (sym f ∙ r) ∙ tests

-- ---- all records

-- each comes before the next
module _ {A B : Type 0} (compare : B → B → Ordering) (f : A → B) where
  abbrev before : A → A → Bool
  before x y = is_before (compare (f x) (f y))

  ascends : (l : List A) → AllAdjacentBelow (λ x y. true ≡ before x y) l (length l) → is_ascending compare (map f l) ≡ true
  unfolding is_ascending
  ascends [] h = refl
  ascends (x ∷ []) h = refl
  ascends (x ∷ y ∷ l) h = and_from _ _ (sym (h 0 x (omega arith))) (ascends (y ∷ l) (λ k d g.
      let e : suc k + 1 ≡ suc (k + 1) = omega arith in
      subst (λ (i : ℕ). true ≡ before (get_or (y ∷ l) k d) (get_or (x ∷ y ∷ l) i d)) e (h (suc k) d (omega arith))))

  falls : (l : List A) (k : ℕ) → k + 1 < length l → ((d : A) → false ≡ before (get_or l k d) (get_or l (k + 1) d)) → is_ascending compare (map f l) ≡ false
  unfolding is_ascending
  falls [] k g h = absurd (omega arith)
  falls (x ∷ []) k g h = absurd (omega arith)
  falls (x ∷ y ∷ l) zero g h = ap (λ (b : Bool). b && is_ascending compare (map f (y ∷ l))) (sym (h x))
  falls (x ∷ y ∷ l) (suc k) g h =
      let e : suc k + 1 ≡ suc (k + 1) = omega arith in
      and_right (before x y) (is_ascending compare (map f (y ∷ l))) (falls (y ∷ l) k (omega arith)
      (λ d. subst (λ (i : ℕ). false ≡ before (get_or (y ∷ l) k d) (get_or (x ∷ y ∷ l) i d)) e (h d)))

  pub ascending_is : (l : List A) (r : Bool) → IsAllAdjacentAnswer (λ x y b. b ≡ before x y) l r → r ≡ is_ascending compare (map f l)
  ascending_is l true h = sym (ascends l h)
  ascending_is l false h = sym (falls l h.0 h.1 h.2)
