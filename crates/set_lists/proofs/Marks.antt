-- Laws of mark words, one after the other: which positions they mark, and whether these are below a number of rows. Assumes
-- nothing.
use mathlib.Core.Path.{◌≡◌, refl, sym, ◌∙◌, ap, ap₂}
use mathlib.Core.Bool.{Bool, true, false, not, ◌&&◌, ◌||◌}
use mathlib.Core.List.{List, [], ◌∷◌, ◌++◌}
use Prim.Native.Nat.{ℕ, ◌+◌, ◌-◌, ◌/◌, ◌%◌, ◌^◌, ◌<◌, ◌≤◌}
use native.Mathlib.Nat.{zero-div}
use native.Mathlib.Omega.{arith}
use lib.Dec.{eqb, ltb}
use lib.ListN.{length, length-append}
use lib.Pow.{shr-shr}
use borrow.Author.Tests.{ltb-true, ltb-false, eq-eqb, lt-ltb}
use Rattle.std.specs.List.{list_any}
use Rattle.definitions.specs.Limits.{marks_per_word}
use Rattle.definitions.specs.Lists.{all, tabulate}
use Rattle.definitions.specs.Word.{kind_of}
use Rattle.definitions.specs.Reading.{marks_in, set_in, positions_of}
use Rattle.definitions.specs.ReadBack.{are_mark_words}
use Rattle.definitions.proofs.Tabulate.{tabulate_ext}
use Rattle.definitions.proofs.Bools.{bool_cases}
use Rattle.definitions.proofs.Lists.{all_append}
use Rattle.definitions.proofs.Reading.{marks_count}
use Rattle.definitions.proofs.MarkBits.{word_set_lem}
use Rattle.definitions.proofs.Marks.{word_set, set_cons, positions_append}
use Rattle.set_lists.specs.Marks.{is_mark_word, marks_fit}
use Rattle.bitsets.specs.Bits.{has}
use Rattle.bitsets.proofs.Positions.{has-mod, positions_under, some_position}

-- ---- one mark word

-- the low bits of a word are its marks
pub word_bits_lem : (w : ℕ) → word_set w ≡ tabulate marks_per_word (has (w % 2 ^ 30))
unfolding has
word_bits_lem w =
    word_set_lem w ∙ tabulate_ext marks_per_word (λ p. eqb (w / 2 ^ p % 2) 1) (has (w % 2 ^ 30)) (λ p h. sym (has-mod w marks_per_word p h))

module _ (w : ℕ) where
  low_below : w % 2 ^ 30 < 2 ^ marks_per_word
  low_below = omega arith

  pub word_size : length (word_set w) ≡ marks_per_word
  word_size = marks_count marks_per_word (w ∷ [])

  -- whether the positions of a word are below a number
  word_below : (from rows : ℕ) → all (λ p. ltb p rows) (positions_of from (word_set w)) ≡ eqb (w % 2 ^ 30 / 2 ^ (rows - from)) 0
  word_below from rows =
      ap (λ (s : List Bool). all (λ p. ltb p rows) (positions_of from s)) (word_bits_lem w) ∙ positions_under marks_per_word (w % 2 ^ 30) from rows low_below

  -- and whether it marks one
  word_some : (from : ℕ) → ltb 0 (length (positions_of from (word_set w))) ≡ not (eqb (w % 2 ^ 30) 0)
  word_some from =
      ap (λ (s : List Bool). ltb 0 (length (positions_of from s))) (word_bits_lem w) ∙ some_position marks_per_word (w % 2 ^ 30) from low_below

  -- the low bits shifted by as many positions as may be marked are none
  mark_word : (from rows : ℕ) → is_mark_word from rows w ≡ (eqb (kind_of w) 2 && eqb (w % 2 ^ 30 / 2 ^ (rows - from)) 0)
  mark_word from rows = ap (λ (b : Bool). eqb (kind_of w) 2 && b) (word_below from rows)

  -- the first position doesn't matter, but how many from it on may be marked
  pub mark_word_from : (from rows : ℕ) → is_mark_word from rows w ≡ is_mark_word 0 (rows - from) w
  mark_word_from from rows =
      let held : rows - from ≡ rows - from - 0 = omega arith in
      mark_word from rows
      ∙ ap (λ (k : ℕ). eqb (kind_of w) 2 && eqb (w % 2 ^ 30 / 2 ^ k) 0) held
      ∙ sym (mark_word 0 (rows - from))

  -- of a word of kind 2 with these low bits
  module _ (held : ℕ) {low : ℕ} (e : low ≡ w % 2 ^ 30) (k : kind_of w ≡ 2) where
    pub some_held : eqb (low / 2 ^ held) 0 ≡ is_mark_word 0 held w
    some_held =
        let none : held ≡ held - 0 = omega arith in
        ap₂ (λ (x i : ℕ). eqb (x / 2 ^ i) 0) e none ∙ sym (mark_word 0 held ∙ rw (eq-eqb (kind_of w) 2 k) refl)

    pub all_held : marks_per_word ≤ held → true ≡ is_mark_word 0 held w
    all_held h =
        let more = held - marks_per_word in
        let size : held ≡ marks_per_word + more = omega arith in
        let none : low / 2 ^ marks_per_word ≡ 0 = omega arith in
        sym (eq-eqb (low / 2 ^ held) 0
        (ap (λ (i : ℕ). low / 2 ^ i) size ∙ sym (shr-shr low marks_per_word more) ∙ ap (λ (x : ℕ). x / 2 ^ more) none ∙ zero-div (2 ^ more)))
        ∙ some_held

-- ---- mark words one after the other

-- the set that mark words mark
abbrev pub mark_set : List ℕ → List Bool
mark_set marks = set_in (length marks) marks

pub positions_words : (from w : ℕ) (marks : List ℕ)
    → positions_of from (mark_set (w ∷ marks)) ≡ positions_of from (word_set w) ++ positions_of (from + marks_per_word) (mark_set marks)
positions_words from w marks =
    let e : length (word_set w) + from ≡ from + marks_per_word = omega (arith, word_size w) in
    ap (positions_of from) (set_cons (length marks) w marks)
    ∙ positions_append from (word_set w) (mark_set marks)
    ∙ ap (λ (k : ℕ). positions_of from (word_set w) ++ positions_of k (mark_set marks)) e

-- each of them is of kind 2 and marks none but the first `held` positions of them all
unfoldable pub fits : ℕ → List ℕ → Bool
fits held [] = true
fits held (w ∷ marks) = is_mark_word 0 held w && fits (held - marks_per_word) marks

and_swap : (a b c d : Bool) → ((a && b) && (c && d)) ≡ ((a && c) && (b && d))
and_swap true true c d = refl
and_swap true false true d = refl
and_swap true false false d = refl
and_swap false b c d = refl

fits_words : (from rows : ℕ) (marks : List ℕ)
    → (are_mark_words marks && all (λ p. ltb p rows) (positions_of from (mark_set marks))) ≡ fits (rows - from) marks
unfolding fits all marks_in tabulate positions_of
fits_words from rows [] = refl
fits_words from rows (w ∷ marks) =
    let left : rows - (from + marks_per_word) ≡ rows - from - marks_per_word = omega arith in
    ap (λ (l : List ℕ). (eqb (kind_of w) 2 && are_mark_words marks) && all (λ p. ltb p rows) l) (positions_words from w marks)
    ∙ ap (λ (b : Bool). (eqb (kind_of w) 2 && are_mark_words marks) && b)
    (all_append (λ p. ltb p rows) (positions_of from (word_set w)) (positions_of (from + marks_per_word) (mark_set marks)))
    ∙ and_swap (eqb (kind_of w) 2) (are_mark_words marks) (all (λ p. ltb p rows) (positions_of from (word_set w)))
    (all (λ p. ltb p rows) (positions_of (from + marks_per_word) (mark_set marks)))
    ∙ ap₂ (λ (b c : Bool). b && c) (mark_word_from w from rows)
    (fits_words (from + marks_per_word) rows marks ∙ ap (λ (k : ℕ). fits k marks) left)

pub fits_all : (rows : ℕ) (marks : List ℕ) → marks_fit rows marks ≡ fits rows marks
fits_all rows marks = let e : rows - 0 ≡ rows = omega arith in fits_words 0 rows marks ∙ ap (λ (k : ℕ). fits k marks) e

some_either : (a b : ℕ) → ltb 0 (a + b) ≡ (ltb 0 a || ltb 0 b)
some_either a b =
    bool_cases (ltb 0 a)
    (λ e. let h = ltb-true 0 a e in lt-ltb 0 (a + b) (omega arith) ∙ ap (λ (x : Bool). x || ltb 0 b) (sym e))
    (λ e.
    let h = ltb-false 0 a e in
    let g : a + b ≡ b = omega arith in
    ap (λ (k : ℕ). ltb 0 k) g ∙ ap (λ (x : Bool). x || ltb 0 b) (sym e))

-- some word has a mark
pub some_words : (from : ℕ) (marks : List ℕ) → ltb 0 (length (positions_of from (mark_set marks))) ≡ list_any (λ w. not (eqb (w % 2 ^ 30) 0)) marks
unfolding marks_in tabulate positions_of
some_words from [] = refl
some_words from (w ∷ marks) =
    let first = positions_of from (word_set w) in
    let rest = positions_of (from + marks_per_word) (mark_set marks) in
    ap (λ (l : List ℕ). ltb 0 (length l)) (positions_words from w marks)
    ∙ ap (λ (k : ℕ). ltb 0 k) (length-append first rest)
    ∙ some_either (length first) (length rest)
    ∙ ap₂ (λ (b c : Bool). b || c) (word_some w from) (some_words (from + marks_per_word) marks)
