-- Mark words of kind 2 are told by the set that they mark: written from it, they are the same words. Assumes nothing.
use mathlib.Core.Path.{◌≡◌, refl, sym, ◌∙◌, ap, ap₂}
use mathlib.Core.Bool.{Bool, true, cond}
use mathlib.Core.List.{List, [], ◌∷◌, ◌++◌}
use Prim.Native.Nat.{ℕ, zero, suc, ◌+◌, ◌*◌, ◌/◌, ◌%◌, ◌^◌, ◌≤◌}
use native.Mathlib.Nat.{le_of_suc-le-suc, not-suc-le-zero, pow-succ', mul_assoc, div-div-eq-div-mul, div-one}
use native.Mathlib.Numerals.{add-one}
use native.Mathlib.Omega.{arith}
use lib.Dec.{eqb}
use lib.ListN.{length, get_or, take}
use lib.Pow.{mod-pow-add}
use borrow.Author.Tests.{eqb-true, eqb-false}
use Rattle.definitions.specs.Limits.{marks_per_word}
use Rattle.definitions.specs.Lists.{all, tabulate}
use Rattle.definitions.specs.Word.{kind_of, word_of}
use Rattle.definitions.specs.SetList.{bits, marks_from}
use Rattle.definitions.specs.ReadBack.{are_mark_words}
use Rattle.definitions.specs.Reading.{mark_at, marks_in, set_in}
use Rattle.definitions.proofs.Tabulate.{tabulate_ext}
use Rattle.std.proofs.lemmas.Bool.{and_parts}
use Rattle.definitions.proofs.Bools.{bool_cases}
use Rattle.definitions.proofs.Reading.{marks_count}
use Rattle.definitions.proofs.Marks.{word_set, set_cons}

-- the number of two parts
bits-append : (s t : List Bool) → bits (s ++ t) ≡ bits s + 2 ^ length s * bits t
unfolding bits
bits-append [] t = omega arith
bits-append (b ∷ s) t =
    let i = bits-append s t in
    let e : 2 ^ suc (length s) * bits t ≡ 2 * (2 ^ length s * bits t) =
    ap (λ (x : ℕ). x * bits t) (pow-succ' 2 (length s)) ∙ mul_assoc 2 (2 ^ length s) (bits t) in
    omega arith

one_bit : (x : ℕ) → cond (eqb (x % 2) 1) 1 0 ≡ x % 2
one_bit x =
    bool_cases (eqb (x % 2) 1) (λ e. rw e (sym (eqb-true (x % 2) 1 e)))
    (λ e. rw e (let f = eqb-false (x % 2) 1 e in omega arith))

-- the lowest bit, and then those of the half
pub bits_next : (n w : ℕ) → tabulate (suc n) (λ p. eqb (w / 2 ^ p % 2) 1) ≡ eqb (w % 2) 1 ∷ tabulate n (λ p. eqb (w / 2 / 2 ^ p % 2) 1)
unfolding tabulate
bits_next n w =
    ap₂ (λ (b : Bool) (s : List Bool). b ∷ s) (ap (λ (x : ℕ). eqb (x % 2) 1) (div-one w))
    (tabulate_ext n (λ p. eqb (w / 2 ^ suc p % 2) 1) (λ p. eqb (w / 2 / 2 ^ p % 2) 1)
    (λ p h. ap (λ (x : ℕ). eqb (x % 2) 1) (ap (λ (x : ℕ). w / x) (pow-succ' 2 p) ∙ sym (div-div-eq-div-mul w 2 (2 ^ p)))))

-- the lowest n bits of a number, as a set, make the number that they hold
bits_below : (n w : ℕ) → bits (tabulate n (λ p. eqb (w / 2 ^ p % 2) 1)) ≡ w % 2 ^ n
unfolding bits tabulate
bits_below zero w = omega arith
bits_below (suc n) w =
    let both : w % 2 ^ suc n ≡ w / 2 % 2 ^ n * 2 + w % 2 = ap (λ (k : ℕ). w % 2 ^ k) (sym (add-one n)) ∙ mod-pow-add w n 1 in
    ap bits (bits_next n w) ∙ ap₂ (λ (x y : ℕ). x + 2 * y) (one_bit w) (bits_below n (w / 2)) ∙ omega arith

-- the marks of one word are its lowest bits
pub word_set_lem : (w : ℕ) → word_set w ≡ tabulate marks_per_word (λ p. eqb (w / 2 ^ p % 2) 1)
unfolding marks_in
word_set_lem w =
    tabulate_ext marks_per_word (mark_at (w ∷ [])) (λ p. eqb (w / 2 ^ p % 2) 1)
    (λ p h.
    let e : p / marks_per_word ≡ 0 = omega arith in
    let g : p % marks_per_word ≡ p = omega arith in
    ap₂ (λ (i j : ℕ). eqb (get_or (w ∷ []) i 0 / 2 ^ j % 2) 1) e g)

pub word_number : (w : ℕ) → bits (word_set w) ≡ w % 2 ^ 30
word_number w = ap bits (word_set_lem w) ∙ bits_below marks_per_word w

-- the words of kind 2 that a record begins with, written again from its set
pub marks_again : (m : ℕ) (words : List ℕ) → m ≤ length words → are_mark_words (take m words) ≡ true
    → marks_from m (bits (set_in m words)) ≡ take m words
unfolding marks_from all
marks_again zero words h e = refl
marks_again (suc m) [] h e = absurd (not-suc-le-zero h)
marks_again (suc m) (w ∷ words) h e =
    let kinds = are_mark_words (take m words) in
    let kind : kind_of w ≡ 2 = eqb-true (kind_of w) 2 (and_parts (eqb (kind_of w) 2) kinds e).0 in
    let rest = marks_again m words (le_of_suc-le-suc h) (and_parts (eqb (kind_of w) 2) kinds e).1 in
    let number : bits (set_in (suc m) (w ∷ words)) ≡ w % 2 ^ 30 + 2 ^ 30 * bits (set_in m words) =
    ap bits (set_cons m w words) ∙ bits-append (word_set w) (set_in m words)
    ∙ ap₂ (λ (x k : ℕ). x + 2 ^ k * bits (set_in m words)) (word_number w) (marks_count (marks_per_word * 1) (w ∷ [])) in
    let first : word_of 2 (bits (set_in (suc m) (w ∷ words)) % 2 ^ 30) ≡ w = omega arith in
    let others : bits (set_in (suc m) (w ∷ words)) / 2 ^ 30 ≡ bits (set_in m words) = omega arith in
    ap₂ (λ (x : ℕ) (l : List ℕ). x ∷ l) first (ap (marks_from m) others ∙ rest)
