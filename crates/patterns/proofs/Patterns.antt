-- Laws of filled cells and patterns: a pattern's bound, its next bit, that its ones are the filled cells, and their count as a sum. Assumes nothing.
use mathlib.Core.Path.{◌≡◌, refl, sym, ◌∙◌, ap, ap₂, subst}
use mathlib.Core.Bool.{cond}
use mathlib.Core.List.{List, [], ◌∷◌, map, map-append}
use Prim.Native.Nat.{ℕ, ◌+◌, ◌*◌, ◌/◌, ◌%◌, ◌^◌, ◌<◌, ◌≤◌}
use native.Mathlib.Nat.{lt_of_lt_of_le}
use native.Mathlib.Numerals.{add-one}
use native.Mathlib.Omega.{arith}
use lib.ListN.{length, get_or, take, length-map}
use lib.Seq.{length-take-le, take-suc}
use lib.Bits.{bit_or}
use lib.Pow.{pow_mono}
use Rattle.std.specs.Prelude.{sum_by}
use Rattle.std.proofs.lemmas.List.Recursion.{is_sum_by}
use Rattle.std.proofs.lemmas.List.Sums.{sum_by-le}
use lib.Count.{ones, ones_step}
use Rattle.definitions.specs.Limits.{max_columns}
use Rattle.definitions.specs.Word.{is_filled}
use Rattle.definitions.specs.MinimumUnion.{filled}
use Rattle.definitions.specs.SetList.{bits}
use Rattle.patterns.specs.Pattern.{pattern_of, pattern_bits}
use Rattle.patterns.proofs.Digits.{bit_small, bits_small, digit_next}

-- 1 for a filled cell, 0 for the empty cell
abbrev pub bit_of : ℕ → ℕ
bit_of x = cond (is_filled x) 1 0

pattern_lt : (s : List ℕ) → pattern_of s < 2 ^ length s
unfolding pattern_of
pattern_lt s = subst (λ (n : ℕ). pattern_of s < 2 ^ n) (length-map s is_filled) (bits_small (map is_filled s))

pub pattern_small : (s : List ℕ) → length s ≤ max_columns → pattern_of s < 2 ^ max_columns
pattern_small s h = lt_of_lt_of_le (pattern_lt s) (pow_mono h)

pub ones_pattern : (s : List ℕ) → ones (pattern_of s) ≡ filled s
unfolding pattern_of bits filled ones
ones_pattern [] = refl
ones_pattern (x ∷ s) =
    let n = bit_of x + 2 * pattern_of s in
    let r : n % 2 ≡ bit_of x = omega (arith, bit_small (is_filled x)) in
    let q : n / 2 ≡ pattern_of s = omega (arith, bit_small (is_filled x)) in
    ones_step n ∙ ap₂ ◌+◌ r (ap ones q ∙ ones_pattern s)

-- a cell more
pub pattern_turn : (row : List ℕ) (i p b : ℕ) → length row ≤ max_columns → i < length row → p ≡ pattern_of (take i row) → b ≡ bit_of (get_or row i 0)
    → bit_or p (b * 2 ^ i % 2 ^ pattern_bits) ≡ pattern_of (take (i + 1) row)
unfolding pattern_of
pattern_turn row i p b few h e f =
    let x = get_or row i 0 in
    digit_next pattern_bits (map is_filled (take i row)) (is_filled x) p b i (omega arith) (length-map (take i row) is_filled ∙ length-take-le i row (omega arith)) e f
    ∙ ap bits (sym (map-append is_filled (take i row) (x ∷ [])))
    ∙ ap pattern_of (sym (take-suc row i 0 h) ∙ ap (λ (n : ℕ). take n row) (sym (add-one i)))

-- ---- the filled cells of a list, counted

pub filled_sum : (w : List ℕ) → filled w ≡ sum_by bit_of w
unfolding filled
filled_sum w = is_sum_by filled bit_of refl (λ x xs. refl) w

pub sum_few : (w : List ℕ) → sum_by bit_of w ≤ length w
sum_few w =
    let most = sum_by-le bit_of 1 w (λ k d h. omega (arith, bit_small (is_filled (get_or w k d)))) in
    omega arith
