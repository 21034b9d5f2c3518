-- The words of a record of the set list: its three mark words mark its positions bit by bit, and its row word gives the position of its
-- joined row. Assumes nothing.
use mathlib.Core.Path.{◌≡◌, refl, sym, ◌∙◌, ap}
use mathlib.Core.Bool.{Bool, true, false, cond}
use mathlib.Core.List.{List, [], ◌∷◌}
use Prim.Native.Nat.{ℕ, zero, suc, ◌+◌, ◌*◌, ◌/◌, ◌%◌, ◌^◌, ◌-◌, ◌<◌}
use native.Mathlib.Nat.{le_of_suc-le-suc, not-suc-le-zero, div-one, div-div-eq-div-mul, pow-succ', zero-div, mul_assoc, mul-add-div_right}
use native.Mathlib.Omega.{arith}
use lib.ListN.{length, get_or, get_or-append}
use lib.Pow.{pow_pos, pow-add, shr-shr, split}
use lib.Seq.{get_or_at}
use Rattle.definitions.specs.Limits.{mark_words}
use Rattle.definitions.specs.Lists.{find_index}
use Rattle.definitions.specs.Word.{word_of}
use Rattle.definitions.specs.ComplementUnion.{same_row, contains, joined, union_sets, fused_rows}
use Rattle.definitions.specs.SetList.{bits, marks_from, fused_position, record_of, set_record}
use Rattle.definitions.specs.Statements.{Member}
use Rattle.definitions.proofs.Orders.{rows}
use Rattle.definitions.proofs.Lists.{find_index_found, find_index_at, find_index-strict}
use Rattle.definitions.proofs.Rows.{same_is}
use Rattle.definitions.proofs.Unions.{fused_rise, fused_are}
use Rattle.definitions.proofs.Counts.{marks-length}

module _ (columns : List ℕ) (t : List (List ℕ)) where
  -- "and one of kind 1 with the joined row's position in the fused table"
  pub row_word : (s : List Bool) → get_or (set_record columns t s) mark_words 0 ≡ word_of 1 (fused_position columns t s)
  unfolding set_record record_of
  row_word s = get_or_at (marks_from mark_words (bits s)) (word_of 1 (fused_position columns t s)) [] 0 mark_words (marks-length mark_words (bits s))

  -- the joined row of a listed set stands at its position
  module _ (s : List Bool) (h : Member s (union_sets columns t)) where
    pub fused_position_within : fused_position columns t s < length (fused_rows columns t)
    fused_position_within =
        find_index_found (same_row (joined t s)) (joined t s) (fused_rows columns t) ((fused_are columns t (joined t s)).1 (s, h, refl)) ((same_is (joined t s) (joined t s)).1 refl)

    pub fused_position_at : get_or (fused_rows columns t) (fused_position columns t s) [] ≡ joined t s
    fused_position_at =
        sym ((same_is (joined t s) (get_or (fused_rows columns t) (fused_position columns t s) [])).0 (find_index_at (same_row (joined t s)) [] (fused_rows columns t) fused_position_within))

  -- and in no other
  pub fused_position_of : (s : List Bool) (k : ℕ) → k < length (fused_rows columns t) → get_or (fused_rows columns t) k [] ≡ joined t s → fused_position columns t s ≡ k
  fused_position_of s k h e =
      ap (λ (r : List ℕ). find_index (same_row r) (fused_rows columns t)) (sym e) ∙ find_index-strict rows same_row same_is [] (fused_rows columns t) k (fused_rise columns t) h

-- ---- mark words

bit_low : (m : Bool) (x : ℕ) → (cond m 1 0 + 2 * x) % 2 ≡ cond m 1 0
bit_low true x = omega arith
bit_low false x = omega arith

bit_high : (m : Bool) (x : ℕ) → (cond m 1 0 + 2 * x) / 2 ≡ x
bit_high true x = omega arith
bit_high false x = omega arith

-- bit k of a set says whether position k is in it
pub bit-marks : (s : List Bool) (k : ℕ) → bits s / 2 ^ k % 2 ≡ cond (contains s k) 1 0
unfolding bits contains
bit-marks [] k = ap (λ (x : ℕ). x % 2) (zero-div (2 ^ k))
bit-marks (m ∷ s) zero = ap (λ (x : ℕ). x % 2) (div-one (cond m 1 0 + 2 * bits s)) ∙ bit_low m (bits s)
bit-marks (m ∷ s) (suc k) =
    ap (λ (x : ℕ). x % 2)
    (ap (λ (x : ℕ). (cond m 1 0 + 2 * bits s) / x) (pow-succ' 2 k)
    ∙ sym (div-div-eq-div-mul (cond m 1 0 + 2 * bits s) 2 (2 ^ k))
    ∙ ap (λ (x : ℕ). x / 2 ^ k) (bit_high m (bits s)))
    ∙ bit-marks s k

-- a multiple of a higher power of 2 leaves the bit alone
low_bit : (h y j d w : ℕ) → suc d + j ≡ w → (h * 2 ^ w + y) / 2 ^ j % 2 ≡ y / 2 ^ j % 2
low_bit h y j d w e =
    let p : h * 2 ^ w ≡ h * 2 ^ suc d * 2 ^ j = ap (λ (k : ℕ). h * 2 ^ k) (sym e) ∙ ap (λ (x : ℕ). h * x) (pow-add 2 (suc d) j) ∙ sym (mul_assoc h (2 ^ suc d) (2 ^ j)) in
    ap (λ (x : ℕ). (x + y) / 2 ^ j % 2) p
    ∙ ap (λ (x : ℕ). x % 2) (mul-add-div_right (pow_pos j) (h * 2 ^ suc d) y)
    ∙ even (y / 2 ^ j)
  where
    even : (z : ℕ) → (h * 2 ^ suc d + z) % 2 ≡ z % 2
    even z = rw pow-succ' (omega arith)

mark_word : (n set i : ℕ) → i < n → get_or (marks_from n set) i 0 ≡ word_of 2 (set / 2 ^ (30 * i) % 2 ^ 30)
unfolding marks_from
mark_word zero set i h = absurd (not-suc-le-zero h)
mark_word (suc n) set zero h = ap (λ (x : ℕ). word_of 2 (x % 2 ^ 30)) (sym (div-one set))
mark_word (suc n) set (suc i) h =
    let e : 30 + 30 * i ≡ 30 * suc i = omega arith in
    mark_word n (set / 2 ^ 30) i (le_of_suc-le-suc h)
    ∙ ap (λ (x : ℕ). word_of 2 (x % 2 ^ 30)) (shr-shr set 30 (30 * i) ∙ ap (λ (k : ℕ). set / 2 ^ k) e)

-- "three of kind 2 whose low 30 bits mark positions 0–29, 30–59 and 60–63 (lowest bit first ..)"
pub mark_bit : (columns : List ℕ) (t : List (List ℕ)) (s : List Bool) (i j : ℕ) → i < mark_words → j < 30 → get_or (set_record columns t s) i 0 / 2 ^ j % 2 ≡ cond (contains s (30 * i + j)) 1 0
unfolding set_record record_of
mark_bit columns t s i j h g =
    let x = bits s / 2 ^ (30 * i) in
    let e : suc (29 - j) + j ≡ 30 = omega arith in
    ap (λ (w : ℕ). w / 2 ^ j % 2)
    (get_or-append (marks_from mark_words (bits s)) (word_of 1 (fused_position columns t s) ∷ []) 0 i (rw (marks-length mark_words (bits s)) h) ∙ mark_word mark_words (bits s) i h)
    ∙ low_bit 2 (x % 2 ^ 30) j (29 - j) 30 e
    ∙ sym (low_bit (x / 2 ^ 30) (x % 2 ^ 30) j (29 - j) 30 e)
    ∙ ap (λ (y : ℕ). y / 2 ^ j % 2) (split x 30)
    ∙ ap (λ (y : ℕ). y % 2) (shr-shr (bits s) (30 * i) j)
    ∙ bit-marks s (30 * i + j)
