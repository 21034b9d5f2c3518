-- The positions of sets that are numbers: of an intersection, of a set with one more, of a list of bits; those below a bound; the lowest,
-- and the others. Two numbers with the same positions are equal. Assumes nothing.
use mathlib.Core.Path.{◌≡◌, refl, sym, ap, ap₂, ◌∙◌, subst}
use mathlib.Core.Bool.{Bool, true, false, not, ◌&&◌, ◌||◌, beq}
use mathlib.Core.Logic.{⊎_elim}
use mathlib.Core.List.{List}
use Prim.Native.Nat.{ℕ, zero, suc, ◌-◌, ◌*◌, ◌/◌, ◌%◌, ◌^◌, ◌≤◌, ◌<◌}
use native.Mathlib.Nat.{mod-lt, zero-lt-suc, not-suc-le-zero, le_of_suc-le-suc, div-one, div-div-eq-div-mul, pow-succ', zero-div, div-eq_of_lt, lt_of_lt_of_le, one-mul}
use native.Mathlib.Omega.{arith}
use lib.Arith.{bin_ind}
use lib.Bits.{bit_and, bit_or, bit_xor, and_shr, or_shr, xor_shr, and_mod, or_mod, xor_mod, and_le_l, and_le_r}
use lib.Count.{count_trailing_zeros, under}
use lib.Pow.{pow_mono, pow_pos, ones_lt, shl_exact}
use lib.Dec.{eqb, ltb, lit<, eqb-suc-suc, eqb-zero-suc, eqb-suc-zero}
use borrow.Author.Tests.{eqb-true, eqb-false, eq-eqb, ltb-true, ltb-false}
use Rattle.definitions.specs.ComplementUnion.{contains}
use Rattle.definitions.specs.SetList.{bits}
use Rattle.definitions.proofs.SetWords.{bit-marks}
use Rattle.definitions.proofs.Reading.{one_marks}
use Rattle.std.proofs.lemmas.Bool.{and_from, and_parts, false_from_ne_true, or_cases, or_left, or_right}
use Rattle.definitions.proofs.Bools.{bool_cases, bool_eq, clash}
use Rattle.bitsets.specs.Bits.{has, both, either, is_sub, but_not, with_row, only_one, rows_below, Inside, lowest, without_lowest}

-- position k is in the set
abbrev pub In : ℕ → ℕ → Type 0
In set k = has set k ≡ true

-- a one shifted to a bit of a word
pub bit_at : (width k : ℕ) → k < width → (1 * 2 ^ k) % 2 ^ width ≡ 2 ^ k
bit_at width k h = shl_exact 1 k width (lit< tt) (omega arith) ∙ one-mul (2 ^ k)

-- ---- digit by digit

bit-and : (u v : ℕ) → u < 2 → v < 2 → eqb (bit_and u v) 1 ≡ (eqb u 1 && eqb v 1)
bit-and zero zero p q = refl
bit-and zero (suc zero) p q = refl
bit-and (suc zero) zero p q = refl
bit-and (suc zero) (suc zero) p q = refl
bit-and zero (suc (suc v)) p q = absurd (omega arith)
bit-and (suc zero) (suc (suc v)) p q = absurd (omega arith)
bit-and (suc (suc u)) v p q = absurd (omega arith)

bit-or : (u v : ℕ) → u < 2 → v < 2 → eqb (bit_or u v) 1 ≡ (eqb u 1 || eqb v 1)
bit-or zero zero p q = refl
bit-or zero (suc zero) p q = refl
bit-or (suc zero) zero p q = refl
bit-or (suc zero) (suc zero) p q = refl
bit-or zero (suc (suc v)) p q = absurd (omega arith)
bit-or (suc zero) (suc (suc v)) p q = absurd (omega arith)
bit-or (suc (suc u)) v p q = absurd (omega arith)

bit-xor : (u v : ℕ) → u < 2 → v < 2 → eqb (bit_xor u v) 1 ≡ not (beq (eqb u 1) (eqb v 1))
bit-xor zero zero p q = refl
bit-xor zero (suc zero) p q = refl
bit-xor (suc zero) zero p q = refl
bit-xor (suc zero) (suc zero) p q = refl
bit-xor zero (suc (suc v)) p q = absurd (omega arith)
bit-xor (suc zero) (suc (suc v)) p q = absurd (omega arith)
bit-xor (suc (suc u)) v p q = absurd (omega arith)

pub beq_same : (x y : Bool) → not (beq x y) ≡ false → x ≡ y
beq_same true true e = refl
beq_same true false e = absurd (clash refl e)
beq_same false true e = absurd (clash refl e)
beq_same false false e = refl

beq_other : (x y : Bool) → not (beq x y) ≡ true → y ≡ not x
beq_other true true e = absurd (clash e refl)
beq_other true false e = refl
beq_other false true e = refl
beq_other false false e = absurd (clash e refl)

digit : (w k : ℕ) → w / 2 ^ k % 2 < 2
digit w k = mod-lt _ (zero-lt-suc 1)

pub has_both : (a b k : ℕ) → has (both a b) k ≡ (has a k && has b k)
unfolding has both
has_both a b k =
    ap (λ (x : ℕ). eqb (x % 2) 1) (and_shr a b k)
    ∙ ap (λ (x : ℕ). eqb x 1) (and_mod (a / 2 ^ k) (b / 2 ^ k) 1)
    ∙ bit-and (a / 2 ^ k % 2) (b / 2 ^ k % 2) (digit a k) (digit b k)

pub has-or : (a b k : ℕ) → has (bit_or a b) k ≡ (has a k || has b k)
unfolding has
has-or a b k =
    ap (λ (x : ℕ). eqb (x % 2) 1) (or_shr a b k)
    ∙ ap (λ (x : ℕ). eqb x 1) (or_mod (a / 2 ^ k) (b / 2 ^ k) 1)
    ∙ bit-or (a / 2 ^ k % 2) (b / 2 ^ k % 2) (digit a k) (digit b k)

has_one : (a b k : ℕ) → has (only_one a b) k ≡ not (beq (has a k) (has b k))
unfolding has only_one
has_one a b k =
    ap (λ (x : ℕ). eqb (x % 2) 1) (xor_shr a b k)
    ∙ ap (λ (x : ℕ). eqb x 1) (xor_mod (a / 2 ^ k) (b / 2 ^ k) 1)
    ∙ bit-xor (a / 2 ^ k % 2) (b / 2 ^ k % 2) (digit a k) (digit b k)

-- position by position, from the lowest
pub has_low : (w : ℕ) → has w 0 ≡ eqb (w % 2) 1
unfolding has
has_low w = ap (λ (x : ℕ). eqb (x % 2) 1) (div-one w)

pub has-suc : (w k : ℕ) → has w (suc k) ≡ has (w / 2) k
unfolding has
has-suc w k = ap (λ (x : ℕ). eqb (x % 2) 1) (ap (λ (x : ℕ). w / x) (pow-succ' 2 k) ∙ sym (div-div-eq-div-mul w 2 (2 ^ k)))

pub has_none : (k : ℕ) → has 0 k ≡ false
unfolding has
has_none k = ap (λ (x : ℕ). eqb (x % 2) 1) (zero-div (2 ^ k))

-- ---- a set with one more

pow_half : (i : ℕ) → 2 ^ suc i / 2 ≡ 2 ^ i
pow_half i = rw pow-succ' (omega arith)

pow_even : (i : ℕ) → 2 ^ suc i % 2 ≡ 0
pow_even i = rw pow-succ' (omega arith)

has-pow : (i k : ℕ) → has (2 ^ i) k ≡ eqb k i
has-pow zero zero = has_low 1
has-pow zero (suc k) = has-suc 1 k ∙ has_none k ∙ sym (eqb-suc-zero k)
has-pow (suc i) zero = has_low (2 ^ suc i) ∙ ap (λ (x : ℕ). eqb x 1) (pow_even i) ∙ sym (eqb-zero-suc i)
has-pow (suc i) (suc k) =
    has-suc (2 ^ suc i) k ∙ ap (λ (x : ℕ). has x k) (pow_half i) ∙ has-pow i k ∙ sym (eqb-suc-suc k i)

pub has_with : (c i k : ℕ) → has (with_row c i) k ≡ (has c k || eqb k i)
unfolding with_row
has_with c i k = has-or c (2 ^ i) k ∙ ap (λ (b : Bool). has c k || b) (has-pow i k)

pub has_with_self : (c i : ℕ) → In (with_row c i) i
has_with_self c i = has_with c i i ∙ or_right (has c i) (eqb i i) (eq-eqb i i refl)

pub has_with_old : (c i k : ℕ) → In c k → In (with_row c i) k
has_with_old c i k h = has_with c i k ∙ ap (λ (b : Bool). b || eqb k i) h

pub has_with_cases : {A : Type 0} (c i k : ℕ) → In (with_row c i) k → (In c k → A) → (k ≡ i → A) → A
has_with_cases c i k h f g =
    bool_cases (has c k) f (λ e. g (eqb-true k i (sym (ap (λ (b : Bool). b || eqb k i) e) ∙ sym (has_with c i k) ∙ h)))

-- ---- a number is its positions

pub none_zero : (b : ℕ) → ((k : ℕ) → has b k ≡ false) → b ≡ 0
none_zero =
    bin_ind (λ (n : ℕ). ((k : ℕ) → has n k ≡ false) → n ≡ 0) (λ h. refl)
    (λ n ih h.
    let half = ih (λ k. sym (has-suc n k) ∙ h (suc k)) in
    let low = eqb-false (n % 2) 1 (sym (has_low n) ∙ h 0) in
    omega arith)

low_eq : (a b : ℕ) → has a 0 ≡ has b 0 → a % 2 ≡ b % 2
low_eq a b e =
    bool_cases (has a 0)
    (λ p. eqb-true _ _ (sym (has_low a) ∙ p) ∙ sym (eqb-true _ _ (sym (has_low b) ∙ sym e ∙ p)))
    (λ p.
    let x = eqb-false (a % 2) 1 (sym (has_low a) ∙ p) in
    let y = eqb-false (b % 2) 1 (sym (has_low b) ∙ sym e ∙ p) in
    omega arith)

pub has_ext : (a b : ℕ) → ((k : ℕ) → has a k ≡ has b k) → a ≡ b
has_ext =
    bin_ind (λ (n : ℕ). (b : ℕ) → ((k : ℕ) → has n k ≡ has b k) → n ≡ b)
    (λ b h. sym (none_zero b (λ k. sym (h k) ∙ has_none k)))
    (λ n ih b h.
    let half = ih (b / 2) (λ k. sym (has-suc n k) ∙ h (suc k) ∙ has-suc b k) in
    let low = low_eq n b (h 0) in
    omega arith)

-- two sets that hold each other are the same
pub same_set : (a b : ℕ) → ((k : ℕ) → In a k → In b k) → ((k : ℕ) → In b k → In a k) → a ≡ b
same_set a b f g = has_ext a b (λ k. bool_eq (has a k) (has b k) (f k) (g k))

-- ---- unions, intersections and subsets

pub or_in_l : (a b k : ℕ) → In a k → In (bit_or a b) k
or_in_l a b k h = has-or a b k ∙ or_left (has a k) (has b k) h

pub or_in_r : (a b k : ℕ) → In b k → In (bit_or a b) k
or_in_r a b k h = has-or a b k ∙ or_right (has a k) (has b k) h

pub either_l : (a b k : ℕ) → In a k → In (either a b) k
unfolding either
either_l a b k h = or_in_l a b k h

pub either_r : (a b k : ℕ) → In b k → In (either a b) k
unfolding either
either_r a b k h = or_in_r a b k h

pub either_cases : {A : Type 0} (a b k : ℕ) → In (either a b) k → (In a k → A) → (In b k → A) → A
unfolding either
either_cases a b k h f g = ⊎_elim f g (or_cases (has a k) (has b k) (sym (has-or a b k) ∙ h))

pub both_in_lem : (a b k : ℕ) → In a k → In b k → In (both a b) k
both_in_lem a b k p q = has_both a b k ∙ and_from _ _ p q

pub both_l : (a b k : ℕ) → In (both a b) k → In a k
both_l a b k h = (and_parts (has a k) (has b k) (sym (has_both a b k) ∙ h)).0

pub both_r : (a b k : ℕ) → In (both a b) k → In b k
both_r a b k h = (and_parts (has a k) (has b k) (sym (has_both a b k) ∙ h)).1

pub sub_same : (a b : ℕ) → is_sub a b ≡ true → both a b ≡ a
unfolding is_sub
sub_same a b e = eqb-true (both a b) a e

pub sub_true : (a b : ℕ) → is_sub a b ≡ true → (k : ℕ) → In a k → In b k
sub_true a b e k h = both_r a b k (ap (λ (x : ℕ). has x k) (sub_same a b e) ∙ h)

pub sub_of : (a b : ℕ) → ((k : ℕ) → In a k → In b k) → is_sub a b ≡ true
unfolding is_sub
sub_of a b f = eq-eqb (both a b) a (same_set (both a b) a (both_l a b) (λ k p. both_in_lem a b k p (f k p)))

-- ---- a list of bits

pub has-bits : (s : List Bool) (k : ℕ) → has (bits s) k ≡ contains s k
unfolding has
has-bits s k = ap (λ (x : ℕ). eqb x 1) (bit-marks s k) ∙ one_marks (contains s k)

-- ---- the lowest position

-- position m is in the set, and none below it is
pub record Lowest (set m : ℕ) : Type 0 where
  pub there : In set m
  pub below : (j : ℕ) → j < m → has set j ≡ false

pub lowest_one : (set m n : ℕ) → Lowest set m → Lowest set n → m ≡ n
lowest_one set m n p q =
    bool_cases (ltb m n) (λ e. absurd (clash p.there (q.below m (ltb-true m n e))))
    (λ e. bool_cases (ltb n m) (λ f. absurd (clash q.there (p.below n (ltb-true n m f))))
    (λ f. omega (arith, ltb-false m n e, ltb-false n m f)))

lowest_step : (set t d : ℕ) → set % 2 ≡ d → d < 2 → (d ≡ 0 → Lowest (set / 2) t) → Lowest set (under d t)
lowest_step set t zero e h f = record { there = has-suc set t ∙ (f refl).there; below = low }
  where
    low : (j : ℕ) → j < suc t → has set j ≡ false
    low zero k = has_low set ∙ ap (λ (x : ℕ). eqb x 1) e
    low (suc j) k = has-suc set j ∙ (f refl).below j (le_of_suc-le-suc k)
lowest_step set t (suc zero) e h f = record { there = has_low set ∙ ap (λ (x : ℕ). eqb x 1) e; below = λ j k. absurd (not-suc-le-zero k) }
lowest_step set t (suc (suc d)) e h f = absurd (omega arith)

-- the count of trailing zeros is the lowest position, at any number of digits that holds the set
pub trailing_lowest : (digits set : ℕ) → (set ≡ 0 → ⊥) → set < 2 ^ digits → Lowest set (count_trailing_zeros digits set)
unfolding count_trailing_zeros
trailing_lowest zero set some h = absurd (some (omega arith))
trailing_lowest (suc digits) set some h =
    lowest_step set (count_trailing_zeros digits (set / 2)) (set % 2) refl (mod-lt set (zero-lt-suc 1))
    (λ e. trailing_lowest digits (set / 2) (λ z. some (omega arith)) (let p = pow-succ' 2 digits in omega arith))

-- a position that is in a set of so many digits
pub digit_below : (digits set k : ℕ) → set < 2 ^ digits → In set k → k < digits
unfolding has
digit_below digits set k h e =
    bool_cases (ltb k digits) (ltb-true k digits)
    (λ t.
    let small : set < 2 ^ k = lt_of_lt_of_le h (pow_mono (ltb-false k digits t)) in
    absurd (clash e (ap (λ (x : ℕ). eqb (x % 2) 1) (div-eq_of_lt small))))

-- ---- the positions below a bound

pub below_of : (i k : ℕ) → In (rows_below i) k → k < i
unfolding rows_below
below_of i k h = digit_below i (2 ^ i - 1) k (ones_lt i) h

ones_low : (i : ℕ) → (2 ^ suc i - 1) % 2 ≡ 1
ones_low i = omega (arith, pow-succ' 2 i, pow_pos i)

ones_half : (i : ℕ) → (2 ^ suc i - 1) / 2 ≡ 2 ^ i - 1
ones_half i = omega (arith, pow-succ' 2 i, pow_pos i)

pub below_in : (i k : ℕ) → k < i → In (rows_below i) k
unfolding rows_below
below_in zero k h = absurd (not-suc-le-zero h)
below_in (suc i) zero h = has_low (2 ^ suc i - 1) ∙ ap (λ (x : ℕ). eqb x 1) (ones_low i)
below_in (suc i) (suc k) h = has-suc (2 ^ suc i - 1) k ∙ ap (λ (x : ℕ). has x k) (ones_half i) ∙ below_in i k (le_of_suc-le-suc h)

-- ---- the lowest position, and the others

pub below_pow : (n : ℕ) → n < 2 ^ n
below_pow zero = omega arith
below_pow (suc n) = let p = pow-succ' 2 n in omega (arith, below_pow n)

pub is_lowest : (set : ℕ) → (set ≡ 0 → ⊥) → Lowest set (lowest set)
unfolding lowest
is_lowest set some = trailing_lowest set set some (below_pow set)

-- a set that is not empty has a position
pub some : (set : ℕ) → (set ≡ 0 → ⊥) → (k : ℕ) × In set k
some set ne = (lowest set, (is_lowest set ne).there)

pub at_lowest : (set m : ℕ) → 0 < set → m ≡ lowest set → Lowest set m
at_lowest set m some e = subst (Lowest set) (sym e) (is_lowest set (λ z. omega arith))

-- at any number of digits that holds the set
pub trailing_is : (digits set : ℕ) → 0 < set → set < 2 ^ digits → count_trailing_zeros digits set ≡ lowest set
trailing_is digits set some h =
    lowest_one set (count_trailing_zeros digits set) (lowest set) (trailing_lowest digits set (λ z. omega arith) h) (is_lowest set (λ z. omega arith))

half_lowest : (set m : ℕ) → Lowest set (suc m) → Lowest (set / 2) m
half_lowest set m l = record { there = sym (has-suc set m) ∙ l.there; below = λ j h. sym (has-suc set j) ∙ l.below (suc j) (omega arith) }

-- one less, halved
half_odd : (set : ℕ) → Lowest set 0 → (set - 1) / 2 ≡ set / 2
half_odd set l = let odd : set % 2 ≡ 1 = eqb-true (set % 2) 1 (sym (has_low set) ∙ l.there) in omega arith

half_even : (set m : ℕ) → Lowest set (suc m) → (set - 1) / 2 ≡ set / 2 - 1
half_even set m l =
    let even = eqb-false (set % 2) 1 (sym (has_low set) ∙ l.below 0 (omega arith)) in
    let some : set / 2 ≡ 0 → ⊥ = λ z. clash (half_lowest set m l).there (ap (λ (x : ℕ). has x m) z ∙ has_none m) in
    omega arith

pred_at : (set m : ℕ) → Lowest set m → has (set - 1) m ≡ false
pred_at set zero l =
    let odd : set % 2 ≡ 1 = eqb-true (set % 2) 1 (sym (has_low set) ∙ l.there) in
    let low : (set - 1) % 2 ≡ 0 = omega arith in
    has_low (set - 1) ∙ ap (λ (x : ℕ). eqb x 1) low
pred_at set (suc m) l = has-suc (set - 1) m ∙ ap (λ (x : ℕ). has x m) (half_even set m l) ∙ pred_at (set / 2) m (half_lowest set m l)

pred_above : (set m k : ℕ) → Lowest set m → m < k → has (set - 1) k ≡ has set k
pred_above set m zero l h = absurd (not-suc-le-zero h)
pred_above set zero (suc k) l h = has-suc (set - 1) k ∙ ap (λ (x : ℕ). has x k) (half_odd set l) ∙ sym (has-suc set k)
pred_above set (suc m) (suc k) l h =
    has-suc (set - 1) k ∙ ap (λ (x : ℕ). has x k) (half_even set m l) ∙ pred_above (set / 2) m k (half_lowest set m l) (le_of_suc-le-suc h)
    ∙ sym (has-suc set k)

pub rest_in : (set k : ℕ) → In (without_lowest set) k → In set k
unfolding without_lowest both
rest_in set k h = both_l set (set - 1) k h

pub rest_of : (set m k : ℕ) → Lowest set m → In set k → (k ≡ m → ⊥) → In (without_lowest set) k
unfolding without_lowest both
rest_of set m k l h d =
    both_in_lem set (set - 1) k h
    (bool_cases (ltb k m) (λ t. absurd (clash h (l.below k (ltb-true k m t))))
    (λ t. pred_above set m k l (let above = ltb-false k m t in omega arith) ∙ h))

pub rest_out : (set m : ℕ) → Lowest set m → has (without_lowest set) m ≡ false
unfolding without_lowest both
rest_out set m l = false_from_ne_true (has (bit_and set (set - 1)) m) (λ h. clash (both_r set (set - 1) m h) (pred_at set m l))

pub rest_less : (set : ℕ) → 0 < set → without_lowest set < set
unfolding without_lowest
rest_less set some = omega (arith, and_le_r set (set - 1))

-- of a set below n
pub lowest_inside : (set m n : ℕ) → 0 < set → m ≡ lowest set → Inside set n → m < n
lowest_inside set m n some e f = f m (at_lowest set m some e).there

pub rest_inside : (set rest n : ℕ) → rest ≡ without_lowest set → Inside set n → Inside rest n
rest_inside set rest n e f k h = f k (rest_in set k (ap (λ (x : ℕ). has x k) (sym e) ∙ h))

pub rest_sub : (set rest all : ℕ) → rest ≡ without_lowest set → ((k : ℕ) → In set k → In all k) → (k : ℕ) → In rest k → In all k
rest_sub set rest all e f k h = f k (rest_in set k (ap (λ (x : ℕ). has x k) (sym e) ∙ h))

-- ---- two sets that are not the same

pub only_one_some : (a b : ℕ) → (a ≡ b → ⊥) → only_one a b ≡ 0 → ⊥
only_one_some a b d e = d (has_ext a b (λ k. beq_same (has a k) (has b k) (sym (has_one a b k) ∙ ap (λ (x : ℕ). has x k) e ∙ has_none k)))

pub only_one_in : (a b k : ℕ) → In (only_one a b) k → has b k ≡ not (has a k)
only_one_in a b k h = beq_other (has a k) (has b k) (sym (has_one a b k) ∙ h)

only_one_of : (a b k : ℕ) → In a k → has b k ≡ false → In (only_one a b) k
only_one_of a b k p q = has_one a b k ∙ ap₂ (λ (x y : Bool). not (beq x y)) p q

pub only_one_out : (a b k : ℕ) → has (only_one a b) k ≡ false → has a k ≡ has b k
only_one_out a b k h = beq_same (has a k) (has b k) (sym (has_one a b k) ∙ h)

-- ---- a set without another

pub but_in : (a b k : ℕ) → In a k → has b k ≡ false → In (but_not a b) k
unfolding but_not
but_in a b k p q = only_one_of a (both a b) k p (false_from_ne_true (has (both a b) k) (λ h. clash (both_r a b k h) q))

pub but_l : (a b k : ℕ) → In (but_not a b) k → In a k
unfolding but_not
but_l a b k h = bool_cases (has a k) (λ e. e) (λ e. both_l a b k (only_one_in a (both a b) k h ∙ ap not e))

pub but_out : (a b k : ℕ) → In (but_not a b) k → has b k ≡ false
unfolding but_not
but_out a b k h = false_from_ne_true (has b k) (λ q. let p = but_l a b k h in clash (both_in_lem a b k p q) (only_one_in a (both a b) k h ∙ ap not p))

-- ---- a part of a set

-- that lacks a position of the set is a smaller number
pub sub_less : (a b k : ℕ) → ((j : ℕ) → In a j → In b j) → In b k → has a k ≡ false → a < b
unfolding both
sub_less a b k f h out =
    let le : a ≤ b = subst (λ (x : ℕ). x ≤ b) (sub_same a b (sub_of a b f)) (and_le_r a b) in
    let ne : a ≡ b → ⊥ = λ e. clash h (ap (λ (x : ℕ). has x k) (sym e) ∙ out) in
    omega arith

pub both_less : (a b r : ℕ) → r ≡ both a b → r ≤ a
unfolding both
both_less a b r e = subst (λ (x : ℕ). x ≤ a) (sym e) (and_le_l a b)
