-- How many positions a set has: none, one less without the lowest, fewer in a part of it, those of two parts together, and as many as the
-- number has ones. Assumes nothing.
use mathlib.Core.Path.{◌≡◌, refl, sym, ◌∙◌, ap, ap₂, subst}
use mathlib.Core.Bool.{Bool, true, false, cond}
use Prim.Native.Nat.{ℕ, zero, suc, ◌+◌, ◌≤◌, ◌<◌}
use native.Mathlib.Nat.{not-suc-le-zero, lt-suc_self}
use native.Mathlib.Decide.{le_ind}
use native.Mathlib.Omega.{arith}
use lib.Count.{ones}
use lib.ListN.{length}
use Rattle.std.proofs.lemmas.Bool.{false_from_ne_true}
use Rattle.definitions.proofs.Bools.{bool_cases, bool_eq, clash}
use Rattle.definitions.proofs.Lists.{below_cases}
use Rattle.bitsets.specs.Bits.{has, but_not, Inside, Sub, lowest, without_lowest, rows_below, size_below}
use Rattle.bitsets.proofs.Bits.{In, has_none, rest_in, rest_of, rest_out, rest_less, rest_inside, at_lowest, digit_below, below_pow, below_in, but_in, but_l, but_out}
use Rattle.bitsets.proofs.Positions.{positions_next, positions_ones}

-- the count of one bit
abbrev bit : Bool → ℕ
bit b = cond b 1 0

-- two sets with the same positions below n
same_size : (n a b : ℕ) → ((k : ℕ) → k < n → has a k ≡ has b k) → size_below n a ≡ size_below n b
unfolding size_below
same_size zero a b f = refl
same_size (suc n) a b f = ap₂ (λ (x : ℕ) (y : Bool). x + bit y) (same_size n a b (λ k h. f k (omega arith))) (f n (lt-suc_self n))

pub size_none : (n : ℕ) → size_below n 0 ≡ 0
unfolding size_below
size_none zero = refl
size_none (suc n) = ap₂ (λ (x : ℕ) (y : Bool). x + bit y) (size_none n) (has_none n)

-- a set with one position less
size_less : (n m a b : ℕ) → m < n → In a m → has b m ≡ false → ((k : ℕ) → (k ≡ m → ⊥) → has b k ≡ has a k) → size_below n a ≡ suc (size_below n b)
unfolding size_below
size_less zero m a b h p q f = absurd (not-suc-le-zero h)
size_less (suc n) m a b h p q f =
    below_cases m n h
    (λ lt. rw (size_less n m a b lt p q f, f n (λ e. omega arith)) (omega arith))
    (λ e. rw (
      same_size n b a (λ k l. f k (λ d. omega arith)),
      subst (λ (x : ℕ). has a x ≡ true) e p,
      subst (λ (x : ℕ). has b x ≡ false) e q,
    ) (omega arith))

pub size_next : (n set : ℕ) → 0 < set → Inside set n → size_below n set ≡ suc (size_below n (without_lowest set))
size_next n set some h =
    let l = at_lowest set (lowest set) some refl in
    size_less n (lowest set) set (without_lowest set) (h (lowest set) l.there) l.there (rest_out set (lowest set) l)
    (λ k d. bool_eq (has (without_lowest set) k) (has set k) (rest_in set k) (λ p. rest_of set (lowest set) k l p d))

-- no position is counted of the empty set alone
pub size_zero : (n set : ℕ) → Inside set n → size_below n set ≡ 0 → set ≡ 0
size_zero n zero h e = refl
size_zero n (suc set) h e = absurd (omega (arith, size_next n (suc set) (omega arith) h))

-- all positions below n
every_size : (m set : ℕ) → ((k : ℕ) → k < m → In set k) → size_below m set ≡ m
unfolding size_below
every_size zero set f = refl
every_size (suc m) set f = rw (f m (lt-suc_self m), every_size m set (λ k h. f k (omega arith))) (omega arith)

pub size_all : (n : ℕ) → size_below n (rows_below n) ≡ n
size_all n = every_size n (rows_below n) (below_in n)

-- a part has no more positions
pub size_sub : (n a b : ℕ) → Sub a b → size_below n a ≤ size_below n b
unfolding size_below
size_sub zero a b f = omega arith
size_sub (suc n) a b f =
    let le = size_sub n a b f in
    bool_cases (has a n) (λ e. rw (e, f n e) (omega arith)) (λ e. rw e (omega arith))

-- the positions of a part, and the others
pub size_parts : (n a b : ℕ) → Sub b a → size_below n a ≡ size_below n b + size_below n (but_not a b)
unfolding size_below
size_parts zero a b f = refl
size_parts (suc n) a b f =
    let e = size_parts n a b f in
    bool_cases (has b n)
    (λ t. rw (t, f n t, false_from_ne_true (has (but_not a b) n) (λ h. clash t (but_out a b n h))) (omega arith))
    (λ t. rw (t, bool_eq (has (but_not a b) n) (has a n) (but_l a b n) (λ h. but_in a b n h t)) (omega arith))

pub size_some : (n set k : ℕ) → Inside set n → In set k → 0 < size_below n set
size_some n zero k h p = absurd (clash p (has_none k))
size_some n (suc set) k h p = omega (arith, size_next n (suc set) (omega arith) h)

-- no more positions are counted where the set has none
pub size_wide : (n width set : ℕ) → n ≤ width → Inside set n → size_below width set ≡ size_below n set
unfolding size_below
size_wide n width set h f =
    le_ind (λ (m : ℕ). size_below m set ≡ size_below n set) refl
    (λ m l e. rw (false_from_ne_true (has set m) (λ p. let lt = f m p in omega arith)) (omega arith)) width h

-- ---- as many as the number has ones

ones_next : (set : ℕ) → 0 < set → ones set ≡ suc (ones (without_lowest set))
ones_next set some =
    let h = below_pow set in
    sym (positions_ones set 0 set h)
    ∙ ap length (positions_next set 0 set some (λ k. digit_below set set k h))
    ∙ ap suc (positions_ones set 0 (without_lowest set) (omega (arith, h, rest_less set some)))

-- by the positions that are left
ones_left : (left n set : ℕ) → set ≤ left → Inside set n → size_below n set ≡ ones set
unfolding ones
ones_left left n zero le h = size_none n
ones_left zero n (suc set) le h = absurd (not-suc-le-zero le)
ones_left (suc left) n (suc set) le h =
    let less = rest_less (suc set) (omega arith) in
    size_next n (suc set) (omega arith) h
    ∙ ap suc (ones_left left n (without_lowest (suc set)) (omega arith) (rest_inside (suc set) (without_lowest (suc set)) n refl h))
    ∙ sym (ones_next (suc set) (omega arith))

pub size_ones : (n set : ℕ) → Inside set n → size_below n set ≡ ones set
size_ones n set h = ones_left set n set (omega arith) h
