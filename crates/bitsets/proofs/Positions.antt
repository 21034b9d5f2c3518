-- The positions of a set that is a number, listed in ascending order: the lowest and then the others, how many they are, and
-- whether all are below a number. Assumes nothing.
use mathlib.Core.Path.{◌≡◌, refl, sym, ◌∙◌, ap, ap₂}
use mathlib.Core.Bool.{Bool, true, false, not, ◌&&◌, and-true}
use mathlib.Core.List.{List, [], ◌∷◌}
use Prim.Native.Nat.{ℕ, zero, suc, ◌+◌, ◌-◌, ◌/◌, ◌%◌, ◌^◌, ◌<◌, ◌≤◌}
use native.Mathlib.Nat.{le_of_suc-le-suc, not-suc-le-zero, pow-succ', div-one, zero-div, div-div-eq-div-mul}
use native.Mathlib.Omega.{arith}
use lib.Bits.{and_mask}
use lib.Dec.{eqb, ltb}
use lib.Count.{ones, ones_step, ones-le}
use lib.ListN.{length}
use borrow.Author.Tests.{eqb-true, eqb-false, eq-eqb, ne_eqb, ltb-true, ltb-false, lt-ltb}
use Rattle.definitions.specs.Lists.{all, tabulate}
use Rattle.definitions.specs.Reading.{positions_of}
use Rattle.definitions.proofs.Tabulate.{tabulate_ext}
use Rattle.definitions.proofs.MarkBits.{bits_next}
use Rattle.definitions.proofs.Bools.{bool_cases, bool_eq}
use Rattle.bitsets.specs.Bits.{has, both, rows_below, Inside, lowest, without_lowest}
use Rattle.bitsets.proofs.Bits.{has_both, has_none, below_in, at_lowest, rest_in, rest_of, rest_out}

-- the low n bits of a word hold its positions below n
pub has-mod : (w n k : ℕ) → k < n → has (w % 2 ^ n) k ≡ has w k
unfolding both rows_below
has-mod w n k h =
    ap (λ (x : ℕ). has x k) (sym (and_mask w n))
    ∙ has_both w (rows_below n) k
    ∙ ap (λ (b : Bool). has w k && b) (below_in n k h)
    ∙ and-true (has w k)

-- ---- the positions below n, each with a number added

abbrev pub positions_below : ℕ → ℕ → ℕ → List ℕ
positions_below n from set = positions_of from (tabulate n (has set))

none_of : (n from : ℕ) (f : ℕ → Bool) → ((k : ℕ) → f k ≡ false) → positions_of from (tabulate n f) ≡ []
unfolding tabulate positions_of
none_of zero from f h = refl
none_of (suc n) from f h = rw (h 0) (none_of n (suc from) (λ k. f (suc k)) (λ k. h (suc k)))

pub positions_none : (n from : ℕ) → positions_below n from 0 ≡ []
positions_none n from = none_of n from (has 0) has_none

-- f holds at m and not below it, and g holds where f does but at m
first_of : (n m from : ℕ) (f g : ℕ → Bool) → m < n → f m ≡ true → ((k : ℕ) → k < m → f k ≡ false) → g m ≡ false
    → ((k : ℕ) → (k ≡ m → ⊥) → g k ≡ f k) → positions_of from (tabulate n f) ≡ (from + m) ∷ positions_of from (tabulate n g)
unfolding tabulate positions_of
first_of zero m from f g h there low out same = absurd (not-suc-le-zero h)
first_of (suc n) zero from f g h there low out same =
    let e : from ≡ from + 0 = omega arith in
    rw (there, out)
    (ap₂ (λ (p : ℕ) (s : List Bool). p ∷ positions_of (suc from) s) e
    (tabulate_ext n (λ k. f (suc k)) (λ k. g (suc k)) (λ k l. sym (same (suc k) (λ d. omega arith)))))
first_of (suc n) (suc m) from f g h there low out same =
    let e : suc from + m ≡ from + suc m = omega arith in
    let off : f 0 ≡ false = low 0 (omega arith) in
    rw (off, same 0 (λ d. omega arith) ∙ off)
    (first_of n m (suc from) (λ k. f (suc k)) (λ k. g (suc k)) (le_of_suc-le-suc h) there (λ k l. low (suc k) (omega arith)) out
    (λ k d. same (suc k) (λ q. d (omega arith)))
    ∙ ap (λ (p : ℕ). p ∷ positions_of (suc from) (tabulate n (λ k. g (suc k)))) e)

-- the lowest, and then the others
pub positions_next : (n from set : ℕ) → 0 < set → Inside set n
    → positions_below n from set ≡ (from + lowest set) ∷ positions_below n from (without_lowest set)
positions_next n from set some inside =
    let l = at_lowest set (lowest set) some refl in
    first_of n (lowest set) from (has set) (has (without_lowest set)) (inside (lowest set) l.there) l.there l.below
    (rest_out set (lowest set) l)
    (λ k d. bool_eq (has (without_lowest set) k) (has set k) (rest_in set k) (λ p. rest_of set (lowest set) k l p d))

-- the lowest bit, and then those of the half
half_next : (n x : ℕ) → tabulate (suc n) (has x) ≡ eqb (x % 2) 1 ∷ tabulate n (has (x / 2))
unfolding has
half_next n x = bits_next n x

half_below : (n x : ℕ) → x < 2 ^ suc n → x / 2 < 2 ^ n
half_below n x h = omega (arith, pow-succ' 2 n)

-- as many as the number has ones
pub positions_ones : (n from set : ℕ) → set < 2 ^ n → length (positions_below n from set) ≡ ones set
unfolding tabulate positions_of
positions_ones zero from set h = omega (arith, ones-le 0 set h)
positions_ones (suc n) from set h =
    let others = positions_ones n (suc from) (set / 2) (half_below n set h) in
    ap (λ (s : List Bool). length (positions_of from s)) (half_next n set)
    ∙ bool_cases (eqb (set % 2) 1)
    (λ e. let odd = eqb-true (set % 2) 1 e in rw e (omega (arith, others, ones_step set)))
    (λ e. let even = eqb-false (set % 2) 1 e in rw e (omega (arith, others, ones_step set)))

-- ---- whether there is one, and whether all are below a number

-- a shift by the positions from one on that are below a number
shift_in : (x from rows : ℕ) → from < rows → x / 2 ^ (rows - from) ≡ x / 2 / 2 ^ (rows - suc from)
shift_in x from rows h =
    let e : rows - from ≡ suc (rows - suc from) = omega arith in
    ap (λ (k : ℕ). x / 2 ^ k) e ∙ ap (λ (y : ℕ). x / y) (pow-succ' 2 (rows - suc from)) ∙ sym (div-div-eq-div-mul x 2 (2 ^ (rows - suc from)))

pub no_shift : (x from rows : ℕ) → rows ≤ from → x / 2 ^ (rows - from) ≡ x
no_shift x from rows h = let e : rows - from ≡ 0 = omega arith in ap (λ (k : ℕ). x / 2 ^ k) e ∙ div-one x

half_zero : (x : ℕ) → (x % 2 ≡ 1 → ⊥) → eqb (x / 2) 0 ≡ eqb x 0
half_zero x odd =
    bool_cases (eqb x 0)
    (λ e. let z = eqb-true x 0 e in eq-eqb (x / 2) 0 (omega arith) ∙ sym e)
    (λ e. let z = eqb-false x 0 e in ne_eqb (x / 2) 0 (λ q. z (omega arith)) ∙ sym e)

-- whether all its positions are below a number
pub positions_under : (n x from rows : ℕ) → x < 2 ^ n
    → all (λ p. ltb p rows) (positions_below n from x) ≡ eqb (x / 2 ^ (rows - from)) 0
unfolding all positions_of tabulate
positions_under zero x from rows h =
    let e : 0 ≡ x = omega arith in
    ap (λ (y : ℕ). eqb y 0) (sym (zero-div (2 ^ (rows - from))) ∙ ap (λ (y : ℕ). y / 2 ^ (rows - from)) e)
positions_under (suc n) x from rows h =
    let rest = positions_under n (x / 2) (suc from) rows (half_below n x h) in
    ap (λ (s : List Bool). all (λ p. ltb p rows) (positions_of from s)) (half_next n x)
    ∙ bool_cases (ltb from rows)
    (λ t.
    let in_rows = ap (λ (y : ℕ). eqb y 0) (sym (shift_in x from rows (ltb-true from rows t))) in
    bool_cases (eqb (x % 2) 1) (λ e. rw (e, t, rest) in_rows) (λ e. rw (e, rest) in_rows))
    (λ t.
    let le = ltb-false from rows t in
    bool_cases (eqb (x % 2) 1)
    (λ e. rw (e, t) (sym (ne_eqb (x / 2 ^ (rows - from)) 0 (λ q. let z = eqb-true (x % 2) 1 e in let y = no_shift x from rows le in omega arith))))
    (λ e. rw (e, rest)
    (ap (λ (y : ℕ). eqb y 0) (no_shift (x / 2) (suc from) rows (omega arith))
    ∙ half_zero x (eqb-false (x % 2) 1 e)
    ∙ ap (λ (y : ℕ). eqb y 0) (sym (no_shift x from rows le)))))

-- and whether it has one
pub some_position : (n x from : ℕ) → x < 2 ^ n → ltb 0 (length (positions_below n from x)) ≡ not (eqb x 0)
unfolding positions_of tabulate
some_position zero x from h = let e : x ≡ 0 = omega arith in ap not (sym (eq-eqb x 0 e))
some_position (suc n) x from h =
    let rest = some_position n (x / 2) (suc from) (half_below n x h) in
    ap (λ (s : List Bool). ltb 0 (length (positions_of from s))) (half_next n x)
    ∙ bool_cases (eqb (x % 2) 1)
    (λ e. rw e
    (lt-ltb 0 (suc (length (positions_below n (suc from) (x / 2)))) (omega arith)
    ∙ ap not (sym (ne_eqb x 0 (λ q. let z = eqb-true (x % 2) 1 e in omega arith)))))
    (λ e. rw (e, rest) (ap not (half_zero x (eqb-false (x % 2) 1 e))))
