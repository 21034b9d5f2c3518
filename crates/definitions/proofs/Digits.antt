-- Laws of the decimal digits of a number: the last digit and those before it, and how many there are. Assumes nothing.
use mathlib.Core.Path.{◌≡◌, refl, sym, ◌∙◌, ap}
use mathlib.Core.List.{List, [], ◌∷◌, ◌++◌}
use Prim.Native.Nat.{ℕ, zero, suc, ◌+◌, ◌/◌, ◌%◌, ◌^◌, ◌≤◌, ◌<◌}
use native.Mathlib.Nat.{pow-suc}
use native.Mathlib.Omega.{arith}
use lib.Dec.{ltb}
use lib.ListN.{length, length-append}
use borrow.Author.Tests.{lt-ltb, le-ltb, ltb-true, ltb-false}
use Rattle.definitions.proofs.Bools.{bool_cases}
use Rattle.definitions.specs.Text.{digits, decimal}

one_digit : (steps n : ℕ) → n < 10 → digits steps n ≡ (48 + n) ∷ []
unfolding digits
one_digit zero n h = refl
one_digit (suc steps) n h = rw (lt-ltb n 10 h)

more_digits : (steps n : ℕ) → 10 ≤ n → digits (suc steps) n ≡ digits steps (n / 10) ++ ((48 + n % 10) ∷ [])
unfolding digits
more_digits steps n h = rw (le-ltb n 10 h)

-- as many steps as n are enough
same_digits : (k l n : ℕ) → n ≤ k → n ≤ l → digits k n ≡ digits l n
same_digits zero l n h g = one_digit zero n (omega arith) ∙ sym (one_digit l n (omega arith))
same_digits (suc k) zero n h g = one_digit (suc k) n (omega arith) ∙ sym (one_digit zero n (omega arith))
same_digits (suc k) (suc l) n h g =
    bool_cases (ltb n 10)
    (λ e. one_digit (suc k) n (ltb-true n 10 e) ∙ sym (one_digit (suc l) n (ltb-true n 10 e)))
    (λ e.
    let big : 10 ≤ n = ltb-false n 10 e in
    more_digits k n big
    ∙ ap (λ (x : List ℕ). x ++ ((48 + n % 10) ∷ [])) (same_digits k l (n / 10) (omega arith) (omega arith))
    ∙ sym (more_digits l n big))

pub decimal_digit : (n : ℕ) → n < 10 → decimal n ≡ (48 + n) ∷ []
unfolding decimal
decimal_digit n h = one_digit n n h

pub decimal_last : (n : ℕ) → 10 ≤ n → decimal n ≡ decimal (n / 10) ++ ((48 + n % 10) ∷ [])
unfolding decimal
decimal_last zero h = absurd (omega arith)
decimal_last (suc m) h =
    more_digits m (suc m) h
    ∙ ap (λ (x : List ℕ). x ++ ((48 + suc m % 10) ∷ [])) (same_digits m (suc m / 10) (suc m / 10) (omega arith) (omega arith))

pub digit_length : (n : ℕ) → n < 10 → length (decimal n) ≡ 1
digit_length n h = ap length (decimal_digit n h)

pub last_length : (n : ℕ) → 10 ≤ n → length (decimal n) ≡ length (decimal (n / 10)) + 1
last_length n h = ap length (decimal_last n h) ∙ length-append (decimal (n / 10)) ((48 + n % 10) ∷ [])

-- a number below a power of ten has no more digits than its exponent
pub decimal-length : (k n : ℕ) → n < 10 ^ suc k → length (decimal n) ≤ suc k
decimal-length zero n h = omega (arith, digit_length n h)
decimal-length (suc k) n h =
    bool_cases (ltb n 10)
    (λ e. omega (arith, digit_length n (ltb-true n 10 e)))
    (λ e.
    let big : 10 ≤ n = ltb-false n 10 e in
    let less : n / 10 < 10 ^ suc k = omega (arith, pow-suc 10 (suc k)) in
    omega (arith, last_length n big, decimal-length k (n / 10) less))
