-- What a word lacks, as a set of rows. Assumes nothing.
use mathlib.Core.Path.{◌≡◌, sym, ◌∙◌, ap}
use mathlib.Core.Bool.{not}
use Prim.Native.Nat.{ℕ, zero, suc, ◌-◌, ◌/◌, ◌%◌, ◌^◌, ◌<◌}
use native.Mathlib.Nat.{pow-succ'}
use native.Mathlib.Omega.{arith}
use lib.Dec.{eqb}
use borrow.Author.Tests.{eqb-true, eqb-false}
use Rattle.definitions.proofs.Bools.{bool_cases}
use Rattle.bitsets.specs.Bits.{has}
use Rattle.bitsets.proofs.Bits.{has_low, has-suc}

pub has_lacked : (n a k : ℕ) → a < 2 ^ n → k < n → has (2 ^ n - 1 - a) k ≡ not (has a k)
has_lacked zero a k h l = absurd (omega arith)
has_lacked (suc n) a zero h l =
    let p = pow-succ' 2 n in
    bool_cases (eqb (a % 2) 1)
    (λ e.
    let odd : a % 2 ≡ 1 = eqb-true (a % 2) 1 e in
    let low : (2 ^ suc n - 1 - a) % 2 ≡ 0 = omega arith in
    has_low (2 ^ suc n - 1 - a) ∙ ap (λ (x : ℕ). eqb x 1) low ∙ sym (ap not (has_low a ∙ e)))
    (λ e.
    let even = eqb-false (a % 2) 1 e in
    let low : (2 ^ suc n - 1 - a) % 2 ≡ 1 = omega arith in
    has_low (2 ^ suc n - 1 - a) ∙ ap (λ (x : ℕ). eqb x 1) low ∙ sym (ap not (has_low a ∙ e)))
has_lacked (suc n) a (suc k) h l =
    let p = pow-succ' 2 n in
    let half : (2 ^ suc n - 1 - a) / 2 ≡ 2 ^ n - 1 - a / 2 = omega arith in
    has-suc (2 ^ suc n - 1 - a) k ∙ ap (λ (x : ℕ). has x k) half ∙ has_lacked n (a / 2) k (omega arith) (omega arith) ∙ ap not (sym (has-suc a k))
