-- A walk over the rows of a set, lowest first: the rows that are passed, and one more. Assumes nothing.
use mathlib.Core.Path.{◌≡◌, refl, sym, ◌∙◌, ap, ap₂}
use mathlib.Core.Bool.{Bool, true, false, not, ◌&&◌, ◌||◌, and-true, and-false, or-true, or-false}
use Prim.Native.Nat.{ℕ}
use lib.Dec.{eqb}
use borrow.Author.Tests.{eqb-true, eqb-false}
use Rattle.std.proofs.Math.Bool.{and-not_self}
use Rattle.std.proofs.lemmas.Bool.{and_parts}
use Rattle.definitions.proofs.Bools.{bool_cases, bool_eq, clash}
use Rattle.bitsets.specs.Bits.{has, without_lowest}
use Rattle.bitsets.proofs.Bits.{Lowest, at_lowest, has_none, rest_in, rest_of, rest_out}
use Rattle.bitsets.specs.Members.{Next}

pub lowest_of : {rest m left : ℕ} → Next rest m left → Lowest rest m
lowest_of {rest} {m} n = at_lowest rest m n.some n.first

-- a row of the set that is no longer in the rest
abbrev pub passed : ℕ → ℕ → ℕ → Bool
passed rows rest k = has rows k && not (has rest k)

pub passed_in : (rows rest k : ℕ) → passed rows rest k ≡ true → has rows k ≡ true
passed_in rows rest k h = (and_parts (has rows k) (not (has rest k)) h).0

pub passed_none : (rows k : ℕ) → passed rows rows k ≡ false
passed_none rows k = and-not_self (has rows k)

pub passed_all : (rows rest k : ℕ) → rest ≡ 0 → passed rows rest k ≡ has rows k
passed_all rows rest k e = ap (λ (b : Bool). has rows k && not b) (ap (λ (x : ℕ). has x k) e ∙ has_none k) ∙ and-true (has rows k)

-- the lowest of the rest is next
module _ (rows rest j : ℕ) (among : (k : ℕ) → has rest k ≡ true → has rows k ≡ true) (low : Lowest rest j) where
  next_in : has rows j ≡ true
  next_in = among j low.there

  pub among_more : (k : ℕ) → has (without_lowest rest) k ≡ true → has rows k ≡ true
  among_more k h = among k (rest_in rest k h)

  pub next_not : passed rows rest j ≡ false
  next_not = ap (λ (b : Bool). has rows j && not b) low.there ∙ and-false (has rows j)

  pub passed_next : passed rows (without_lowest rest) j ≡ true
  passed_next = ap₂ (λ (a b : Bool). a && not b) next_in (rest_out rest j low)

  pub passed_else : (k : ℕ) → (k ≡ j → ⊥) → passed rows (without_lowest rest) k ≡ passed rows rest k
  passed_else k d =
      ap (λ (b : Bool). has rows k && not b)
      (bool_eq (has (without_lowest rest) k) (has rest k) (rest_in rest k) (λ h. rest_of rest j k low h d))

  pub passed_more : (k : ℕ) → passed rows (without_lowest rest) k ≡ (passed rows rest k || eqb k j)
  passed_more k =
      bool_cases (eqb k j)
      (λ e.
      ap (passed rows (without_lowest rest)) (eqb-true k j e)
      ∙ passed_next
      ∙ sym (ap (λ (b : Bool). passed rows rest k || b) e ∙ or-true (passed rows rest k)))
      (λ e.
      passed_else k (eqb-false k j e)
      ∙ sym (ap (λ (b : Bool). passed rows rest k || b) e ∙ or-false (passed rows rest k)))

  -- a row that is passed is not the next
  pub passed_other : (k : ℕ) → passed rows rest k ≡ true → k ≡ j → ⊥
  passed_other k h e = clash h (ap (passed rows rest) e ∙ next_not)

  pub passed_old : (k : ℕ) → passed rows rest k ≡ true → passed rows (without_lowest rest) k ≡ true
  passed_old k h = passed_else k (passed_other k h) ∙ h

  pub passed_cases : {A : Type 0} (k : ℕ) → passed rows (without_lowest rest) k ≡ true → (passed rows rest k ≡ true → (k ≡ j → ⊥) → A) → (k ≡ j → A) → A
  passed_cases k h f g = bool_cases (eqb k j) (λ e. g (eqb-true k j e)) (λ e. let d = eqb-false k j e in f (sym (passed_else k d) ∙ h) d)
