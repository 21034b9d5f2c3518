-- Laws of f 0, f 1, .. f (n - 1): each of them, two parts, and as a set of positions what it holds. Assumes nothing.
use mathlib.Core.Path.{◌≡◌, refl, sym, ◌∙◌, ap, ap₂}
use mathlib.Core.Bool.{Bool, true, false}
use mathlib.Core.Logic.{⊎_elim}
use mathlib.Core.List.{List, [], ◌∷◌, ◌++◌}
use Prim.Native.Nat.{ℕ, zero, suc, ◌+◌, ◌-◌, ◌<◌, ◌≤◌}
use native.Mathlib.Nat.{le_of_suc-le-suc, not-suc-le-zero, suc-add, sub-zero, suc-sub-suc}
use native.Mathlib.Omega.{arith}
use lib.ListN.{length, get_or, replicate}
use Rattle.definitions.specs.Lists.{tabulate}
use Rattle.definitions.specs.ComplementUnion.{contains}
use Rattle.definitions.specs.Statements.{Member}
use Rattle.definitions.specs.Claims.{Holds}
use Rattle.definitions.proofs.Sets.{holds_within}

module _ {A : Type 0} where
  pub tabulate-length : (n : ℕ) (f : ℕ → A) → length (tabulate n f) ≡ n
  unfolding tabulate
  tabulate-length zero f = refl
  tabulate-length (suc n) f = ap suc (tabulate-length n (λ k. f (suc k)))

  pub tabulate-get : (d : A) (n : ℕ) (f : ℕ → A) (k : ℕ) → k < n → get_or (tabulate n f) k d ≡ f k
  unfolding tabulate
  tabulate-get d zero f k h = absurd (not-suc-le-zero h)
  tabulate-get d (suc n) f zero h = refl
  tabulate-get d (suc n) f (suc k) h = tabulate-get d n (λ j. f (suc j)) k (le_of_suc-le-suc h)

  pub tabulate-member : (n : ℕ) (f : ℕ → A) (x : A) → Member x (tabulate n f) → (k : ℕ) × (x ≡ f k)
  unfolding tabulate
  tabulate-member zero f x h = absurd h
  tabulate-member (suc n) f x h =
      ⊎_elim (λ e. (0, e)) (λ m. let i = tabulate-member n (λ k. f (suc k)) x m in (suc i.0, i.1)) h

  pub tabulate_ext : (n : ℕ) (f g : ℕ → A) → ((k : ℕ) → k < n → f k ≡ g k) → tabulate n f ≡ tabulate n g
  unfolding tabulate
  tabulate_ext zero f g h = refl
  tabulate_ext (suc n) f g h =
      ap₂ (λ (y : A) (r : List A). y ∷ r) (h 0 (omega arith))
      (tabulate_ext n (λ k. f (suc k)) (λ k. g (suc k)) (λ k p. h (suc k) (omega arith)))

-- a set is told by its positions
pub tabulate-contains : (s : List Bool) → tabulate (length s) (contains s) ≡ s
unfolding tabulate contains
tabulate-contains [] = refl
tabulate-contains (m ∷ s) = ap (λ (l : List Bool). m ∷ l) (tabulate-contains s)

tabulate_none : (n : ℕ) → tabulate n (λ k. false) ≡ replicate n false
unfolding tabulate
tabulate_none zero = refl
tabulate_none (suc n) = ap (λ (l : List Bool). false ∷ l) (tabulate_none n)

-- told of n positions, a set of fewer marks holds none of the others
pub tabulate_wide : (n : ℕ) (s : List Bool) → length s ≤ n → tabulate n (contains s) ≡ s ++ replicate (n - length s) false
unfolding tabulate contains
tabulate_wide n [] h = tabulate_none n ∙ ap (λ (k : ℕ). replicate k false) (sym (sub-zero n))
tabulate_wide zero (m ∷ s) h = absurd (not-suc-le-zero h)
tabulate_wide (suc n) (m ∷ s) h =
    ap (λ (l : List Bool). m ∷ l)
    (tabulate_wide n s (le_of_suc-le-suc h) ∙ ap (λ (k : ℕ). s ++ replicate k false) (sym (suc-sub-suc n (length s))))

-- two parts
pub tabulate-append : {A : Type 0} (n k : ℕ) (f : ℕ → A) → tabulate (n + k) f ≡ tabulate n f ++ tabulate k (λ p. f (n + p))
unfolding tabulate
tabulate-append zero k f =
    let e : 0 + k ≡ k = omega arith in
    ap (λ (i : ℕ). tabulate i f) e ∙ tabulate_ext k f (λ p. f (0 + p)) (λ p h. let g : p ≡ 0 + p = omega arith in ap f g)
tabulate-append {A} (suc n) k f =
    ap (λ (i : ℕ). tabulate i f) (suc-add n k)
    ∙ ap (λ (l : List A). f 0 ∷ l)
    (tabulate-append n k (λ p. f (suc p))
    ∙ ap (λ (l : List A). tabulate n (λ p. f (suc p)) ++ l)
    (tabulate_ext k (λ p. f (suc (n + p))) (λ p. f (suc n + p)) (λ p h. ap f (sym (suc-add n p)))))

-- ---- the positions that pass a test, as a set

pub tabulate_at : (n : ℕ) (p : ℕ → Bool) (k : ℕ) → k < n → contains (tabulate n p) k ≡ p k
unfolding tabulate contains
tabulate_at zero p k h = absurd (not-suc-le-zero h)
tabulate_at (suc n) p zero h = refl
tabulate_at (suc n) p (suc k) h = tabulate_at n (λ j. p (suc j)) k (le_of_suc-le-suc h)

pub tabulate_below : (n : ℕ) (p : ℕ → Bool) (k : ℕ) → Holds (tabulate n p) k → k < n
tabulate_below n p k h = omega (arith, holds_within (tabulate n p) k h, tabulate-length n p)

pub tabulate_pass : (n : ℕ) (p : ℕ → Bool) (k : ℕ) → Holds (tabulate n p) k → p k ≡ true
tabulate_pass n p k h = sym (tabulate_at n p k (tabulate_below n p k h)) ∙ h
