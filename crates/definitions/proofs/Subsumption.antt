-- Subsumption in the words of document 01, and that it is a strict order: transitive, and no row subsumes itself. Assumes nothing.
use mathlib.Core.Path.{◌≡◌, refl, sym, ◌∙◌, ap, ap₂}
use mathlib.Core.Bool.{Bool, true, false, cond, not, ◌&&◌, ◌||◌}
use mathlib.Core.Logic.{◌⊎◌, inl, inr, ⊎_elim, ◌↔◌}
use mathlib.Core.List.{List, [], ◌∷◌}
use Prim.Native.Nat.{ℕ, ◌+◌, ◌<◌, ◌≤◌}
use native.Mathlib.Omega.{arith}
use lib.Dec.{eqb, ltb}
use lib.ListN.{length, get_or}
use borrow.Author.Tests.{eqb-true, ltb-true, ltb-false, lt-ltb, le-ltb, not-true}
use Rattle.definitions.specs.Word.{is_filled}
use Rattle.definitions.specs.MinimumUnion.{filled, covers, subsumes}
use Rattle.definitions.specs.Claims.{Filled, empties, CellCovers}
use Rattle.std.proofs.lemmas.Bool.{and_from, and_parts, or_cases}
use Rattle.definitions.proofs.Bools.{bool_cases}
use Rattle.definitions.proofs.Rows.{empty_cell, covers_at, covers_of}

pub filled-empties : (s : List ℕ) → filled s + empties s ≡ length s
unfolding filled empties
filled-empties [] = refl
filled-empties (x ∷ s) =
    let i = filled-empties s in
    bool_cases (is_filled x) (λ e. rw e (omega arith)) (λ e. rw e (omega arith))

-- of equally long rows, more empty cells are fewer filled ones
pub more_empty : (s t : List ℕ) → length s ≡ length t → (filled t < filled s) ↔ (empties s < empties t)
more_empty s t e =
    let p = filled-empties s in
    let q = filled-empties t in
    (λ h. omega arith, λ h. omega arith)

-- ---- subsumption

pub subsumes_is : (s t : List ℕ) → (subsumes s t ≡ true) ↔ ((filled t < filled s) × (covers s t ≡ true))
unfolding subsumes
subsumes_is s t = (
  λ e. (ltb-true (filled t) (filled s) (and_parts (ltb (filled t) (filled s)) (covers s t) e).0, (and_parts (ltb (filled t) (filled s)) (covers s t) e).1),
  λ h. and_from _ _ (lt-ltb (filled t) (filled s) h.0) h.1,
)

-- "Row s subsumes row t if t has more empty cells than s and every filled cell of t equals that of s."
pub subsumes_says : (s t : List ℕ) → length s ≡ length t
    → (subsumes s t ≡ true) ↔ ((empties s < empties t) × ((k : ℕ) → CellCovers (get_or s k 0) (get_or t k 0)))
subsumes_says s t e = (
  λ h. let i = (subsumes_is s t).0 h in ((more_empty s t e).0 i.0, covers_at s t i.1),
  λ h. (subsumes_is s t).1 ((more_empty s t e).1 h.0, covers_of s t h.1),
)

-- a filled cell of the subsumed row is one of the row that subsumes it
pub subsumes_keeps : (s t : List ℕ) (k w : ℕ) → Filled w → subsumes s t ≡ true → get_or t k 0 ≡ w → get_or s k 0 ≡ w
subsumes_keeps s t k w filled e h =
    ⊎_elim (λ q. absurd (filled (sym h ∙ q))) (λ q. q ∙ h) (covers_at s t ((subsumes_is s t).0 e).1 k)

pub covers_trans : (s t u : List ℕ) → covers s t ≡ true → covers t u ≡ true → covers s u ≡ true
covers_trans s t u e f =
    covers_of s u (λ k. ⊎_elim (λ q. inl q) (λ q. ⊎_elim (λ p. inl (sym q ∙ p)) (λ p. inr (p ∙ q)) (covers_at s t e k)) (covers_at t u f k))

pub covers_self : (s : List ℕ) → covers s s ≡ true
covers_self s = covers_of s s (λ k. inr refl)

pub subsumes_trans : (s t u : List ℕ) → subsumes s t ≡ true → subsumes t u ≡ true → subsumes s u ≡ true
subsumes_trans s t u e f =
    let p = (subsumes_is s t).0 e in
    let q = (subsumes_is t u).0 f in
    (subsumes_is s u).1 (omega (arith, p.0, q.0), covers_trans s t u p.1 q.1)

-- so too of a row that is s or subsumes it
pub covered_subsumes : (c s t : List ℕ) → (c ≡ s) ⊎ (subsumes c s ≡ true) → subsumes s t ≡ true → subsumes c t ≡ true
covered_subsumes c s t h e = ⊎_elim (λ q. rw q e) (λ q. subsumes_trans c s t q e) h

pub subsumes_self : (s : List ℕ) → subsumes s s ≡ false
unfolding subsumes
subsumes_self s = ap (λ (b : Bool). b && covers s s) (le-ltb (filled s) (filled s) (omega arith))

-- a row covers only rows with fewer filled cells, and itself
pub covers-filled : (s t : List ℕ) → covers s t ≡ true → filled t ≤ filled s
unfolding covers filled
covers-filled s [] e = omega arith
covers-filled [] (y ∷ t) e =
    let i = covers-filled [] t (and_parts (not (is_filled y)) (covers [] t) e).1 in
    rw (not-true (is_filled y) (and_parts (not (is_filled y)) (covers [] t) e).0) (omega arith)
covers-filled (x ∷ s) (y ∷ t) e =
    let i = covers-filled s t (and_parts (not (is_filled y) || eqb x y) (covers s t) e).1 in
    ⊎_elim (λ q. rw (not-true (is_filled y) q) (omega arith)) (λ q. rw (eqb-true x y q) (omega arith))
    (or_cases (not (is_filled y)) (eqb x y) (and_parts (not (is_filled y) || eqb x y) (covers s t) e).0)

pub covers_same : (s t : List ℕ) → length s ≡ length t → covers s t ≡ true → filled t ≡ filled s → s ≡ t
unfolding covers filled
covers_same [] [] l e f = refl
covers_same [] (y ∷ t) l e f = absurd (omega arith)
covers_same (x ∷ s) [] l e f = absurd (omega arith)
covers_same (x ∷ s) (y ∷ t) l e f =
    let c = (and_parts (not (is_filled y) || eqb x y) (covers s t) e).1 in
    let i = covers-filled s t c in
    let rest : filled t ≡ filled s → s ≡ t = covers_same s t (omega arith) c in
    let both : x ≡ y → filled t ≡ filled s → (x ∷ s) ≡ (y ∷ t) = λ q r. ap₂ (λ (a : ℕ) (u : List ℕ). a ∷ u) q (rest r) in
    ⊎_elim
    (λ q.
    let n = not-true (is_filled y) q in
    let g : filled t ≡ cond (is_filled x) 1 0 + filled s = sym (rw n (omega arith)) ∙ f in
    bool_cases (is_filled x)
    (λ p. absurd (let k = rw p at g in omega arith))
    (λ p. both (empty_cell x p ∙ sym (empty_cell y n)) (let k = rw p at g in omega arith)))
    (λ q. let p = eqb-true x y q in both p (let k = rw p at f in omega arith))
    (or_cases (not (is_filled y)) (eqb x y) (and_parts (not (is_filled y) || eqb x y) (covers s t) e).0)

-- an equal or subsumed row is covered
pub covered_covers : (s t : List ℕ) → (s ≡ t) ⊎ (subsumes s t ≡ true) → covers s t ≡ true
covered_covers s t h = ⊎_elim (λ q. rw q (covers_self t)) (λ q. ((subsumes_is s t).0 q).1) h

-- and of equally long rows, a covered row is equal or subsumed
pub covers_cases : (s t : List ℕ) → length s ≡ length t → covers s t ≡ true → (s ≡ t) ⊎ (subsumes s t ≡ true)
covers_cases s t l e =
    let i = covers-filled s t e in
    bool_cases (ltb (filled t) (filled s))
    (λ q. inr ((subsumes_is s t).1 (ltb-true (filled t) (filled s) q, e)))
    (λ q. let h = ltb-false (filled t) (filled s) q in inl (covers_same s t l e (omega arith)))
