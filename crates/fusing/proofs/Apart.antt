-- Complementing rows told by which columns are filled: some that counts in both, some in each alone. A missing cell counts as empty.
-- Assumes nothing.
use mathlib.Core.Path.{◌≡◌, refl, sym, ◌∙◌, ap}
use mathlib.Core.Bool.{Bool, true, false, not, ◌&&◌, ◌||◌, and-false}
use mathlib.Core.List.{List, [], ◌∷◌}
use Prim.Native.Nat.{ℕ}
use lib.ListN.{length}
use lib.Dec.{eqb}
use borrow.Author.Tests.{eqb-true}
use Rattle.definitions.specs.Word.{is_filled}
use Rattle.definitions.specs.ComplementUnion.{agree, share, counted_cells, complement}
use Rattle.std.proofs.lemmas.Bool.{and_parts}
use Rattle.definitions.proofs.Bools.{bool_cases, clash}
use Rattle.definitions.proofs.Counted.{agree_counted}
use Rattle.definitions.proofs.Patterns.{only, complement_pattern}

-- some column is filled in both rows
unfoldable pub both_in : List ℕ → List ℕ → Bool
both_in [] t = false
both_in (x ∷ s) [] = false
both_in (x ∷ s) (y ∷ t) = (is_filled x && is_filled y) || both_in s t

-- a shared cell is a column filled in both; where the rows agree, a column filled in both is a shared cell
cell_share : (x y : ℕ) (b h : Bool) → (eqb x y || not (is_filled x) || not (is_filled y)) ≡ true → b ≡ h
    → ((is_filled x && is_filled y) || b) ≡ ((is_filled x && eqb x y) || h)
cell_share x y b h agrees e =
    bool_cases (eqb x y)
    (λ q. let same : x ≡ y = eqb-true x y q in rw (q, ← same, e) (both (is_filled x) h))
    (λ q. rw (q, e) (neither (is_filled x) (is_filled y) h (sym (rw q) ∙ agrees)))
  where
    both : (f h : Bool) → ((f && f) || h) ≡ ((f && true) || h)
    both true h = refl
    both false h = refl

    neither : (f g h : Bool) → (not f || not g) ≡ true → ((f && g) || h) ≡ ((f && false) || h)
    neither true true h k = absurd (clash k refl)
    neither true false h k = refl
    neither false g h k = refl

both-share : (s t : List ℕ) → agree s t ≡ true → both_in s t ≡ share s t
unfolding both_in agree share
both-share [] t e = refl
both-share (x ∷ s) [] e = refl
both-share (x ∷ s) (y ∷ t) e =
    let a = eqb x y || not (is_filled x) || not (is_filled y) in
    cell_share x y (both_in s t) (share s t) (and_parts a (agree s t) e).0 (both-share s t (and_parts a (agree s t) e).1)

-- the same of the cells of two rows that condition (3) counts: where the rows agree, these agree too
share-agree : (words s t : List ℕ)
    → (share (counted_cells words s) (counted_cells words t) && agree s t) ≡ (both_in (counted_cells words s) (counted_cells words t) && agree s t)
share-agree words s t =
    let u = counted_cells words s in
    let v = counted_cells words t in
    bool_cases (agree s t)
    (λ e. ap (λ (b : Bool). b && agree s t) (sym (both-share u v (agree_counted words s t e))))
    (λ e. rw e (and-false (share u v) ∙ sym (and-false (both_in u v))))

-- equally long rows complement each other exactly if some column is filled in each alone, some that counts in both, and they agree
pub complement-filled : (words s t : List ℕ) → length s ≡ length t
    → complement words s t ≡ (only s t && (only t s && (both_in (counted_cells words s) (counted_cells words t) && agree s t)))
complement-filled words s t l =
    complement_pattern words s t l ∙ ap (λ (b : Bool). only s t && (only t s && b)) (share-agree words s t)
