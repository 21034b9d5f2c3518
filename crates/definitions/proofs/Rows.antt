-- What covering, agreeing, sharing and equality of rows say column by column. Assumes nothing.
use mathlib.Core.Path.{◌≡◌, refl, sym, ap, ap₂, subst}
use mathlib.Core.Bool.{true, false, not, ◌&&◌, ◌||◌}
use mathlib.Core.Logic.{inl, inr, ⊎_elim, ◌↔◌}
use mathlib.Core.List.{List, [], ◌∷◌}
use Prim.Native.Nat.{ℕ, zero, suc}
use lib.Dec.{eqb}
use lib.ListN.{get_or}
use borrow.Author.Tests.{eqb-true, eqb-false, eq-eqb, ne_eqb, not-true}
use Rattle.definitions.specs.Word.{is_filled}
use Rattle.definitions.specs.MinimumUnion.{covers}
use Rattle.definitions.specs.ComplementUnion.{same_row, agree, share}
use Rattle.definitions.specs.Claims.{Filled, CellCovers, CellAgrees, Shared}
use Rattle.std.proofs.lemmas.Bool.{and_from, and_parts, or_cases, or_left, or_right}
use Rattle.definitions.proofs.Bools.{bool_cases, clash}

-- ---- cells

pub filled_cell : (w : ℕ) → is_filled w ≡ true → Filled w
filled_cell w e = eqb-false w 0 (not-true (eqb w 0) e)

pub empty_cell : (w : ℕ) → is_filled w ≡ false → w ≡ 0
empty_cell w e = bool_cases (eqb w 0) (eqb-true w 0) (λ q. absurd (clash (ap not q) e))

pub cell_filled : (w : ℕ) → Filled w → is_filled w ≡ true
cell_filled w h = ap not (ne_eqb w 0 h)

pub cell_empty : (w : ℕ) → w ≡ 0 → is_filled w ≡ false
cell_empty w h = ap not (eq-eqb w 0 h)

-- ---- rows, column by column; a cell past the end of a row is empty

pub covers_at : (s t : List ℕ) → covers s t ≡ true → (k : ℕ) → CellCovers (get_or s k 0) (get_or t k 0)
unfolding covers
covers_at s [] e k = inl refl
covers_at [] (y ∷ t) e zero = inl (empty_cell y (not-true (is_filled y) (and_parts (not (is_filled y)) (covers [] t) e).0))
covers_at [] (y ∷ t) e (suc k) = covers_at [] t (and_parts (not (is_filled y)) (covers [] t) e).1 k
covers_at (x ∷ s) (y ∷ t) e zero =
    ⊎_elim (λ q. inl (empty_cell y (not-true (is_filled y) q))) (λ q. inr (eqb-true x y q))
    (or_cases (not (is_filled y)) (eqb x y) (and_parts (not (is_filled y) || eqb x y) (covers s t) e).0)
covers_at (x ∷ s) (y ∷ t) e (suc k) = covers_at s t (and_parts (not (is_filled y) || eqb x y) (covers s t) e).1 k

pub covers_of : (s t : List ℕ) → ((k : ℕ) → CellCovers (get_or s k 0) (get_or t k 0)) → covers s t ≡ true
unfolding covers
covers_of s [] f = refl
covers_of [] (y ∷ t) f =
    and_from _ _ (ap not (cell_empty y (⊎_elim (λ q. q) (λ q. sym q) (f 0)))) (covers_of [] t (λ k. f (suc k)))
covers_of (x ∷ s) (y ∷ t) f =
    and_from _ _
    (⊎_elim (λ q. or_left (not (is_filled y)) (eqb x y) (ap not (cell_empty y q))) (λ q. or_right (not (is_filled y)) (eqb x y) (eq-eqb x y q)) (f 0))
    (covers_of s t (λ k. f (suc k)))

-- "every filled cell of t equals that of s"
pub covers_is : (s t : List ℕ) → (covers s t ≡ true) ↔ ((k : ℕ) → CellCovers (get_or s k 0) (get_or t k 0))
covers_is s t = (covers_at s t, covers_of s t)

pub agree_at : (s t : List ℕ) → agree s t ≡ true → (k : ℕ) → CellAgrees (get_or s k 0) (get_or t k 0)
unfolding agree
agree_at [] t e k = inr (inl refl)
agree_at (x ∷ s) [] e k = inr (inr refl)
agree_at (x ∷ s) (y ∷ t) e zero =
    let h = (and_parts (eqb x y || not (is_filled x) || not (is_filled y)) (agree s t) e).0 in
    ⊎_elim
    (λ p. ⊎_elim (λ q. inl (eqb-true x y q)) (λ q. inr (inl (empty_cell x (not-true (is_filled x) q)))) (or_cases (eqb x y) (not (is_filled x)) p))
    (λ p. inr (inr (empty_cell y (not-true (is_filled y) p))))
    (or_cases (eqb x y || not (is_filled x)) (not (is_filled y)) h)
agree_at (x ∷ s) (y ∷ t) e (suc k) = agree_at s t (and_parts (eqb x y || not (is_filled x) || not (is_filled y)) (agree s t) e).1 k

pub agree_of : (s t : List ℕ) → ((k : ℕ) → CellAgrees (get_or s k 0) (get_or t k 0)) → agree s t ≡ true
unfolding agree
agree_of [] t f = refl
agree_of (x ∷ s) [] f = refl
agree_of (x ∷ s) (y ∷ t) f =
    let some = eqb x y || not (is_filled x) in
    and_from _ _
    (⊎_elim (λ q. or_left some (not (is_filled y)) (or_left (eqb x y) (not (is_filled x)) (eq-eqb x y q)))
    (λ p.
    ⊎_elim
    (λ q. or_left some (not (is_filled y)) (or_right (eqb x y) (not (is_filled x)) (ap not (cell_empty x q))))
    (λ q. or_right some (not (is_filled y)) (ap not (cell_empty y q)))
    p)
    (f 0))
    (agree_of s t (λ k. f (suc k)))

-- "(1) in each column they are equal or one is empty"
pub agree_is : (s t : List ℕ) → (agree s t ≡ true) ↔ ((k : ℕ) → CellAgrees (get_or s k 0) (get_or t k 0))
agree_is s t = (agree_at s t, agree_of s t)

pub share_at : (s t : List ℕ) → share s t ≡ true → Shared s t
unfolding share
share_at [] t e = absurd (clash refl (sym e))
share_at (x ∷ s) [] e = absurd (clash refl (sym e))
share_at (x ∷ s) (y ∷ t) e =
    ⊎_elim (λ q. (0, filled_cell x (and_parts (is_filled x) (eqb x y) q).0, eqb-true x y (and_parts (is_filled x) (eqb x y) q).1))
    (λ q. let i = share_at s t q in (suc i.0, i.1, i.2))
    (or_cases (is_filled x && eqb x y) (share s t) e)

share_of : (s t : List ℕ) (k : ℕ) → Filled (get_or s k 0) → get_or s k 0 ≡ get_or t k 0 → share s t ≡ true
unfolding share
share_of [] t k h e = absurd (h refl)
share_of (x ∷ s) [] k h e = absurd (h e)
share_of (x ∷ s) (y ∷ t) zero h e = or_left (is_filled x && eqb x y) (share s t) (and_from _ _ (cell_filled x h) (eq-eqb x y e))
share_of (x ∷ s) (y ∷ t) (suc k) h e = or_right (is_filled x && eqb x y) (share s t) (share_of s t k h e)

-- "(3) some column is filled in both with the same number"
pub share_is : (s t : List ℕ) → (share s t ≡ true) ↔ Shared s t
share_is s t = (share_at s t, λ i. share_of s t i.0 i.1 i.2)

same_at : (s t : List ℕ) → same_row s t ≡ true → s ≡ t
unfolding same_row
same_at [] [] e = refl
same_at [] (y ∷ t) e = absurd (clash refl (sym e))
same_at (x ∷ s) [] e = absurd (clash refl (sym e))
same_at (x ∷ s) (y ∷ t) e =
    ap₂ (λ (a : ℕ) (l : List ℕ). a ∷ l) (eqb-true x y (and_parts (eqb x y) (same_row s t) e).0) (same_at s t (and_parts (eqb x y) (same_row s t) e).1)

same_self : (s : List ℕ) → same_row s s ≡ true
unfolding same_row
same_self [] = refl
same_self (x ∷ s) = and_from _ _ (eq-eqb x x refl) (same_self s)

pub same_is : (s t : List ℕ) → (same_row s t ≡ true) ↔ (s ≡ t)
same_is s t = (same_at s t, λ e. subst (λ (u : List ℕ). same_row s u ≡ true) e (same_self s))
