-- Request A2's condition (3), column by column: the cells of a row that it counts, and what it says of two rows. Assumes nothing.
use mathlib.Core.Path.{◌≡◌, refl, sym, ◌∙◌, ap, subst}
use mathlib.Core.Bool.{Bool, true, false, cond, not}
use mathlib.Core.Logic.{inl, inr, ⊎_elim, ◌↔◌}
use mathlib.Core.List.{List, [], ◌∷◌}
use Prim.Native.Nat.{ℕ, zero, suc, ◌≤◌}
use native.Mathlib.Nat.{le_of_suc-le-suc, not-suc-le-zero}
use lib.ListN.{length, get_or}
use borrow.Author.Tests.{not-true}
use Rattle.definitions.specs.Lists.{any}
use Rattle.definitions.specs.Word.{mark_of}
use Rattle.definitions.specs.ComplementUnion.{agree, share, marked_cells, counted_cells}
use Rattle.definitions.specs.Claims.{Filled, CellAgrees, Counts, counts_column, SharedCounted}
use Rattle.std.proofs.lemmas.Bool.{or_cases, or_left, or_right}
use Rattle.definitions.proofs.Bools.{bool_cases, or_none}
use Rattle.definitions.proofs.Rows.{agree_at, agree_of, share_is}

pub counts_is : (columns : List ℕ) (k : ℕ) → (counts_column columns k ≡ true) ↔ Counts columns k
counts_is columns k =
    let mark = mark_of (get_or columns k 0) in
    let some = any mark_of columns in (
      λ e. ⊎_elim (λ q. inl q) (λ q. inr (not-true some q)) (or_cases mark (not some) e),
      λ c. ⊎_elim (λ q. or_left mark (not some) q) (λ q. or_right mark (not some) (ap not q)) c,
    )

-- ---- the cells that count

marked_at : (columns row : List ℕ) (k : ℕ) → get_or (marked_cells columns row) k 0 ≡ cond (mark_of (get_or columns k 0)) (get_or row k 0) 0
unfolding marked_cells
marked_at [] row k = refl
marked_at (w ∷ columns) [] k = sym (either (mark_of (get_or (w ∷ columns) k 0)) 0)
  where
    either : (b : Bool) (x : ℕ) → cond b x x ≡ x
    either true x = refl
    either false x = refl
marked_at (w ∷ columns) (x ∷ row) zero = refl
marked_at (w ∷ columns) (x ∷ row) (suc k) = marked_at columns row k

marked_length : (columns row : List ℕ) → length row ≤ length columns → length (marked_cells columns row) ≡ length row
unfolding marked_cells
marked_length [] [] h = refl
marked_length [] (x ∷ row) h = absurd (not-suc-le-zero h)
marked_length (w ∷ columns) [] h = refl
marked_length (w ∷ columns) (x ∷ row) h = ap suc (marked_length columns row (le_of_suc-le-suc h))

module _ (columns : List ℕ) where
  pub counted_at : (row : List ℕ) (k : ℕ) → get_or (counted_cells columns row) k 0 ≡ cond (counts_column columns k) (get_or row k 0) 0
  unfolding counted_cells
  counted_at row k =
      let mark = mark_of (get_or columns k 0) in
      bool_cases (any mark_of columns)
      (λ e. rw e (marked_at columns row k ∙ ap (λ (b : Bool). cond b (get_or row k 0) 0) (sym (or_none mark false refl))))
      (λ e. rw e (ap (λ (b : Bool). cond b (get_or row k 0) 0) (sym (or_right mark true refl))))

  pub counted_length : (row : List ℕ) → length row ≤ length columns → length (counted_cells columns row) ≡ length row
  unfolding counted_cells
  counted_length row h = bool_cases (any mark_of columns) (λ e. rw e (marked_length columns row h)) (λ e. rw e refl)

  -- a cell that counts is the row's, or empty
  cell_counted : (b : Bool) (x : ℕ) → Filled (cond b x 0) → (b ≡ true) × (cond b x 0 ≡ x)
  cell_counted true x h = (refl, refl)
  cell_counted false x h = absurd (h refl)

  -- rows that agree do so where it counts
  pub agree_counted : (s t : List ℕ) → agree s t ≡ true → agree (counted_cells columns s) (counted_cells columns t) ≡ true
  agree_counted s t e =
      agree_of (counted_cells columns s) (counted_cells columns t) (λ k.
      subst (λ (x : ℕ). CellAgrees x (get_or (counted_cells columns t) k 0)) (sym (counted_at s k))
      (subst (λ (y : ℕ). CellAgrees (cond (counts_column columns k) (get_or s k 0) 0) y) (sym (counted_at t k))
      (cells (counts_column columns k) (get_or s k 0) (get_or t k 0) (agree_at s t e k))))
    where
      cells : (b : Bool) (x y : ℕ) → CellAgrees x y → CellAgrees (cond b x 0) (cond b y 0)
      cells true x y h = h
      cells false x y h = inl refl

  -- some column that counts is filled in both, with equal cells
  pub share_counted : (s t : List ℕ) → (share (counted_cells columns s) (counted_cells columns t) ≡ true) ↔ SharedCounted columns s t
  share_counted s t = (
    λ e.
        let i = (share_is (counted_cells columns s) (counted_cells columns t)).0 e in
        let k = i.0 in
        let f : Filled (cond (counts_column columns k) (get_or s k 0) 0) = subst Filled (counted_at s k) i.1 in
        let same = sym (counted_at s k) ∙ i.2 ∙ counted_at t k in
        let c = cell_counted (counts_column columns k) (get_or s k 0) f in
        let d = cell_counted (counts_column columns k) (get_or t k 0) (λ q. f (same ∙ q)) in
        (k, (counts_is columns k).0 c.0, (λ q. f (c.1 ∙ q)), sym c.1 ∙ same ∙ d.1),
    λ i.
        let k = i.0 in
        let c = (counts_is columns k).1 i.1 in
        let at : (row : List ℕ) → get_or (counted_cells columns row) k 0 ≡ get_or row k 0 =
        λ row. counted_at row k ∙ ap (λ (b : Bool). cond b (get_or row k 0) 0) c in
        (share_is (counted_cells columns s) (counted_cells columns t)).1
        (k, (λ q. i.2 (sym (at s) ∙ q)), at s ∙ i.3 ∙ sym (at t)),
  )
