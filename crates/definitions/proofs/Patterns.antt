-- Complementing told by which columns are filled: the law by which code tells most pairs of rows apart by their filled columns alone.
-- Assumes nothing.
use mathlib.Core.Path.{◌≡◌, refl, sym, ◌∙◌, ap, subst}
use mathlib.Core.Bool.{Bool, true, false, not, ◌&&◌, ◌||◌}
use mathlib.Core.Logic.{inl, inr, ⊎_elim}
use mathlib.Core.List.{List, [], ◌∷◌}
use Prim.Native.Nat.{ℕ, zero, suc}
use lib.ListN.{length, get_or}
use borrow.Author.Tests.{not-true}
use Rattle.definitions.specs.Word.{is_filled}
use Rattle.definitions.specs.MinimumUnion.{covers, subsumes}
use Rattle.definitions.specs.ComplementUnion.{agree, share, counted_cells, complement}
use Rattle.definitions.specs.Claims.{Filled, Complements}
use Rattle.std.proofs.lemmas.Bool.{and_from, and_parts, false_from_ne_true, or_cases, or_left, or_right}
use Rattle.definitions.proofs.Bools.{bool_cases, bool_eq, clash}
use Rattle.definitions.proofs.Rows.{filled_cell, empty_cell, cell_filled, cell_empty, covers_at, covers_of, agree_at, agree_of}
use Rattle.definitions.proofs.Counted.{share_counted}
use Rattle.definitions.proofs.Subsumption.{covers_self, covers_cases, subsumes_is}
use Rattle.definitions.proofs.Complementing.{complement_is, complements_sym}

-- some column is filled in s and empty in t
unfoldable pub only : List ℕ → List ℕ → Bool
only [] t = false
only (x ∷ s) [] = is_filled x || only s []
only (x ∷ s) (y ∷ t) = (is_filled x && not (is_filled y)) || only s t

abbrev pub Only : List ℕ → List ℕ → Type 0
Only s t = (k : ℕ) × Filled (get_or s k 0) × (get_or t k 0 ≡ 0)

only_at : (s t : List ℕ) → only s t ≡ true → Only s t
unfolding only
only_at [] t e = absurd (clash refl (sym e))
only_at (x ∷ s) [] e =
    ⊎_elim (λ q. (0, filled_cell x q, refl)) (λ q. let i = only_at s [] q in (suc i.0, i.1, refl)) (or_cases (is_filled x) (only s []) e)
only_at (x ∷ s) (y ∷ t) e =
    ⊎_elim (λ q. (0, filled_cell x (and_parts (is_filled x) (not (is_filled y)) q).0, empty_cell y (not-true (is_filled y) (and_parts (is_filled x) (not (is_filled y)) q).1)))
    (λ q. let i = only_at s t q in (suc i.0, i.1, i.2))
    (or_cases (is_filled x && not (is_filled y)) (only s t) e)

only_of : (s t : List ℕ) (k : ℕ) → Filled (get_or s k 0) → get_or t k 0 ≡ 0 → only s t ≡ true
unfolding only
only_of [] t k h e = absurd (h refl)
only_of (x ∷ s) [] zero h e = or_left (is_filled x) (only s []) (cell_filled x h)
only_of (x ∷ s) [] (suc k) h e = or_right (is_filled x) (only s []) (only_of s [] k h e)
only_of (x ∷ s) (y ∷ t) zero h e = or_left (is_filled x && not (is_filled y)) (only s t) (and_from _ _ (cell_filled x h) (ap not (cell_empty y e)))
only_of (x ∷ s) (y ∷ t) (suc k) h e = or_right (is_filled x && not (is_filled y)) (only s t) (only_of s t k h e)

-- a row that is filled where s is empty is not covered by s
only_uncovered : (s t : List ℕ) → only t s ≡ true → covers s t ≡ true → ⊥
only_uncovered s t e h =
    let i = only_at t s e in
    ⊎_elim i.1 (λ q. i.1 (sym q ∙ i.2)) (covers_at s t h i.0)

-- and one that agrees and isn't, is
agree-covers : (s t : List ℕ) → agree s t ≡ true → only t s ≡ false → covers s t ≡ true
agree-covers s t e h =
    covers_of s t (λ k.
    bool_cases (is_filled (get_or t k 0))
    (λ q. ⊎_elim (λ p. inr p) (λ r. ⊎_elim (λ p. absurd (clash (only_of t s k (filled_cell (get_or t k 0) q) p) h)) (λ p. inl p) r) (agree_at s t e k))
    (λ q. inl (empty_cell (get_or t k 0) q)))

not_subsumed_of : (s t : List ℕ) → only t s ≡ true → subsumes s t ≡ false
not_subsumed_of s t h = false_from_ne_true (subsumes s t) (λ e. only_uncovered s t h ((subsumes_is s t).0 e).1)

module _ (columns : List ℕ) where
  -- an agreeing row that is filled nowhere else is equal or subsumed, so does not complement
  no_only : (s t : List ℕ) → length s ≡ length t → Complements columns s t → only t s ≡ false → ⊥
  no_only s t l c h =
      ⊎_elim c.different (λ q. clash q c.not_subsuming) (covers_cases s t l (agree-covers s t (agree_of s t c.agreeing) h))

  -- equally long rows complement each other exactly if each is filled in a column where the other is empty, they share a filled cell where it
  -- counts, and they agree
  pub complement_pattern : (s t : List ℕ) → length s ≡ length t
      → complement columns s t ≡ (only s t && (only t s && (share (counted_cells columns s) (counted_cells columns t) && agree s t)))
  complement_pattern s t l =
      let sharing = share (counted_cells columns s) (counted_cells columns t) in
      bool_eq (complement columns s t) (only s t && (only t s && (sharing && agree s t)))
      (λ e.
      let c = (complement_is columns s t).0 e in
      and_from _ _ (bool_cases (only s t) (λ q. q) (λ q. absurd (no_only t s (sym l) (complements_sym columns s t c) q)))
      (and_from _ _ (bool_cases (only t s) (λ q. q) (λ q. absurd (no_only s t l c q)))
      (and_from _ _ ((share_counted columns s t).1 c.sharing) (agree_of s t c.agreeing))))
      (λ e.
      let r = (and_parts (only s t) (only t s && (sharing && agree s t)) e).1 in
      let st = (and_parts (only s t) (only t s && (sharing && agree s t)) e).0 in
      let ts = (and_parts (only t s) (sharing && agree s t) r).0 in
      let u = (and_parts (only t s) (sharing && agree s t) r).1 in
      (complement_is columns s t).1 (record {
        agreeing = agree_at s t (and_parts sharing (agree s t) u).1;
        different = λ q. only_uncovered t s st (subst (λ (x : List ℕ). covers x s ≡ true) q (covers_self s));
        not_subsuming = not_subsumed_of s t ts;
        not_subsumed = not_subsumed_of t s st;
        sharing = (share_counted columns s t).0 (and_parts sharing (agree s t) u).0;
      }))
