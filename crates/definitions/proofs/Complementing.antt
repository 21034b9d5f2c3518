-- Complementing in the words of document 01; it is symmetric, no row complements itself, and rows that complement each other neither are
-- equal nor subsume one another. Assumes nothing.
use mathlib.Core.Path.{◌≡◌, refl, sym, ◌∙◌, ap}
use mathlib.Core.Bool.{true, false, not, ◌&&◌}
use mathlib.Core.Logic.{inl, inr, ⊎_elim, ◌↔◌}
use mathlib.Core.List.{List}
use Prim.Native.Nat.{ℕ}
use lib.ListN.{get_or}
use borrow.Author.Tests.{not-true}
use Rattle.definitions.specs.MinimumUnion.{subsumes}
use Rattle.definitions.specs.ComplementUnion.{same_row, agree, share, counted_cells, complement}
use Rattle.definitions.specs.Claims.{CellAgrees, Complements}
use Rattle.std.proofs.lemmas.Bool.{and_from, and_parts, false_from_ne_true}
use Rattle.definitions.proofs.Bools.{bool_eq, clash}
use Rattle.definitions.proofs.Rows.{agree_at, agree_of, same_is}
use Rattle.definitions.proofs.Counted.{share_counted}

agrees_sym : (x y : ℕ) → CellAgrees x y → CellAgrees y x
agrees_sym x y h = ⊎_elim (λ q. inl (sym q)) (λ r. ⊎_elim (λ q. inr (inr q)) (λ q. inr (inl q)) r) h

-- whichever columns are marked
module _ (columns : List ℕ) where
  pub complement_is : (s t : List ℕ) → (complement columns s t ≡ true) ↔ Complements columns s t
  unfolding complement
  complement_is s t =
      let a = not (same_row s t) in
      let b = not (subsumes s t) in
      let c = not (subsumes t s) in
      let sharing = share (counted_cells columns s) (counted_cells columns t) in (
        λ e.
            let p = (and_parts (agree s t && (a && b && c)) sharing e).0 in
            let q = (and_parts (agree s t) (a && b && c) p).1 in
            let r = (and_parts (a && b) c q).0 in
            record {
              agreeing = agree_at s t (and_parts (agree s t) (a && b && c) p).0;
              different = λ h. clash ((same_is s t).1 h) (not-true (same_row s t) (and_parts a b r).0);
              not_subsuming = not-true (subsumes s t) (and_parts a b r).1;
              not_subsumed = not-true (subsumes t s) (and_parts (a && b) c q).1;
              sharing = (share_counted columns s t).0 (and_parts (agree s t && (a && b && c)) sharing e).1;
            },
        λ h.
            let different : same_row s t ≡ false = false_from_ne_true (same_row s t) (λ q. h.different ((same_is s t).0 q)) in
            and_from _ _
            (and_from _ _ (agree_of s t h.agreeing) (and_from _ _ (and_from _ _ (ap not different) (ap not h.not_subsuming)) (ap not h.not_subsumed)))
            ((share_counted columns s t).1 h.sharing),
      )

  pub complements_sym : (s t : List ℕ) → Complements columns s t → Complements columns t s
  complements_sym s t h =
      let i = h.sharing in
      record {
        agreeing = λ k. agrees_sym (get_or s k 0) (get_or t k 0) (h.agreeing k);
        different = λ e. h.different (sym e);
        not_subsuming = h.not_subsumed;
        not_subsumed = h.not_subsuming;
        sharing = (i.0, i.1, (λ e. i.2 (i.3 ∙ e)), sym i.3);
      }

  pub complement_sym : (s t : List ℕ) → complement columns s t ≡ complement columns t s
  complement_sym s t =
      bool_eq (complement columns s t) (complement columns t s)
      (λ e. (complement_is t s).1 (complements_sym s t ((complement_is s t).0 e)))
      (λ e. (complement_is s t).1 (complements_sym t s ((complement_is t s).0 e)))

  pub complement_self : (s : List ℕ) → complement columns s s ≡ false
  complement_self s = false_from_ne_true (complement columns s s) (λ e. ((complement_is s s).0 e).different refl)

  pub complement_apart : (s t : List ℕ) → complement columns s t ≡ true → (s ≡ t → ⊥) × (subsumes s t ≡ false) × (subsumes t s ≡ false)
  complement_apart s t e = let c = (complement_is s t).0 e in (c.different, c.not_subsuming, c.not_subsumed)
