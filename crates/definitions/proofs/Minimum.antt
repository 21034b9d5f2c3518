-- The minimum union in words: the rows of T that no row of T subsumes; every row of T is equal to or subsumed by one of them; and to take
-- its minimum again changes nothing. Assumes nothing.
use mathlib.Core.Path.{◌≡◌, refl, ap}
use mathlib.Core.Bool.{Bool, false, not}
use mathlib.Core.Logic.{inl, inr, ⊎_elim, ◌↔◌}
use mathlib.Core.List.{List, [], ◌∷◌}
use Prim.Native.Nat.{ℕ, zero, suc, ◌+◌, ◌≤◌}
use native.Mathlib.Omega.{arith}
use borrow.Author.Tests.{not-true}
use Rattle.definitions.specs.Lists.{any}
use Rattle.definitions.specs.OuterUnion.{compare_row}
use Rattle.definitions.specs.MinimumUnion.{filled, subsumes, minimum_rows}
use Rattle.definitions.specs.Statements.{Member, StrictlyAscending}
use Rattle.definitions.specs.Claims.{Covered}
use Rattle.std.proofs.lemmas.Bool.{false_from_ne_true}
use Rattle.definitions.proofs.Bools.{bool_cases}
use Rattle.definitions.proofs.Lists.{member_filter, filter-member, filter-all, strict-filter, any_true, any_false, any_none}
use Rattle.definitions.proofs.Subsumption.{subsumes_is, covered_subsumes}

module _ (rows : List (List ℕ)) where
  abbrev stays : List ℕ → Bool
  stays t = not (any (λ s. subsumes s t) rows)

  -- "T without the rows that some row of T subsumes"
  pub minimum_is : (t : List ℕ) → Member t (minimum_rows rows) ↔ (Member t rows × ((s : List ℕ) → Member s rows → subsumes s t ≡ false))
  unfolding minimum_rows
  minimum_is t = (
    λ h. let i = filter-member stays t rows h in (i.0, any_false (λ s. subsumes s t) rows (not-true (any (λ s. subsumes s t) rows) i.1)),
    λ h. member_filter stays t rows h.0 (ap not (any_none (λ s. subsumes s t) rows h.1)),
  )

  -- "still ascending"
  pub minimum_rise : StrictlyAscending compare_row rows → StrictlyAscending compare_row (minimum_rows rows)
  unfolding minimum_rows
  minimum_rise h = strict-filter stays compare_row rows h

-- no row has more filled cells than all have together
total : List (List ℕ) → ℕ
total [] = 0
total (r ∷ rows) = filled r + total rows

filled_total : (rows : List (List ℕ)) (r : List ℕ) → Member r rows → filled r ≤ total rows
unfolding total
filled_total [] r h = absurd h
filled_total (s ∷ rows) r h =
    ⊎_elim (λ e. let q = ap filled e in omega arith) (λ k. let i = filled_total rows r k in omega arith) h

module _ (rows : List (List ℕ)) where
  -- each subsuming row has more filled cells, so that there is a last one
  climb : (left : ℕ) (t : List ℕ) → Member t rows → total rows ≤ filled t + left → Covered (minimum_rows rows) t
  climb zero t h b = (
    t,
    (minimum_is rows t).1 (h, λ s g. false_from_ne_true (subsumes s t) (λ e. let p = ((subsumes_is s t).0 e).0 in let q = filled_total rows s g in absurd (omega arith))),
    inl refl,
  )
  climb (suc left) t h b =
      bool_cases (any (λ s. subsumes s t) rows)
      (λ e.
      let i = any_true (λ s. subsumes s t) rows e in
      let more = ((subsumes_is i.0 t).0 i.2).0 in
      let j = climb left i.0 i.1 (omega arith) in
      (j.0, j.1, inr (covered_subsumes j.0 i.0 t j.2 i.2)))
      (λ e. (t, (minimum_is rows t).1 (h, any_false (λ s. subsumes s t) rows e), inl refl))

  pub every_row_stays : (t : List ℕ) → Member t rows → Covered (minimum_rows rows) t
  every_row_stays t h = climb (total rows) t h (omega arith)

  -- none of its rows is subsumed by another of them
  pub minimum_idempotent : minimum_rows (minimum_rows rows) ≡ minimum_rows rows
  unfolding minimum_rows
  minimum_idempotent =
      let m = minimum_rows rows in
      filter-all (stays m) m (λ t h.
      let i = (minimum_is rows t).0 h in
      ap not (any_none (λ s. subsumes s t) m (λ s k. i.1 s ((minimum_is rows s).0 k).0)))
