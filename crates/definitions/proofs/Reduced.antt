-- Rows left out early: the minimum of a list is that of any part of it in which each row of the list is equal to or subsumed by one.
-- Assumes nothing.
use mathlib.Core.Path.{◌≡◌, refl, subst}
use mathlib.Core.Logic.{inl, inr, ⊎_elim, ◌↔◌}
use mathlib.Core.List.{List, ◌++◌}
use Prim.Native.Nat.{ℕ}
use Rattle.definitions.specs.Ascending.{ascending}
use Rattle.definitions.specs.OuterUnion.{compare_row}
use Rattle.definitions.specs.MinimumUnion.{subsumes, minimum_rows}
use Rattle.definitions.specs.Statements.{Member}
use Rattle.definitions.specs.Claims.{Covered}
use Rattle.std.proofs.lemmas.Bool.{false_from_ne_true}
use Rattle.definitions.proofs.Bools.{clash}
use Rattle.definitions.proofs.Ascending.{member_split, member-join, is_strict, ascending-has, ascending_only, determined}
use Rattle.definitions.proofs.Orders.{rows}
use Rattle.definitions.proofs.Subsumption.{covered_subsumes}
use Rattle.definitions.proofs.Minimum.{minimum_is, minimum_rise}

-- a few of all rows, so that each of all is equal to or subsumed by one of the few
pub record Reduced (few all : List (List ℕ)) : Type 0 where
  pub among : (r : List ℕ) → Member r few → Member r all
  pub covering : (r : List ℕ) → Member r all → Covered few r

pub reduced_self : (l : List (List ℕ)) → Reduced l l
reduced_self l = record { among = λ r h. h; covering = λ r h. (r, h, inl refl) }

pub reduced_append : (few all more others : List (List ℕ)) → Reduced few all → Reduced more others → Reduced (few ++ more) (all ++ others)
reduced_append few all more others p q = record {
  among = λ r h.
      member-join r all others (⊎_elim (λ i. inl (p.among r i)) (λ i. inr (q.among r i)) (member_split r few more h));
  covering = λ r h.
      ⊎_elim (λ i. let s = p.covering r i in (s.0, member-join s.0 few more (inl s.1), s.2))
      (λ i. let s = q.covering r i in (s.0, member-join s.0 few more (inr s.1), s.2)) (member_split r all others h);
}

-- a subsumed row that is left out subsumes only rows that one of the others subsumes too
module _ (few all : List (List ℕ)) (p : Reduced few all) where
  reduced_is : (t : List ℕ) → Member t (minimum_rows few) ↔ Member t (minimum_rows all)
  reduced_is t = (to, from)
    where
      to : Member t (minimum_rows few) → Member t (minimum_rows all)
      to h =
          let i = (minimum_is few t).0 h in
          (minimum_is all t).1 (
            p.among t i.0,
            λ s g.
                let c = p.covering s g in
                false_from_ne_true (subsumes s t) (λ e. clash (covered_subsumes c.0 s t c.2 e) (i.1 c.0 c.1)),
          )

      from : Member t (minimum_rows all) → Member t (minimum_rows few)
      from h =
          let i = (minimum_is all t).0 h in
          let c = p.covering t i.0 in
          let stays : Member t few =
          ⊎_elim (λ q. subst (λ (s : List ℕ). Member s few) q c.1) (λ q. absurd (clash q (i.1 c.0 (p.among c.0 c.1)))) c.2 in
          (minimum_is few t).1 (stays, λ s g. i.1 s (p.among s g))

pub reduced_minimum : (few all : List (List ℕ)) → Reduced few all
    → minimum_rows (ascending compare_row few) ≡ minimum_rows (ascending compare_row all)
reduced_minimum few all p =
    let t = ascending compare_row few in
    let u = ascending compare_row all in
    let ordered : Reduced t u = record {
      among = λ r h. ascending-has rows r all (p.among r (ascending_only rows r few h));
      covering = λ r h. let c = p.covering r (ascending_only rows r all h) in (c.0, ascending-has rows c.0 few c.1, c.2);
    } in
    determined rows (minimum_rows t) (minimum_rows u) (minimum_rise t (is_strict rows few)) (minimum_rise u (is_strict rows all))
    (λ r. (reduced_is t u ordered r).0) (λ r. (reduced_is t u ordered r).1)
