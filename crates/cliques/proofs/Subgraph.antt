-- An induced subgraph has no more maximal sets than the graph: each of them is what a maximal set of the graph leaves there. Assumes nothing.
use mathlib.Core.Path.{◌≡◌, refl, sym, ap, ◌∙◌, subst}
use mathlib.Core.Bool.{Bool, true, not, ◌&&◌}
use mathlib.Core.List.{List, map}
use Prim.Native.Nat.{ℕ, ◌≤◌, ◌<◌}
use native.Mathlib.Omega.{arith}
use lib.Dec.{eqb}
use lib.ListN.{length, length-map}
use borrow.Author.Tests.{eqb-true, eq-eqb, not-true, not-false}
use Rattle.definitions.specs.Lists.{all_below, tabulate}
use Rattle.definitions.specs.ComplementUnion.{contains, maximal_sets}
use Rattle.definitions.specs.Statements.{Member}
use Rattle.definitions.specs.Claims.{Holds, Complementing, Maximal}
use Rattle.definitions.proofs.Tabulate.{tabulate-length, tabulate_at, tabulate_pass}
use Rattle.std.proofs.lemmas.Bool.{and_from, and_parts, false_from_ne_true}
use Rattle.definitions.proofs.Bools.{bool_eq, bool_cases, clash}
use Rattle.definitions.proofs.Lists.{member-map, below_true, below_false}
use Rattle.definitions.proofs.Orders.{sets}
use Rattle.definitions.proofs.Sets.{holds_within, marks_ext, listed_is, listed_rise}
use Rattle.definitions.proofs.Completion.{completion}
use Rattle.cliques.proofs.Sublists.{no_longer}

module _ (adjacent : ℕ → ℕ → Bool) (n : ℕ) (symmetric : (j k : ℕ) → j < n → k < n → adjacent j k ≡ true → adjacent k j ≡ true) where
  -- m rows are kept, the j-th of them row `row j`
  module _ (m : ℕ) (row : ℕ → ℕ) (within : (j : ℕ) → j < m → row j < n)
      (distinct : (j k : ℕ) → j < m → k < m → row j ≡ row k → j ≡ k) where
    abbrev kept : ℕ → ℕ → Bool
    kept j k = adjacent (row j) (row k)

    -- what a set leaves among the kept rows
    abbrev left : List Bool → List Bool
    left t = tabulate m (λ j. contains t (row j))

    -- the rows of a set of kept rows
    abbrev is_row : List Bool → ℕ → Bool
    is_row s p = not (all_below m (λ j. not (contains s j && eqb (row j) p)))

    abbrev rows : List Bool → List Bool
    rows s = tabulate n (is_row s)

    row_in : (s : List Bool) (j : ℕ) → j < m → Holds s j → Holds (rows s) (row j)
    row_in s j h k =
        tabulate_at n (is_row s) (row j) (within j h)
        ∙ ap not (false_from_ne_true (all_below m (λ i. not (contains s i && eqb (row i) (row j))))
        (λ t. clash (below_true (λ i. not (contains s i && eqb (row i) (row j))) m t j h) (ap not (and_from _ _ k (eq-eqb (row j) (row j) refl)))))

    row_of : (s : List Bool) (p : ℕ) → Holds (rows s) p → (j : ℕ) × Holds s j × (row j ≡ p)
    row_of s p h =
        let k = below_false (λ j. not (contains s j && eqb (row j) p)) m
        (not-true (all_below m (λ j. not (contains s j && eqb (row j) p))) (tabulate_pass n (is_row s) p h)) in
        let both = not-false (contains s k.0 && eqb (row k.0) p) k.2 in
        (k.0, (and_parts (contains s k.0) (eqb (row k.0) p) both).0, eqb-true (row k.0) p (and_parts (contains s k.0) (eqb (row k.0) p) both).1)

    module _ (s : List Bool) (max : Maximal kept m s) where
      below : (j : ℕ) → Holds s j → j < m
      below j h = omega (arith, max.complementing.size, holds_within s j h)

      rows_complement : Complementing adjacent n (rows s)
      rows_complement = record {
        size = tabulate-length n (is_row s);
        some = let k = max.complementing.some in (row k.0, row_in s k.0 (below k.0 k.1) k.1);
        pairwise = λ p q hp hq d.
            let a = row_of s p hp in
            let b = row_of s q hq in
            subst (λ (x : ℕ). adjacent x q ≡ true) a.2 (subst (λ (x : ℕ). adjacent (row a.0) x ≡ true) b.2
            (max.complementing.pairwise a.0 b.0 a.1 b.1 (λ e. d (sym a.2 ∙ ap row e ∙ b.2))));
      }

      -- a maximal set of the graph above its rows leaves the set itself
      leaves : (t : List Bool) → Maximal adjacent n t → ((k : ℕ) → Holds (rows s) k → Holds t k) → left t ≡ s
      leaves t top holds =
          let up : (j : ℕ) → Holds s j → Holds t (row j) = λ j h. holds (row j) (row_in s j (below j h) h) in
          marks_ext (left t) s (tabulate-length m (λ j. contains t (row j)) ∙ sym max.complementing.size)
          (λ k h.
          let lt : k < m = omega (arith, tabulate-length m (λ j. contains t (row j))) in
          tabulate_at m (λ j. contains t (row j)) k lt
          ∙ bool_eq (contains t (row k)) (contains s k)
          (λ there. bool_cases (contains s k) (λ e. e)
          (λ e.
          let o = max.outside k lt e in
          absurd (clash
          (top.complementing.pairwise (row k) (row o.0) there (up o.0 o.1)
          (λ q. clash o.1 (ap (contains s) (sym (distinct k o.0 lt (below o.0 o.1) q)) ∙ e)))
          o.2)))
          (up k))

    -- the law: kept rows have no more maximal sets
    pub fewer_sets : length (maximal_sets kept m) ≤ length (maximal_sets adjacent n)
    fewer_sets =
        subst (λ (k : ℕ). length (maximal_sets kept m) ≤ k) (length-map (maximal_sets adjacent n) left)
        (no_longer sets (maximal_sets kept m) (map left (maximal_sets adjacent n)) (listed_rise kept m)
        (λ s h.
        let max = (listed_is kept m s).0 h in
        let c = completion adjacent n symmetric (rows s) (rows_complement s max) in
        subst (λ (x : List Bool). Member x (map left (maximal_sets adjacent n))) (leaves s max c.0 ((listed_is adjacent n c.0).0 c.1) c.2)
        (member-map left c.0 (maximal_sets adjacent n) c.1)))
