-- Every complementing set lies within a listed one: each further position is taken where it is adjacent to all taken so far. Assumes nothing.
use mathlib.Core.Path.{◌≡◌, sym, ◌∙◌, ap, subst}
use mathlib.Core.Bool.{Bool, true, false}
use mathlib.Core.List.{List}
use Prim.Native.Nat.{ℕ, zero, suc, ◌<◌, ◌≤◌}
use native.Mathlib.Nat.{not-suc-le-zero}
use native.Mathlib.Omega.{arith}
use lib.ListN.{length, replicate, length-set, length-replicate, get_or-replicate}
use Rattle.definitions.specs.ComplementUnion.{contains, adjacent_to_all, maximal_sets}
use Rattle.definitions.specs.Statements.{Member}
use Rattle.definitions.specs.Claims.{Holds, Complementing}
use Rattle.definitions.proofs.Bools.{bool_cases, clash}
use Rattle.definitions.proofs.Lists.{below_cases}
use Rattle.definitions.proofs.Sets.{contains-get, holds_within, adding, adding_same, adding_other, adding_keeps, adding_cases, adjacent-all, adjacent_some_not, listed_is}

module _ (adjacent : ℕ → ℕ → Bool) (n : ℕ) (symmetric : (j k : ℕ) → j < n → k < n → adjacent j k ≡ true → adjacent k j ≡ true) where
  -- t holds all that s holds, and every position below i that it doesn't hold is not adjacent to some member
  record Grown (s : List Bool) (i : ℕ) (t : List Bool) : Type 0 where
    complementing : Complementing adjacent n t
    holds : (k : ℕ) → Holds s k → Holds t k
    below : (j : ℕ) → j < i → contains t j ≡ false → (k : ℕ) × Holds t k × (adjacent j k ≡ false)

  module _ (s : List Bool) (i : ℕ) (h : i < n) (t : List Bool) (g : Grown s i t) where
    fits : i < length t
    fits = rw g.complementing.size h

    within : (k : ℕ) → Holds t k → k < n
    within k p = rw (← g.complementing.size) (holds_within t k p)

    -- the position i is taken
    take-adjacent : adjacent_to_all adjacent n t i ≡ true → (j k : ℕ) → Holds (adding t i) j → Holds (adding t i) k → (j ≡ k → ⊥) → adjacent j k ≡ true
    take-adjacent e j k hj hk d =
        let to : (k : ℕ) → Holds t k → adjacent i k ≡ true = adjacent-all adjacent n t i g.complementing.size e in
        adding_cases t i j hj
        (λ p. adding_cases t i k hk (λ q. g.complementing.pairwise j k p q d)
        (λ q. subst (λ (x : ℕ). adjacent j x ≡ true) (sym q) (symmetric i j h (within j p) (to j p))))
        (λ p. adding_cases t i k hk (λ q. subst (λ (x : ℕ). adjacent x k ≡ true) (sym p) (to k q)) (λ q. absurd (d (p ∙ sym q))))

    grown_take : adjacent_to_all adjacent n t i ≡ true → Grown s (suc i) (adding t i)
    grown_take e = record {
      complementing = record {
        size = length-set t i true ∙ g.complementing.size;
        some = (i, adding_same t i fits);
        pairwise = take-adjacent e;
      };
      holds = λ k p. adding_keeps t i k fits (g.holds k p);
      below = λ j lt out.
          let other : j ≡ i → ⊥ = λ q. clash (adding_same t i fits) (ap (contains (adding t i)) (sym q) ∙ out) in
          below_cases j i lt
          (λ p. let m = g.below j p (sym (adding_other t i j other) ∙ out) in (m.0, adding_keeps t i m.0 fits m.1, m.2))
          (λ q. absurd (other q));
    }

    -- or left
    grown_leave : adjacent_to_all adjacent n t i ≡ false → Grown s (suc i) t
    grown_leave e = record {
      complementing = g.complementing;
      holds = g.holds;
      below = λ j lt out. below_cases j i lt (λ p. g.below j p out)
          (λ q. let m = adjacent_some_not adjacent n t i e in (m.0, m.1, ap (λ (x : ℕ). adjacent x m.0) q ∙ m.2));
    }

    grown_next : (u : List Bool) × Grown s (suc i) u
    grown_next = bool_cases (adjacent_to_all adjacent n t i) (λ e. (adding t i, grown_take e)) (λ e. (t, grown_leave e))

  grown : (s : List Bool) → Complementing adjacent n s → (i : ℕ) → i ≤ n → (t : List Bool) × Grown s i t
  grown s c zero h = (s, record { complementing = c; holds = λ k p. p; below = λ j lt. absurd (not-suc-le-zero lt) })
  grown s c (suc i) h = let r = grown s c i (omega arith) in grown_next s i h r.0 r.1

  pub completion : (s : List Bool) → Complementing adjacent n s → (t : List Bool) × Member t (maximal_sets adjacent n) × ((k : ℕ) → Holds s k → Holds t k)
  completion s c =
      let r = grown s c n (omega arith) in
      (r.0, (listed_is adjacent n r.0).1 (record { complementing = r.1.complementing; outside = r.1.below }), r.1.holds)

  -- the set of one position
  single : (i : ℕ) → i < n → Complementing adjacent n (adding (replicate n false) i)
  single i h =
      let fits : i < length (replicate n false) = rw (length-replicate n false) h in
      let alone : (k : ℕ) → Holds (adding (replicate n false) i) k → k ≡ i =
      λ k p. adding_cases (replicate n false) i k p
      (λ q. absurd (clash q (contains-get (replicate n false) k
      ∙ get_or-replicate n k false false (rw (length-replicate n false) at (holds_within (replicate n false) k q)))))
      (λ q. q) in
      record {
        size = length-set (replicate n false) i true ∙ length-replicate n false;
        some = (i, adding_same (replicate n false) i fits);
        pairwise = λ j k hj hk d. absurd (d (alone j hj ∙ sym (alone k hk)));
      }

  -- every position is held by a listed set
  pub every_position : (i : ℕ) → i < n → (t : List Bool) × Member t (maximal_sets adjacent n) × Holds t i
  every_position i h =
      let fits : i < length (replicate n false) = rw (length-replicate n false) h in
      let r = completion (adding (replicate n false) i) (single i h) in
      (r.0, r.1, r.2 i (adding_same (replicate n false) i fits))
