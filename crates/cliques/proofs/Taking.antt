-- Whether a row may be taken, by two walks: over what it leaves of the set, for the decided rows that complement all of that, and over these
-- in ascending order. Assumes nothing.
use mathlib.Core.Path.{◌≡◌, refl, sym, ap, ◌∙◌, subst}
use mathlib.Core.Bool.{Bool, true, false}
use mathlib.Core.List.{List}
use Prim.Native.Nat.{ℕ, ◌<◌}
use native.Mathlib.Omega.{arith}
use lib.Dec.{eqb, ltb}
use lib.ListN.{length}
use borrow.Author.Tests.{eqb-true, eqb-false, ltb-true, ltb-false}
use Rattle.definitions.proofs.Bools.{bool_cases, clash}
use Rattle.bitsets.specs.Bits.{has, both, lowest, without_lowest, Inside, Sub}
use Rattle.bitsets.proofs.Bits.{In, Lowest, some, has_none, both_in_lem, both_l, both_r, at_lowest, rest_in, rest_of}
use Rattle.bitsets.specs.Members.{Next}
use Rattle.bitsets.proofs.Rests.{lowest_of}
use Rattle.cliques.specs.Graph.{adjacent}
use Rattle.cliques.specs.Maximal.{AdjacentToAll, Clique}
use Rattle.cliques.specs.Search.{row_of, adjacent_by, kept, MayTake, Asked, FreeRows, GrowsBack, Decides}

-- ---- the rows that complement each row of a set, row by row

module _ (N : ℕ → ℕ) where
  pub free_none : (set word : ℕ) → set ≡ 0 → FreeRows (adjacent_by N) set word word
  free_none set word e =
      record { within = λ k h. h; each = λ j k hj hk. absurd (clash hj (ap (λ (x : ℕ). has x j) e ∙ has_none j)); all = λ k h f. h }

  module _ {rest word k less more : ℕ} (next : Next rest k less) (ew : more ≡ both word (N k)) where
    free_step : (r : ℕ) → FreeRows (adjacent_by N) (without_lowest rest) (both word (N k)) r → FreeRows (adjacent_by N) rest word r
    free_step r c = record {
      within = λ j h. both_l word (N k) j (c.within j h);
      each = λ i j hi hj. bool_cases (eqb i k)
          (λ t. subst (λ (x : ℕ). In (N x) j) (sym (eqb-true i k t)) (both_r word (N k) j (c.within j hj)))
          (λ t. c.each i j (rest_of rest k i (lowest_of next) hi (eqb-false i k t)) hj);
      all = λ j h f. c.all j (both_in_lem word (N k) j h (f k (lowest_of next).there)) (λ i hi. f i (rest_in rest i hi));
    }

    pub free_turn : (r : ℕ) → FreeRows (adjacent_by N) less more r → FreeRows (adjacent_by N) rest word r
    free_turn r c = free_step r (subst (λ (x : ℕ). FreeRows (adjacent_by N) x (both word (N k)) r) next.rest (subst (λ (x : ℕ). FreeRows (adjacent_by N) less x r) ew c))

-- ---- the free rows in ascending order

-- so far only members of the set were met: no row is lost that complements each member before it, and a member that was met complements
-- each row that is left
pub record Walk (adjacent : ℕ → ℕ → Bool) (free set rest : ℕ) : Type 0 where
  pub within : Sub rest free
  pub ahead : (j : ℕ) → In free j → has set j ≡ false → ((k : ℕ) → In free k → In set k → k < j → adjacent k j ≡ true) → In rest j
  pub passed : (m k : ℕ) → In free m → In set m → has rest m ≡ false → In rest k → adjacent m k ≡ true

module _ (N : ℕ → ℕ) (free set rest : ℕ) (w : Walk (adjacent_by N) free set rest) where
  pub walk_end : rest ≡ 0 → GrowsBack (adjacent_by N) free set true
  walk_end e = record {
    yes = λ _ j h out f. clash (w.ahead j h out f) (ap (λ (x : ℕ). has x j) e ∙ has_none j);
    no = λ z. absurd (clash refl z);
  }

  module _ (pos : 0 < rest) (row : ℕ) (e : row ≡ lowest rest) where
    first : Lowest rest row
    first = at_lowest rest row pos e

    -- a row outside the set
    pub walk_met : has set row ≡ false → GrowsBack (adjacent_by N) free set false
    walk_met out = record {
      yes = λ z. absurd (clash z refl);
      no = λ _. record {
        row = row;
        there = w.within row first.there;
        outside = out;
        before = λ k h s l. w.passed k row h s (first.below k l) first.there;
      };
    }

    -- what is left is behind the row
    behind : (j : ℕ) → In rest j → (j ≡ row → ⊥) → row < j
    behind j h ne =
        bool_cases (ltb j row) (λ t. absurd (clash h (first.below j (ltb-true j row t)))) (λ t. let ge = ltb-false j row t in omega arith)

    walk_on : Clique (adjacent_by N) set → In set row → Walk (adjacent_by N) free set (both (without_lowest rest) (N row))
    walk_on clique there = record {
      within = λ k h. w.within k (rest_in rest k (both_l (without_lowest rest) (N row) k h));
      ahead = λ j h out f.
          let r : In rest j = w.ahead j h out f in
          let ne : j ≡ row → ⊥ = λ q. clash there (ap (has set) (sym q) ∙ out) in
          both_in_lem (without_lowest rest) (N row) j (rest_of rest row j first r ne) (f row (w.within row first.there) there (behind j r ne));
      passed = λ m k h s out r. bool_cases (has rest m)
          (λ t. bool_cases (eqb m row)
          (λ q. subst (λ (x : ℕ). In (N x) k) (sym (eqb-true m row q)) (both_r (without_lowest rest) (N row) k r))
          (λ q.
          let ne = eqb-false m row q in
          absurd (clash (both_in_lem (without_lowest rest) (N row) m (rest_of rest row m first t ne) (clique row m there s (λ z. ne (sym z)))) out)))
          (λ t. w.passed m k h s t (rest_in rest k (both_l (without_lowest rest) (N row) k r)));
    }

    pub walk_turn : Clique (adjacent_by N) set → In set row → (less next : ℕ) → less ≡ without_lowest rest → next ≡ both less (N row)
        → Walk (adjacent_by N) free set next
    walk_turn clique there less next el en = rw (en, el) (walk_on clique there)

-- what is left of the rows
pub left : (rest less adjacent next : ℕ) → less ≡ without_lowest rest → next ≡ both less adjacent → (k : ℕ) → In next k → In rest k
left rest less adjacent next el en k h = rest_in rest k (ap (λ (x : ℕ). has x k) (sym el) ∙ both_l less adjacent k (ap (λ (x : ℕ). has x k) (sym en) ∙ h))

-- ---- the answer

module _ {width : ℕ} {neighbours : List ℕ} {decided set i : ℕ} (a : Asked width neighbours decided set i) where
  abbrev n : ℕ
  n = a.n

  abbrev N : ℕ → ℕ
  N = row_of neighbours

  own : (k : ℕ) → In set k → k < n
  own k h = a.past k (a.maximal.inside k h)

  turned : (j k : ℕ) → j < n → k < n → In (N j) k → In (N k) j
  turned j k hj hk h = sym (a.graph.symmetric j k hj hk) ∙ h

  pub kept_inside : (rest : ℕ) → rest ≡ kept N set i → Inside rest (length neighbours)
  kept_inside rest e k h = omega (arith, own k (both_l set (N i) k (rw e at h)), a.graph.rows)

  module _ (free rest : ℕ) (e : rest ≡ kept N set i) (f : FreeRows (adjacent neighbours) rest decided free) where
    -- a free row complements what is kept, and a decided row that does is free
    free_adjacent : (j : ℕ) → In free j → AdjacentToAll (adjacent neighbours) (kept N set i) j
    free_adjacent j h k p = turned k j (own k (both_l set (N i) k p)) (a.past j (f.within j h)) (f.each k j (rw e p) h)

    adjacent_free : (j : ℕ) → In decided j → AdjacentToAll (adjacent neighbours) (kept N set i) j → In free j
    adjacent_free j h adjacent = f.all j h (λ k p. let q = rw e at p in turned j k (a.past j h) (own k (both_l set (N i) k q)) (adjacent k q))

    -- a free row complements row i
    pub told_blocked : (r : ℕ) → r ≡ both free (N i) → (r ≡ 0 → ⊥) → Decides (MayTake N decided set i) false
    told_blocked r er ne = record {
      yes = λ z. absurd (clash z refl);
      no = λ _ m.
          let k = some r ne in
          let p : In (both free (N i)) k.0 = ap (λ (x : ℕ). has x k.0) (sym er) ∙ k.1 in
          let there = both_l free (N i) k.0 p in
          m.maximal k.0 (f.within k.0 there) (free_adjacent k.0 there) (both_r free (N i) k.0 p);
    }

    pub told_walked : (r : ℕ) → r ≡ both free (N i) → r ≡ 0 → (b : Bool) → GrowsBack (adjacent neighbours) free set b → Decides (MayTake N decided set i) b
    told_walked r er z b back = record {
      yes = λ t. record {
        maximal = λ j h adjacent p. clash (both_in_lem free (N i) j (adjacent_free j h adjacent) p) (ap (λ (x : ℕ). has x j) (sym er ∙ z) ∙ has_none j);
        first = λ j h out adjacent before. back.yes t j (adjacent_free j h adjacent) out
            (λ k q s l. turned j k (a.past j h) (own k s) (before k s l));
      };
      no = λ t m.
          let met = back.no t in
          let j = met.row in
          let there = f.within j met.there in
          m.first j there met.outside (free_adjacent j met.there)
          (λ k s l. bool_cases (has (kept N set i) k) (free_adjacent j met.there k)
          (λ out.
          let free_k : In free k =
          adjacent_free k (a.maximal.inside k s) (λ x p. a.maximal.clique k x s (both_l set (N i) x p) (λ q. clash p (ap (has (kept N set i)) (sym q) ∙ out))) in
          turned k j (own k s) (a.past j there) (met.before k free_k s l)));
    }
