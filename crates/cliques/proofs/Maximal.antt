-- Maximal sets of the decided rows, and a step of the search to one row more: it keeps them maximal, every maximal set of the grown rows
-- comes from one of the decided rows, and from one alone. Assumes nothing.
use mathlib.Core.Path.{◌≡◌, refl, sym, ap, ◌∙◌, subst}
use mathlib.Core.Logic.{◌⊎◌, inl, inr, ⊎_elim}
use mathlib.Core.Bool.{Bool, true, false, cond, not, ◌&&◌}
use Prim.Native.Nat.{ℕ, zero, suc, ◌≤◌, ◌<◌}
use native.Mathlib.Decide.{le_ind}
use native.Mathlib.Omega.{arith}
use lib.Dec.{eqb}
use borrow.Author.Tests.{eqb-true, eqb-false}
use Rattle.std.proofs.lemmas.Bool.{and_from, and_parts, false_from_ne_true}
use Rattle.definitions.proofs.Bools.{bool_cases, clash}
use Rattle.bitsets.specs.Bits.{has, is_sub, with_row, only_one, lowest, Inside, Sub}
use Rattle.cliques.specs.Maximal.{AdjacentToAll, Clique, Max}
use Rattle.cliques.specs.Search.{adjacent_by, kept, taken, MayTake}
use Rattle.bitsets.proofs.Bits.{In, has_with_self, has_with_old, has_with_cases, same_set, both_in_lem, both_l, both_r, sub_same, sub_true, sub_of, is_lowest, only_one_some, only_one_in, only_one_out}

-- complementing among n rows
pub record Simple (adjacent : ℕ → ℕ → Bool) (n : ℕ) : Type 0 where
  pub symmetric : (j k : ℕ) → j < n → k < n → adjacent j k ≡ adjacent k j
  pub apart : (j : ℕ) → j < n → adjacent j j ≡ false

-- a step of the search, from a set of the decided rows to one of these and row i
pub data Step (N : ℕ → ℕ) (d i set next : ℕ) : Type 0 where
  joined : is_sub set (N i) ≡ true → with_row set i ≡ next → Step N d i set next
  left : is_sub set (N i) ≡ false → set ≡ next → Step N d i set next
  took : is_sub set (N i) ≡ false → MayTake N d set i → taken N set i ≡ next → Step N d i set next

-- ---- completion: each row of d below i, in ascending order, that complements all that are in by then

module _ (N : ℕ → ℕ) (d : ℕ) where
  -- a row of d that complements all of the set
  abbrev fits : ℕ → ℕ → Bool
  fits set k = has d k && is_sub set (N k)

  complete : ℕ → ℕ → ℕ
  complete set zero = set
  complete set (suc k) = cond (fits (complete set k) k) (with_row (complete set k) k) (complete set k)

  complete_more : (set i k : ℕ) → In (complete set i) k → In (complete set (suc i)) k
  unfolding complete
  complete_more set i k r =
      bool_cases (fits (complete set i) i) (λ e. rw e (has_with_old (complete set i) i k r)) (λ e. rw e r)

  complete_later : (set k i j : ℕ) → k ≤ i → In (complete set k) j → In (complete set i) j
  complete_later set k i j h r = le_ind (λ (m : ℕ). In (complete set m) j) r (λ m l e. complete_more set m j e) i h

  complete_keeps : (set i k : ℕ) → In set k → In (complete set i) k
  unfolding complete
  complete_keeps set i k h = complete_later set 0 i k (omega arith) h

  -- what a turn adds
  complete_cases : {A : Type 0} (set i k : ℕ) → In (complete set (suc i)) k → (In (complete set i) k → A)
      → (k ≡ i → In d i → is_sub (complete set i) (N i) ≡ true → A) → A
  unfolding complete
  complete_cases set i k h f g =
      bool_cases (fits (complete set i) i)
      (λ e. has_with_cases (complete set i) i k (rw e at h) f
      (λ p. g p (and_parts (has d i) (is_sub (complete set i) (N i)) e).0 (and_parts (has d i) (is_sub (complete set i) (N i)) e).1))
      (λ e. f (rw e at h))

  complete_adds : (set i : ℕ) → In d i → is_sub (complete set i) (N i) ≡ true → In (complete set (suc i)) i
  unfolding complete
  complete_adds set i p e = let t : fits (complete set i) i ≡ true = and_from _ _ p e in rw t (has_with_self (complete set i) i)

  -- what was added is a row of d, and below i
  complete_new : (set i k : ℕ) → In (complete set i) k → In set k ⊎ (In d k × (k < i))
  unfolding complete
  complete_new set zero k h = inl h
  complete_new set (suc i) k h =
      complete_cases set i k h
      (λ r. ⊎_elim (λ p. inl p) (λ p. inr (p.0, omega (arith, p.1))) (complete_new set i k r))
      (λ p q e. inr (subst (λ (x : ℕ). In d x) (sym p) q, omega arith))

  complete_inside : (set i : ℕ) → Sub set d → Sub (complete set i) d
  complete_inside set i s k h = ⊎_elim (λ p. s k p) (λ p. p.0) (complete_new set i k h)

  module _ (n : ℕ) (g : Simple (adjacent_by N) n) (inside : Inside d n) where
    complete_clique : (set i : ℕ) → Sub set d → Clique (adjacent_by N) set → Clique (adjacent_by N) (complete set i)
    unfolding complete
    complete_clique set zero s f j k hj hk ne = f j k hj hk ne
    complete_clique set (suc i) s f j k hj hk ne =
        let within : (x : ℕ) → In (complete set i) x → x < n = λ x h. inside x (complete_inside set i s x h) in
        complete_cases set i j hj
        (λ gj. complete_cases set i k hk (λ gk. complete_clique set i s f j k gj gk ne)
        (λ p q e. subst (λ (x : ℕ). In (N j) x) (sym p) (g.symmetric j i (within j gj) (inside i q) ∙ sub_true (complete set i) (N i) e j gj)))
        (λ p q e. complete_cases set i k hk
        (λ gk. subst (λ (x : ℕ). In (N x) k) (sym p) (sub_true (complete set i) (N i) e k gk))
        (λ r _ _. absurd (ne (p ∙ sym r))))

    -- a row of d that is not in was not to be added: it does not complement the set and what was added before it
    complete_first : (set j : ℕ) → Sub set d → In d j → has (complete set n) j ≡ false → AdjacentToAll (adjacent_by N) set j
        → ((k : ℕ) → In (complete set n) k → k < j → In (N j) k) → ⊥
    complete_first set j s p out adjacent before =
        let lt : j < n = inside j p in
        let sub : is_sub (complete set j) (N j) ≡ true =
        sub_of (complete set j) (N j)
        (λ k h. ⊎_elim (adjacent k) (λ q. before k (complete_later set j n k (omega arith) h) q.1) (complete_new set j k h)) in
        clash (complete_later set (suc j) n j lt (complete_adds set j p sub)) out

    -- a set of complementing rows is completed to a maximal one
    complete_max : (set : ℕ) → Sub set d → Clique (adjacent_by N) set → Max (adjacent_by N) d (complete set n)
    complete_max set s f = record {
      inside = complete_inside set n s;
      clique = complete_clique set n s f;
      full = λ j p adjacent. bool_cases (has (complete set n) j)
          (λ t. clash (adjacent j t) (g.apart j (inside j p)))
          (λ t. complete_first set j s p t (λ k h. adjacent k (complete_keeps set n k h)) (λ k h _. adjacent k h));
    }

module _ (N : ℕ → ℕ) (n : ℕ) (g : Simple (adjacent_by N) n) (d : ℕ) (inside : Inside d n) (i : ℕ) (lt : i < n) (new : has d i ≡ false) where
  -- the set with row i, and row i beside rows of d
  not_own : (k : ℕ) → In d k → k ≡ i → ⊥
  not_own k h e = clash h (ap (has d) e ∙ new)

  -- ---- a step keeps a set maximal

  leave_max : (set : ℕ) → Max (adjacent_by N) d set → is_sub set (N i) ≡ false → Max (adjacent_by N) (with_row d i) set
  leave_max set m e = record {
    inside = λ k h. has_with_old d i k (m.inside k h);
    clique = m.clique;
    full = λ j h f. has_with_cases d i j h (λ r. m.full j r f)
        (λ p. clash (sub_of set (N i) (λ k hk. subst (λ (x : ℕ). In (N x) k) p (f k hk))) e);
  }

  -- row i, beside a part of a maximal set
  row_max : (set part : ℕ) → Max (adjacent_by N) d set → Sub part set → Sub part (N i)
      → ((j : ℕ) → In d j → AdjacentToAll (adjacent_by N) (with_row part i) j → ⊥) → Max (adjacent_by N) (with_row d i) (with_row part i)
  row_max set part m sub adjacent full = record {
    inside = λ k h. has_with_cases part i k h (λ r. has_with_old d i k (m.inside k (sub k r)))
        (λ p. subst (λ (x : ℕ). In (with_row d i) x) (sym p) (has_with_self d i));
    clique = λ j k hj hk ne.
        has_with_cases part i j hj
        (λ rj. has_with_cases part i k hk (λ rk. m.clique j k (sub j rj) (sub k rk) ne)
        (λ p. subst (λ (x : ℕ). In (N j) x) (sym p) (g.symmetric j i (inside j (m.inside j (sub j rj))) lt ∙ adjacent j rj)))
        (λ p. has_with_cases part i k hk (λ rk. subst (λ (x : ℕ). In (N x) k) (sym p) (adjacent k rk)) (λ q. absurd (ne (p ∙ sym q))));
    full = λ j h f. has_with_cases d i j h (λ r. full j r f)
        (λ p. clash (f i (has_with_self part i)) (subst (λ (x : ℕ). has (N x) i ≡ false) (sym p) (g.apart i lt)));
  }

  -- a decided row that complements row i is complemented by it
  back : (j : ℕ) → In d j → In (N j) i → In (N i) j
  back j h r = g.symmetric i j lt (inside j h) ∙ r

  pub step_max : (set next : ℕ) → Max (adjacent_by N) d set → Step N d i set next → Max (adjacent_by N) (with_row d i) next
  step_max set next m (joined s e) =
      subst (Max (adjacent_by N) (with_row d i)) e
      (row_max set set m (λ k h. h) (sub_true set (N i) s) (λ j h f. m.full j h (λ k r. f k (has_with_old set i k r))))
  step_max set next m (left s e) = subst (Max (adjacent_by N) (with_row d i)) e (leave_max set m s)
  step_max set next m (took s t e) =
      subst (Max (adjacent_by N) (with_row d i)) e
      (row_max set (kept N set i) m (both_l set (N i)) (both_r set (N i))
      (λ j h f. t.maximal j h (λ k r. f k (has_with_old (kept N set i) i k r)) (back j h (f i (has_with_self (kept N set i) i)))))

  -- ---- every maximal set of the grown rows comes from one of the decided rows

  pub record Parent (next : ℕ) : Type 0 where
    pub set : ℕ
    pub maximal : Max (adjacent_by N) d set
    pub step : Step N d i set next

  module _ (next : ℕ) (m : Max (adjacent_by N) (with_row d i) next) where
    without : has next i ≡ false → Parent next
    without h = record {
      set = next;
      maximal = record {
        inside = λ k r. has_with_cases d i k (m.inside k r) (λ p. p) (λ p. absurd (clash r (ap (has next) p ∙ h)));
        clique = m.clique;
        full = λ j r f. m.full j (has_with_old d i j r) f;
      };
      step = left (false_from_ne_true (is_sub next (N i)) (λ s. m.full i (has_with_self d i) (sub_true next (N i) s))) refl;
    }

    abbrev rest : ℕ
    rest = kept N next i

    rest_inside : Sub rest d
    rest_inside k h =
        has_with_cases d i k (m.inside k (both_l next (N i) k h)) (λ p. p)
        (λ p. absurd (clash (both_r next (N i) k h) (ap (has (N i)) p ∙ g.apart i lt)))

    abbrev up : ℕ
    up = complete N d rest n

    up_max : Max (adjacent_by N) d up
    up_max = complete_max N d n g inside rest rest_inside (λ j k hj hk ne. m.clique j k (both_l next (N i) j hj) (both_l next (N i) k hk) ne)

    module _ (h : In next i) where
      rest_of : (k : ℕ) → In next k → (k ≡ i → ⊥) → In rest k
      rest_of k r ne = both_in_lem next (N i) k r (m.clique i k h r (λ e. ne (sym e)))

      -- no decided row complements what is left of `next`, and row i
      none_adjacent : (j : ℕ) → In d j → AdjacentToAll (adjacent_by N) rest j → In (N i) j → ⊥
      none_adjacent j p adjacent r =
          m.full j (has_with_old d i j p)
          (λ k x. bool_cases (eqb k i)
          (λ q. subst (λ (y : ℕ). In (N j) y) (sym (eqb-true k i q)) (g.symmetric j i (inside j p) lt ∙ r))
          (λ q. adjacent k (rest_of k x (eqb-false k i q))))

      -- of what was completed, only members of `next` complement i
      up_adjacent : (k : ℕ) → In up k → In (N i) k → In rest k
      up_adjacent k u r =
          bool_cases (has rest k) (λ p. p)
          (λ p. absurd (none_adjacent k (up_max.inside k u)
          (λ j x. up_max.clique k j u (complete_keeps N d rest n j x) (λ e. clash x (ap (has rest) (sym e) ∙ p))) r))

      up_kept : kept N up i ≡ rest
      up_kept =
          same_set (kept N up i) rest
          (λ k p. up_adjacent k (both_l up (N i) k p) (both_r up (N i) k p))
          (λ k p. both_in_lem up (N i) k (complete_keeps N d rest n k p) (both_r next (N i) k p))

      with_rest : with_row rest i ≡ next
      with_rest =
          same_set (with_row rest i) next
          (λ k p. has_with_cases rest i k p (both_l next (N i) k) (λ q. ap (has next) q ∙ h))
          (λ k p. bool_cases (eqb k i)
          (λ q. ap (has (with_row rest i)) (eqb-true k i q) ∙ has_with_self rest i)
          (λ q. has_with_old rest i k (rest_of k p (eqb-false k i q))))

      to_rest : (j : ℕ) → AdjacentToAll (adjacent_by N) (kept N up i) j → AdjacentToAll (adjacent_by N) rest j
      to_rest j adjacent k x = adjacent k (ap (λ (y : ℕ). has y k) up_kept ∙ x)

      up_may : MayTake N d up i
      up_may = record {
        maximal = λ j p adjacent r. none_adjacent j p (to_rest j adjacent) r;
        first = λ j p out adjacent before. complete_first N d n g inside rest j rest_inside p out (to_rest j adjacent) before;
      }

      up_taken : taken N up i ≡ next
      up_taken = ap (λ (x : ℕ). with_row x i) up_kept ∙ with_rest

      within : Parent next
      within = record {
        set = up;
        maximal = up_max;
        step = bool_cases (is_sub up (N i))
            (λ s. joined s (ap (λ (x : ℕ). with_row x i) (sym (sub_same up (N i) s)) ∙ up_taken))
            (λ s. took s up_may up_taken);
      }

    pub parent : Parent next
    parent = bool_cases (has next i) within without

  -- ---- and from one alone

  -- no row that is not in the set complements what is kept and the rows of the set before it
  abbrev First : ℕ → Type 0
  First set = (j : ℕ) → In d j → has set j ≡ false → AdjacentToAll (adjacent_by N) (kept N set i) j → ((k : ℕ) → In set k → k < j → In (N j) k) → ⊥

  -- how a set came to be: row i was left, or it was taken
  data Origin (set next : ℕ) : Type 0 where
    stayed : has next i ≡ false → set ≡ next → Origin set next
    grew : In next i → taken N set i ≡ next → First set → Origin set next

  own : (set next : ℕ) → taken N set i ≡ next → In next i
  own set next e = subst (λ (x : ℕ). In x i) e (has_with_self (kept N set i) i)

  origin : (set next : ℕ) → Max (adjacent_by N) d set → Step N d i set next → Origin set next
  origin set next m (joined s e) =
      let same : kept N set i ≡ set = sub_same set (N i) s in
      let to : taken N set i ≡ next = ap (λ (x : ℕ). with_row x i) same ∙ e in
      grew (own set next to) to (λ j p out adjacent before. m.full j p (λ k h. adjacent k (ap (λ (x : ℕ). has x k) same ∙ h)))
  origin set next m (left s e) = stayed (false_from_ne_true (has next i) (λ h. not_own i (m.inside i (ap (λ (x : ℕ). has x i) e ∙ h)) refl)) e
  origin set next m (took s t e) = grew (own set next e) e t.first

  -- the members of what one set keeps are kept by the other
  half : (b c : ℕ) → Max (adjacent_by N) d b → taken N b i ≡ taken N c i → Sub (kept N b i) (kept N c i)
  half b c m e k h =
      has_with_cases (kept N c i) i k (ap (λ (x : ℕ). has x k) (sym e) ∙ has_with_old (kept N b i) i k h) (λ p. p)
      (λ p. absurd (not_own k (m.inside k (both_l b (N i) k h)) p))

  -- a position that is in one of two such sets and not in the other, where they agree below
  differ : (b c : ℕ) → Max (adjacent_by N) d b → Sub (kept N c i) (kept N b i) → First c → (j : ℕ) → In b j → has c j ≡ false
      → ((k : ℕ) → k < j → has b k ≡ has c k) → ⊥
  differ b c m sub first j hb hc below =
      let other : (k : ℕ) → In c k → j ≡ k → ⊥ = λ k h e. clash h (ap (has c) (sym e) ∙ hc) in
      first j (m.inside j hb) hc
      (λ k h. m.clique j k hb (both_l b (N i) k (sub k h)) (other k (both_l c (N i) k h)))
      (λ k h l. m.clique j k hb (below k l ∙ h) (other k h))

  one_grown : (b c : ℕ) → Max (adjacent_by N) d b → Max (adjacent_by N) d c → taken N b i ≡ taken N c i → First b → First c → b ≡ c
  one_grown b c mb mc e fb fc =
      bool_cases (eqb b c) (eqb-true b c)
      (λ t.
      let low = is_lowest (only_one b c) (only_one_some b c (eqb-false b c t)) in
      let j = lowest (only_one b c) in
      let other : has c j ≡ not (has b j) = only_one_in b c j low.there in
      let below : (k : ℕ) → k < j → has b k ≡ has c k = λ k l. only_one_out b c k (low.below k l) in
      absurd (bool_cases (has b j)
      (λ p. differ b c mb (half c b mc (sym e)) fc j p (other ∙ ap not p) below)
      (λ p. differ c b mc (half b c mb e) fb j (other ∙ ap not p) p (λ k l. sym (below k l)))))

  by_origin : (b c next : ℕ) → Max (adjacent_by N) d b → Max (adjacent_by N) d c → Origin b next → Origin c next → b ≡ c
  by_origin b c next mb mc (stayed h e) (stayed h2 e2) = e ∙ sym e2
  by_origin b c next mb mc (stayed h e) (grew h2 e2 f2) = absurd (clash h2 h)
  by_origin b c next mb mc (grew h e f) (stayed h2 e2) = absurd (clash h h2)
  by_origin b c next mb mc (grew h e f) (grew h2 e2 f2) = one_grown b c mb mc (e ∙ sym e2) f f2

  pub one_parent : (b c next : ℕ) → Max (adjacent_by N) d b → Max (adjacent_by N) d c → Step N d i b next → Step N d i c next → b ≡ c
  one_parent b c next mb mc s t = by_origin b c next mb mc (origin b next mb s) (origin c next mc t)
