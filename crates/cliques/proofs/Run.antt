-- A run of the search lists each maximal set of its rows once, unless the list is full: `run_adds`. Assumes nothing.
use mathlib.Core.Path.{◌≡◌, refl, sym, ap, ◌∙◌, subst}
use mathlib.Core.Logic.{◌⊎◌, inl, inr, ⊎_elim}
use mathlib.Core.Bool.{true, false}
use mathlib.Core.List.{List}
use Prim.Native.Nat.{ℕ, zero, suc, ◌-◌, ◌<◌}
use native.Mathlib.Omega.{arith}
use lib.Dec.{eqb}
use borrow.Author.Tests.{eqb-true, eqb-false}
use Rattle.std.proofs.lemmas.Bool.{false_from_ne_true}
use Rattle.definitions.proofs.Bools.{bool_cases, clash}
use Rattle.bitsets.specs.Bits.{has, is_sub, with_row, Inside, lowest, without_lowest, size_below}
use Rattle.bitsets.proofs.Bits.{In, Lowest, at_lowest, has_none, has_ext, has_with_self, has_with_old, has_with_cases, same_set, rest_in, rest_of, rest_out}
use Rattle.bitsets.proofs.Sizes.{size_none, size_next, size_zero}
use Rattle.cliques.specs.Maximal.{Max, Adds}
use Rattle.cliques.specs.Search.{adjacent_by, kept, taken, MayTake, Split, Run, stops, lists, joins, leaves, takes}
use Rattle.cliques.proofs.Maximal.{Simple, Step, joined, left, took, step_max, Parent, parent, one_parent}
use Rattle.cliques.proofs.Adds.{adds_none, adds_one, adds_same, adds_both}

-- ---- the undecided rows, one by one

module _ {n width d rest f : ℕ} (s : Split n width d rest f) where
  -- the undecided rows have their bits
  ahead_bits : Inside rest width
  ahead_bits k h = omega (arith, s.ahead k h, s.fits)

  -- none is left
  split_none : f ≡ 0 → rest ≡ 0
  split_none e = size_zero width rest ahead_bits (s.counted ∙ e)

  pub split_some : (f ≡ 0 → ⊥) → 0 < rest
  split_some some =
      bool_cases (eqb rest 0)
      (λ t. absurd (some (sym s.counted ∙ ap (size_below width) (eqb-true rest 0 t) ∙ size_none width)))
      (λ t. let ne = eqb-false rest 0 t in omega arith)

  module _ (some : f ≡ 0 → ⊥) (i : ℕ) (e : i ≡ lowest rest) where
    first : Lowest rest i
    first = at_lowest rest i (split_some some) e

    pub split_row : i < n
    split_row = s.ahead i first.there

    pub split_new : has d i ≡ false
    split_new = s.apart i first.there

    pub split_next : Split n width (with_row d i) (without_lowest rest) (f - 1)
    split_next = record {
      fits = s.fits;
      past = λ k h. has_with_cases d i k h (s.past k) (λ p. rw p split_row);
      ahead = λ k h. s.ahead k (rest_in rest k h);
      apart = λ k h. false_from_ne_true (has (with_row d i) k)
          (λ p. has_with_cases d i k p (λ q. clash q (s.apart k (rest_in rest k h)))
          (λ q. clash h (ap (has (without_lowest rest)) q ∙ rest_out rest i first)));
      counted = omega (arith, s.counted, size_next width rest (split_some some) ahead_bits);
    }

-- ---- what the search may reach: x, by a step for each of f undecided rows

abbrev pub Reachable : (ℕ → ℕ) → ℕ → ℕ → ℕ → ℕ → ℕ → Type 0
Reachable N x zero d rest set = set ≡ x
Reachable N x (suc f) d rest set = (next : ℕ) × Step N d (lowest rest) set next × Reachable N x f (with_row d (lowest rest)) (without_lowest rest) next

module _ (N : ℕ → ℕ) (n width : ℕ) (g : Simple (adjacent_by N) n) where
  abbrev M : ℕ → ℕ → Type 0
  M = Max (adjacent_by N)

  module _ {f d rest : ℕ} (s : Split n width d rest (suc f)) where
    some : suc f ≡ 0 → ⊥
    some e = omega arith

    next_split : Split n width (with_row d (lowest rest)) (without_lowest rest) f
    next_split = subst (Split n width (with_row d (lowest rest)) (without_lowest rest)) (omega arith) (split_next s some (lowest rest) refl)

    next_max : (set next : ℕ) → M d set → Step N d (lowest rest) set next → M (with_row d (lowest rest)) next
    next_max = step_max N n g d s.past (lowest rest) (split_row s some (lowest rest) refl) (split_new s some (lowest rest) refl)

    next_parent : (next : ℕ) → M (with_row d (lowest rest)) next
        → Parent N n g d s.past (lowest rest) (split_row s some (lowest rest) refl) (split_new s some (lowest rest) refl) next
    next_parent = parent N n g d s.past (lowest rest) (split_row s some (lowest rest) refl) (split_new s some (lowest rest) refl)

    next_one : (b c next : ℕ) → M d b → M d c → Step N d (lowest rest) b next → Step N d (lowest rest) c next → b ≡ c
    next_one = one_parent N n g d s.past (lowest rest) (split_row s some (lowest rest) refl) (split_new s some (lowest rest) refl)

  -- a set is reached from one set alone
  one_way : (x f d rest b c : ℕ) → Split n width d rest f → M d b → M d c → Reachable N x f d rest b → Reachable N x f d rest c → b ≡ c
  one_way x zero d rest b c s mb mc r q = r ∙ sym q
  one_way x (suc f) d rest b c s mb mc r q =
      let same : r.0 ≡ q.0 =
      one_way x f (with_row d (lowest rest)) (without_lowest rest) r.0 q.0 (next_split s) (next_max s b r.0 mb r.1) (next_max s c q.0 mc q.1) r.2 q.2 in
      next_one s b c r.0 mb mc r.1 (subst (Step N d (lowest rest) c) (sym same) q.1)

  -- so taking a row leads to no set that leaving it leads to
  apart : (x f d rest set : ℕ) → Split n width d rest (suc f) → M d set → Step N d (lowest rest) set (taken N set (lowest rest)) → Step N d (lowest rest) set set
      → Reachable N x f (with_row d (lowest rest)) (without_lowest rest) (taken N set (lowest rest)) → Reachable N x f (with_row d (lowest rest)) (without_lowest rest) set → ⊥
  apart x f d rest set s m t l r q =
      let i = lowest rest in
      let same : taken N set i ≡ set =
      one_way x f (with_row d i) (without_lowest rest) (taken N set i) set (next_split s) (next_max s set (taken N set i) m t) (next_max s set set m l) r q in
      clash (m.inside i (subst (λ (y : ℕ). In y i) same (has_with_self (kept N set i) i))) (split_new s (some s) i refl)

  -- where a step leads
  joined_to : {d i set next : ℕ} {A : Type 0} → is_sub set (N i) ≡ true → Step N d i set next → (with_row set i ≡ next → A) → A
  joined_to s (joined t e) f = f e
  joined_to s (left t e) f = absurd (clash s t)
  joined_to s (took t m e) f = absurd (clash s t)

  left_to : {d i set next : ℕ} {A : Type 0} → is_sub set (N i) ≡ false → Step N d i set next → (set ≡ next → A) → (MayTake N d set i → taken N set i ≡ next → A) → A
  left_to s (joined t e) f h = absurd (clash t s)
  left_to s (left t e) f h = f e
  left_to s (took t m e) f h = h m e

  module _ (cap : ℕ) where
    run_reach : {f d rest set calls : ℕ} {l out : List ℕ} → Run N cap f d rest set l out calls → Split n width d rest f → M d set
        → Adds (λ x. Reachable N x f d rest set) cap l out
    run_reach {l = l} (stops h) s m = adds_none cap _ l (λ few x p. omega arith)
    run_reach {set = set} {l = l} (lists h) s m = adds_one cap _ l set refl (λ y p. sym p)
    run_reach {f = suc f} {d = d} {rest = rest} {set = set} (joins h t a) s m =
        let to : Step N d (lowest rest) set (with_row set (lowest rest)) = joined t refl in
        adds_same cap (λ x. Reachable N x f (with_row d (lowest rest)) (without_lowest rest) (with_row set (lowest rest))) (λ x. Reachable N x (suc f) d rest set)
        (λ x r. (with_row set (lowest rest), to, r))
        (λ x r. joined_to t r.1 (λ q. subst (Reachable N x f (with_row d (lowest rest)) (without_lowest rest)) (sym q) r.2))
        (run_reach a (next_split s) (next_max s set (with_row set (lowest rest)) m to))
    run_reach {f = suc f} {d = d} {rest = rest} {set = set} (leaves h t never a) s m =
        let to : Step N d (lowest rest) set set = left t refl in
        adds_same cap (λ x. Reachable N x f (with_row d (lowest rest)) (without_lowest rest) set) (λ x. Reachable N x (suc f) d rest set)
        (λ x r. (set, to, r))
        (λ x r. left_to t r.1 (λ q. subst (Reachable N x f (with_row d (lowest rest)) (without_lowest rest)) (sym q) r.2) (λ y q. absurd (never y)))
        (run_reach a (next_split s) (next_max s set set m to))
    run_reach {f = suc f} {d = d} {rest = rest} {set = set} (takes h t may a b) s m =
        let i = lowest rest in
        let out : Step N d i set (taken N set i) = took t may refl in
        let stay : Step N d i set set = left t refl in
        adds_both cap (λ x. Reachable N x f (with_row d (lowest rest)) (without_lowest rest) (taken N set (lowest rest)))
        (λ x. Reachable N x f (with_row d (lowest rest)) (without_lowest rest) set) (λ x. Reachable N x (suc f) d rest set)
        (λ x r. (taken N set (lowest rest), out, r))
        (λ x r. (set, stay, r))
        (λ x r. left_to t r.1
        (λ q. inr (subst (Reachable N x f (with_row d (lowest rest)) (without_lowest rest)) (sym q) r.2))
        (λ y q. inl (subst (Reachable N x f (with_row d (lowest rest)) (without_lowest rest)) (sym q) r.2)))
        (λ x r q. apart x f d rest set s m out stay r q)
        (run_reach a (next_split s) (next_max s set (taken N set i) m out))
        (run_reach b (next_split s) (next_max s set set m stay))

  -- ---- what is reached is maximal among all the rows, and all of that is reached

  -- the rows, decided or not
  abbrev Whole : ℕ → ℕ → ℕ → Type 0
  Whole rows d rest = (k : ℕ) → (In rows k → In d k ⊎ In rest k) × (In d k ⊎ In rest k → In rows k)

  whole_end : (rows d rest : ℕ) → Whole rows d rest → rest ≡ 0 → d ≡ rows
  whole_end rows d rest w e =
      same_set d rows (λ k h. (w k).1 (inl h))
      (λ k h. ⊎_elim (λ p. p) (λ p. absurd (clash p (ap (λ (x : ℕ). has x k) e ∙ has_none k))) ((w k).0 h))

  whole_next : {f d rest : ℕ} (rows : ℕ) → Split n width d rest (suc f) → Whole rows d rest → Whole rows (with_row d (lowest rest)) (without_lowest rest)
  whole_next {d = d} {rest = rest} rows s w k =
      let i = lowest rest in
      let low : Lowest rest i = at_lowest rest i (split_some s (some s)) refl in (
        λ h. ⊎_elim (λ p. inl (has_with_old d i k p))
            (λ p. bool_cases (eqb k i)
            (λ t. inl (subst (λ (x : ℕ). In (with_row d i) x) (sym (eqb-true k i t)) (has_with_self d i)))
            (λ t. inr (rest_of rest i k low p (eqb-false k i t))))
            ((w k).0 h),
        λ c. ⊎_elim
            (λ p. has_with_cases d i k p (λ q. (w k).1 (inl q)) (λ q. subst (λ (x : ℕ). In rows x) (sym q) ((w i).1 (inr low.there))))
            (λ p. (w k).1 (inr (rest_in rest k p))) c,
      )

  reach_max : (x f d rest set rows : ℕ) → Split n width d rest f → Whole rows d rest → M d set → Reachable N x f d rest set → M rows x
  reach_max x zero d rest set rows s w m r =
      subst (λ (y : ℕ). M y x) (whole_end rows d rest w (split_none s refl)) (subst (M d) r m)
  reach_max x (suc f) d rest set rows s w m r =
      reach_max x f (with_row d (lowest rest)) (without_lowest rest) r.0 rows (next_split s) (whole_next rows s w) (next_max s set r.0 m r.1) r.2

  reached : (x f d rest rows : ℕ) → Split n width d rest f → Whole rows d rest → M rows x → (set : ℕ) × M d set × Reachable N x f d rest set
  reached x zero d rest rows s w m = (x, subst (λ (y : ℕ). M y x) (sym (whole_end rows d rest w (split_none s refl))) m, refl)
  reached x (suc f) d rest rows s w m =
      let r = reached x f (with_row d (lowest rest)) (without_lowest rest) rows (next_split s) (whole_next rows s w) m in
      let p = next_parent s r.0 r.1 in
      (p.set, p.maximal, (r.0, p.step, r.2))

  -- no row is decided yet
  pub none_max : M 0 0
  none_max = record {
    inside = λ k h. h;
    clique = λ j k hj hk ne. absurd (clash hj (has_none j));
    full = λ j h f. clash h (has_none j);
  }

  none_only : (set : ℕ) → M 0 set → set ≡ 0
  none_only set m = has_ext set 0 (λ k. false_from_ne_true (has set k) (λ h. clash (m.inside k h) (has_none k)) ∙ sym (has_none k))

  pub run_adds : (cap : ℕ) {f rows calls : ℕ} {l out : List ℕ} → Run N cap f 0 rows 0 l out calls → Split n width 0 rows f → Adds (M rows) cap l out
  run_adds cap {f} {rows} a s =
      let w : Whole rows 0 rows = λ k. (λ h. inr h, λ c. ⊎_elim (λ p. absurd (clash p (has_none k))) (λ p. p) c) in
      adds_same cap (λ x. Reachable N x f 0 rows 0) (M rows)
      (λ x r. reach_max x f 0 rows 0 rows s w none_max r)
      (λ x m. let r = reached x f 0 rows rows s w m in subst (Reachable N x f 0 rows) (none_only r.0 r.1) r.2)
      (run_reach cap a s none_max)
