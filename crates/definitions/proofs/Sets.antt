-- What it is to be listed among the maximal complementing sets, in words; and that the list is in set order and is determined by who is
-- adjacent to whom. Assumes nothing.
use mathlib.Core.Path.{◌≡◌, refl, sym, ◌∙◌, ap, subst}
use mathlib.Core.Bool.{Bool, true, false, not, ◌&&◌, ◌||◌}
use mathlib.Core.Logic.{inl, inr, ⊎_elim, ◌↔◌}
use mathlib.Core.List.{List, [], ◌∷◌, map}
use Prim.Native.Nat.{ℕ, zero, suc, ◌<◌}
use native.Mathlib.Omega.{arith}
use lib.Dec.{eqb}
use lib.ListN.{length, get_or, set}
use lib.Seq.{get_or-set_same, get_or-set_other, ext_get_or}
use borrow.Author.Tests.{eqb-true, eqb-false, ne_eqb, not-true, not-false}
use Rattle.definitions.specs.Lists.{all_below}
use Rattle.definitions.specs.ComplementUnion.{contains, compare_set, subsets, adjacent_to_all, is_complementing, is_maximal, maximal_sets}
use Rattle.definitions.specs.Statements.{Member, StrictlyAscending}
use Rattle.definitions.specs.Claims.{Holds, Complementing, Maximal}
use Rattle.std.proofs.lemmas.Bool.{and_from, and_parts, false_from_ne_true, or_cases, or_left, or_right}
use Rattle.definitions.proofs.Bools.{bool_cases, clash}
use Rattle.definitions.proofs.Ascending.{member_split, member-join, determined}
use Rattle.definitions.proofs.Orders.{sets, subsets_rise}
use Rattle.definitions.proofs.Lists.{member-map, map-member, member_filter, filter-member, strict-filter, below_true, below_of, below_false}

-- ---- positions of a set

pub contains-get : (s : List Bool) (k : ℕ) → contains s k ≡ get_or s k false
unfolding contains
contains-get [] k = refl
contains-get (m ∷ s) zero = refl
contains-get (m ∷ s) (suc k) = contains-get s k

-- a set holds positions within its length alone
pub holds_within : (s : List Bool) (k : ℕ) → Holds s k → k < length s
unfolding contains
holds_within [] k h = absurd (clash refl (sym h))
holds_within (m ∷ s) zero h = omega arith
holds_within (m ∷ s) (suc k) h = let i = holds_within s k h in omega arith

-- a set is determined by what it holds
pub marks_ext : (s t : List Bool) → length s ≡ length t → ((k : ℕ) → k < length s → contains s k ≡ contains t k) → s ≡ t
marks_ext s t e f = ext_get_or false s t e (λ k h. sym (contains-get s k) ∙ f k h ∙ contains-get t k)

-- the set with the position i too
abbrev pub adding : List Bool → ℕ → List Bool
adding s i = set s i true

pub adding_same : (s : List Bool) (i : ℕ) → i < length s → Holds (adding s i) i
adding_same s i h = contains-get (adding s i) i ∙ get_or-set_same s i true false h

pub adding_other : (s : List Bool) (i k : ℕ) → (k ≡ i → ⊥) → contains (adding s i) k ≡ contains s k
adding_other s i k h = contains-get (adding s i) k ∙ get_or-set_other s i k true false h ∙ sym (contains-get s k)

pub adding_keeps : (s : List Bool) (i k : ℕ) → i < length s → Holds s k → Holds (adding s i) k
adding_keeps s i k h g =
    bool_cases (eqb k i)
    (λ e. subst (Holds (adding s i)) (sym (eqb-true k i e)) (adding_same s i h))
    (λ e. adding_other s i k (eqb-false k i e) ∙ g)

pub adding_cases : {A : Type 0} (s : List Bool) (i k : ℕ) → Holds (adding s i) k → (Holds s k → A) → (k ≡ i → A) → A
adding_cases s i k h f g =
    bool_cases (eqb k i) (λ e. g (eqb-true k i e)) (λ e. f (sym (adding_other s i k (eqb-false k i e)) ∙ h))

-- ---- all sets of positions below n

subset_size : (n : ℕ) (s : List Bool) → Member s (subsets n) → length s ≡ n
unfolding subsets
subset_size zero s h = ⊎_elim (λ e. ap (λ (l : List Bool). length l) e) (λ r. absurd r) h
subset_size (suc n) s h =
    let of : (m : Bool) → Member s (map (λ (t : List Bool). m ∷ t) (subsets n)) → length s ≡ suc n =
    λ m r. let i = map-member (λ (t : List Bool). m ∷ t) s (subsets n) r in ap (λ (l : List Bool). length l) i.2 ∙ ap suc (subset_size n i.0 i.1) in
    ⊎_elim (of true) (of false) (member_split s (map (λ t. true ∷ t) (subsets n)) (map (λ t. false ∷ t) (subsets n)) h)

sized_subset : (n : ℕ) (s : List Bool) → length s ≡ n → Member s (subsets n)
unfolding subsets
sized_subset zero [] e = inl refl
sized_subset zero (m ∷ s) e = absurd (omega arith)
sized_subset (suc n) [] e = absurd (omega arith)
sized_subset (suc n) (true ∷ s) e =
    member-join (true ∷ s) (map (λ t. true ∷ t) (subsets n)) (map (λ t. false ∷ t) (subsets n))
    (inl (member-map (λ (t : List Bool). true ∷ t) s (subsets n) (sized_subset n s (omega arith))))
sized_subset (suc n) (false ∷ s) e =
    member-join (false ∷ s) (map (λ t. true ∷ t) (subsets n)) (map (λ t. false ∷ t) (subsets n))
    (inr (member-map (λ (t : List Bool). false ∷ t) s (subsets n) (sized_subset n s (omega arith))))

-- ---- what is listed

implies_use : (a b : Bool) → (not a || b) ≡ true → a ≡ true → b ≡ true
implies_use true b e h = e
implies_use false b e h = absurd (clash h refl)

implies_of : (a b : Bool) → (a ≡ true → b ≡ true) → (not a || b) ≡ true
implies_of true b f = f refl
implies_of false b f = refl

implies_no : (a b : Bool) → (not a || b) ≡ false → (a ≡ true) × (b ≡ false)
implies_no true b e = (refl, e)
implies_no false b e = absurd (clash refl e)

module _ (adjacent : ℕ → ℕ → Bool) (n : ℕ) where
  -- the position j is adjacent to every member, or some member is not adjacent to it
  pub adjacent-all : (s : List Bool) (j : ℕ) → length s ≡ n → adjacent_to_all adjacent n s j ≡ true → (k : ℕ) → Holds s k → adjacent j k ≡ true
  unfolding adjacent_to_all
  adjacent-all s j e h k g =
      implies_use (contains s k) (adjacent j k) (below_true (λ k. not (contains s k) || adjacent j k) n h k (rw (← e) (holds_within s k g))) g

  pub adjacent_some_not : (s : List Bool) (j : ℕ) → adjacent_to_all adjacent n s j ≡ false → (k : ℕ) × Holds s k × (adjacent j k ≡ false)
  unfolding adjacent_to_all
  adjacent_some_not s j h =
      let i = below_false (λ k. not (contains s k) || adjacent j k) n h in
      let q = implies_no (contains s i.0) (adjacent j i.0) i.2 in
      (i.0, q.0, q.1)

  adjacent-all-not : (s : List Bool) (j k : ℕ) → length s ≡ n → Holds s k → adjacent j k ≡ false → adjacent_to_all adjacent n s j ≡ false
  adjacent-all-not s j k e g h = false_from_ne_true (adjacent_to_all adjacent n s j) (λ q. clash (adjacent-all s j e q k g) h)

  pub complementing_is : (s : List Bool) → length s ≡ n → (is_complementing adjacent n s ≡ true) ↔ Complementing adjacent n s
  unfolding is_complementing
  complementing_is s e = (to, from)
    where
      none : Bool
      none = all_below n (λ k. not (contains s k))

      pair : ℕ → ℕ → Bool
      pair j k = not (contains s j && contains s k && not (eqb j k)) || adjacent j k

      to : is_complementing adjacent n s ≡ true → Complementing adjacent n s
      to h = record {
        size = e;
        some =
            let i = below_false (λ k. not (contains s k)) n (not-true none (and_parts (not none) (all_below n (λ j. all_below n (pair j))) h).0) in
            (i.0, not-false (contains s i.0) i.2);
        pairwise = λ j k hj hk d.
            implies_use (contains s j && contains s k && not (eqb j k)) (adjacent j k)
            (below_true (pair j) n
            (below_true (λ j. all_below n (pair j)) n (and_parts (not none) (all_below n (λ j. all_below n (pair j))) h).1 j (rw (← e) (holds_within s j hj)))
            k (rw (← e) (holds_within s k hk)))
            (and_from _ _ (and_from _ _ hj hk) (ap not (ne_eqb j k d)));
      }

      from : Complementing adjacent n s → is_complementing adjacent n s ≡ true
      from c =
          and_from _ _
          (bool_cases none
          (λ h. absurd (clash (below_true (λ k. not (contains s k)) n h c.some.0 (rw (← e) (holds_within s c.some.0 c.some.1))) (ap not c.some.1)))
          (λ h. ap not h))
          (below_of (λ j. all_below n (pair j)) n (λ j hj. below_of (pair j) n (λ k hk.
          implies_of (contains s j && contains s k && not (eqb j k)) (adjacent j k) (λ h.
          let both = (and_parts (contains s j && contains s k) (not (eqb j k)) h).0 in
          c.pairwise j k (and_parts (contains s j) (contains s k) both).0 (and_parts (contains s j) (contains s k) both).1
          (eqb-false j k (not-true (eqb j k) (and_parts (contains s j && contains s k) (not (eqb j k)) h).1))))))

  outside_is : (s : List Bool) → length s ≡ n → (is_maximal adjacent n s ≡ true) ↔ ((j : ℕ) → j < n → contains s j ≡ false → (k : ℕ) × Holds s k × (adjacent j k ≡ false))
  unfolding is_maximal
  outside_is s e = (
    λ h j lt out. adjacent_some_not s j (not-true (adjacent_to_all adjacent n s j)
        (⊎_elim (λ q. absurd (clash q out)) (λ q. q) (or_cases (contains s j) (not (adjacent_to_all adjacent n s j)) (below_true (λ j. contains s j || not (adjacent_to_all adjacent n s j)) n h j lt)))),
    λ f. below_of (λ j. contains s j || not (adjacent_to_all adjacent n s j)) n (λ j lt.
        bool_cases (contains s j) (λ q. or_left (contains s j) (not (adjacent_to_all adjacent n s j)) q)
        (λ q. let i = f j lt q in or_right (contains s j) (not (adjacent_to_all adjacent n s j)) (ap not (adjacent-all-not s j i.0 e i.1 i.2)))),
  )

  -- a set is listed exactly if it is a maximal complementing set
  pub listed_is : (s : List Bool) → Member s (maximal_sets adjacent n) ↔ Maximal adjacent n s
  unfolding maximal_sets
  listed_is s = (
    λ h.
        let i = filter-member (λ s. is_complementing adjacent n s && is_maximal adjacent n s) s (subsets n) h in
        let e = subset_size n s i.0 in
        record {
          complementing = (complementing_is s e).0 (and_parts (is_complementing adjacent n s) (is_maximal adjacent n s) i.1).0;
          outside = (outside_is s e).0 (and_parts (is_complementing adjacent n s) (is_maximal adjacent n s) i.1).1;
        },
    λ m.
        let e = m.complementing.size in
        member_filter (λ s. is_complementing adjacent n s && is_maximal adjacent n s) s (subsets n) (sized_subset n s e)
        (and_from _ _ ((complementing_is s e).1 m.complementing) ((outside_is s e).1 m.outside)),
  )

  -- each listed set stands there once, in set order
  pub listed_rise : StrictlyAscending compare_set (maximal_sets adjacent n)
  unfolding maximal_sets
  listed_rise = strict-filter (λ s. is_complementing adjacent n s && is_maximal adjacent n s) compare_set (subsets n) (subsets_rise n)

-- ---- the list depends on who is adjacent to whom, below n, alone

maximal_ext : (adjacent other : ℕ → ℕ → Bool) (n : ℕ) → ((j k : ℕ) → j < n → k < n → adjacent j k ≡ other j k) → (s : List Bool) → Maximal adjacent n s → Maximal other n s
maximal_ext adjacent other n f s m =
    let e = m.complementing.size in
    let below : (k : ℕ) → Holds s k → k < n = λ k h. rw (← e) (holds_within s k h) in
    record {
      complementing = record {
        size = e;
        some = m.complementing.some;
        pairwise = λ j k hj hk d. sym (f j k (below j hj) (below k hk)) ∙ m.complementing.pairwise j k hj hk d;
      };
      outside = λ j h out. let i = m.outside j h out in (i.0, i.1, sym (f j i.0 h (below i.0 i.1)) ∙ i.2);
    }

pub listed_ext : (adjacent other : ℕ → ℕ → Bool) (n : ℕ) → ((j k : ℕ) → j < n → k < n → adjacent j k ≡ other j k) → maximal_sets adjacent n ≡ maximal_sets other n
listed_ext adjacent other n f =
    determined sets (maximal_sets adjacent n) (maximal_sets other n) (listed_rise adjacent n) (listed_rise other n)
    (λ s h. (listed_is other n s).1 (maximal_ext adjacent other n f s ((listed_is adjacent n s).0 h)))
    (λ s h. (listed_is adjacent n s).1 (maximal_ext other adjacent n (λ j k p q. sym (f j k p q)) s ((listed_is other n s).0 h)))
