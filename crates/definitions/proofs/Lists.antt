-- Laws of the tests, sums and indices over lists: what each says of the elements, and what one more element adds to it. Assumes nothing.
use mathlib.Core.Path.{◌≡◌, refl, sym, ◌∙◌, ap, ap₂, subst}
use mathlib.Core.Bool.{Bool, true, false, cond, not, ◌&&◌, ◌||◌, and-true, or-false, and_assoc, or_assoc}
use mathlib.Core.Logic.{inl, inr, ⊎_elim, ◌↔◌}
use mathlib.Core.List.{List, [], ◌∷◌, ◌++◌, map, flatten, append-nil}
use Prim.Native.Nat.{ℕ, zero, suc, ◌+◌, ◌*◌, ◌<◌, ◌≤◌}
use native.Mathlib.Nat.{le_of_suc-le-suc, not-suc-le-zero, eq-or-lt_of_le, suc-mul}
use native.Mathlib.Numerals.{add-one}
use native.Mathlib.Omega.{arith}
use lib.ListN.{length, get_or, take, drop, take-append-drop}
use lib.Seq.{take-suc}
use borrow.Author.Tests.{not-true}
use Rattle.std.specs.declared.cmp.Ordering.{Ordering}
use Rattle.std.specs.declared.cmp.Ordering.TheVariants.{Less}
use Rattle.definitions.specs.Lists.{all, any, filter, find_index, distinct, all_below, sum_below}
use Rattle.definitions.specs.Statements.{Member, Orders, BeforeAll, StrictlyAscending}
use Rattle.std.proofs.lemmas.Bool.{and_from, and_parts, false_from_ne_true, or_cases, or_left, or_right}
use Rattle.definitions.proofs.Bools.{bool_cases, clash}
use Rattle.definitions.proofs.Ascending.{not_before_self, above_at, strict-get}

-- ---- elements and positions

module _ {A : Type 0} where
  pub member-get : (d : A) (l : List A) (k : ℕ) → k < length l → Member (get_or l k d) l
  member-get d [] k h = absurd (not-suc-le-zero h)
  member-get d (x ∷ l) zero h = inl refl
  member-get d (x ∷ l) (suc k) h = inr (member-get d l k (le_of_suc-le-suc h))

  pub member_at : (d x : A) (l : List A) → Member x l → (k : ℕ) × (k < length l) × (get_or l k d ≡ x)
  member_at d x [] h = absurd h
  member_at d x (y ∷ l) h =
      ⊎_elim (λ e. (0, omega arith, sym e)) (λ r. let i = member_at d x l r in (suc i.0, omega (arith, i.1), i.2)) h

module _ {A B : Type 0} where
  pub member-map : (f : A → B) (x : A) (l : List A) → Member x l → Member (f x) (map f l)
  member-map f x [] h = h
  member-map f x (y ∷ l) h = ⊎_elim (λ e. inl (ap f e)) (λ r. inr (member-map f x l r)) h

  pub map-member : (f : A → B) (y : B) (l : List A) → Member y (map f l) → (x : A) × Member x l × (y ≡ f x)
  map-member f y [] h = absurd h
  map-member f y (x ∷ l) h =
      ⊎_elim (λ e. (x, inl refl, e)) (λ r. let i = map-member f y l r in (i.0, inr i.1, i.2)) h

  pub map_ext : (f g : A → B) (l : List A) → ((x : A) → Member x l → f x ≡ g x) → map f l ≡ map g l
  map_ext f g [] h = refl
  map_ext f g (x ∷ l) h = ap₂ (λ (b : B) (r : List B). b ∷ r) (h x (inl refl)) (map_ext f g l (λ y k. h y (inr k)))

-- ---- every element, some element

-- tests that agree on the elements
pub all_ext : {A : Type 0} (p q : A → Bool) (l : List A) → ((x : A) → Member x l → p x ≡ q x) → all p l ≡ all q l
unfolding all
all_ext p q [] h = refl
all_ext p q (x ∷ l) h = ap₂ (λ (b c : Bool). b && c) (h x (inl refl)) (all_ext p q l (λ y k. h y (inr k)))

module _ {A : Type 0} (p : A → Bool) where
  pub all_true : (l : List A) → all p l ≡ true → (x : A) → Member x l → p x ≡ true
  unfolding all
  all_true [] e x h = absurd h
  all_true (y ∷ l) e x h =
      ⊎_elim (λ q. ap p q ∙ (and_parts (p y) (all p l) e).0) (λ r. all_true l (and_parts (p y) (all p l) e).1 x r) h

  pub all_of : (l : List A) → ((x : A) → Member x l → p x ≡ true) → all p l ≡ true
  unfolding all
  all_of [] f = refl
  all_of (y ∷ l) f = and_from _ _ (f y (inl refl)) (all_of l (λ x h. f x (inr h)))

  pub any_true : (l : List A) → any p l ≡ true → (x : A) × Member x l × (p x ≡ true)
  unfolding any
  any_true [] e = absurd (clash refl (sym e))
  any_true (y ∷ l) e =
      ⊎_elim (λ q. (y, inl refl, q)) (λ q. let i = any_true l q in (i.0, inr i.1, i.2)) (or_cases (p y) (any p l) e)

  pub any_of : (x : A) (l : List A) → Member x l → p x ≡ true → any p l ≡ true
  unfolding any
  any_of x [] h e = absurd h
  any_of x (y ∷ l) h e =
      ⊎_elim (λ q. or_left (p y) (any p l) (ap p (sym q) ∙ e)) (λ r. or_right (p y) (any p l) (any_of x l r e)) h

  pub any_false : (l : List A) → any p l ≡ false → (x : A) → Member x l → p x ≡ false
  any_false l e x h = false_from_ne_true (p x) (λ q. clash (any_of x l h q) e)

  pub any_none : (l : List A) → ((x : A) → Member x l → p x ≡ false) → any p l ≡ false
  any_none l f = false_from_ne_true (any p l) (λ q. let i = any_true l q in clash i.2 (f i.0 i.1))

  pub all_append : (l m : List A) → all p (l ++ m) ≡ (all p l && all p m)
  unfolding all
  all_append [] m = refl
  all_append (x ∷ l) m = ap (λ (b : Bool). p x && b) (all_append l m) ∙ sym (and_assoc (p x) (all p l) (all p m))

  pub all_split : (k : ℕ) (l : List A) → all p l ≡ (all p (take k l) && all p (drop k l))
  all_split k l = ap (all p) (sym (take-append-drop k l)) ∙ all_append (take k l) (drop k l)

  pub all-flatten : (l : List (List A)) → ((r : List A) → Member r l → all p r ≡ true) → all p (flatten l) ≡ true
  unfolding all flatten
  all-flatten [] f = refl
  all-flatten (r ∷ l) f = all_append r (flatten l) ∙ and_from _ _ (f r (inl refl)) (all-flatten l (λ s h. f s (inr h)))

  -- what is read at any index, where what stands past the end passes too
  pub all-get : (d : A) → p d ≡ true → (l : List A) → all p l ≡ true → (k : ℕ) → p (get_or l k d) ≡ true
  unfolding all
  all-get d e [] h k = e
  all-get d e (x ∷ l) h zero = (and_parts (p x) (all p l) h).0
  all-get d e (x ∷ l) h (suc k) = all-get d e l (and_parts (p x) (all p l) h).1 k

  pub any_append : (l m : List A) → any p (l ++ m) ≡ (any p l || any p m)
  unfolding any
  any_append [] m = refl
  any_append (x ∷ l) m = ap (λ (b : Bool). p x || b) (any_append l m) ∙ sym (or_assoc (p x) (any p l) (any p m))

  pub all_snoc : (x : A) (l : List A) → all p (l ++ (x ∷ [])) ≡ (all p l && p x)
  unfolding all
  all_snoc x l = all_append l (x ∷ []) ∙ ap (λ (b : Bool). all p l && b) (and-true (p x))

  pub any_snoc : (x : A) (l : List A) → any p (l ++ (x ∷ [])) ≡ (any p l || p x)
  unfolding any
  any_snoc x l = any_append l (x ∷ []) ∙ ap (λ (b : Bool). any p l || b) (or-false (p x))

  -- one element more
  pub all_next : (d : A) (l : List A) (k : ℕ) → k < length l → all p (take (k + 1) l) ≡ (all p (take k l) && p (get_or l k d))
  all_next d l k h = ap (all p) (rw add-one (take-suc l k d h)) ∙ all_snoc (get_or l k d) (take k l)

  pub any_next : (d : A) (l : List A) (k : ℕ) → k < length l → any p (take (k + 1) l) ≡ (any p (take k l) || p (get_or l k d))
  any_next d l k h = ap (any p) (rw add-one (take-suc l k d h)) ∙ any_snoc (get_or l k d) (take k l)

-- ---- the elements that pass

module _ {A : Type 0} (p : A → Bool) where
  pub member_filter : (x : A) (l : List A) → Member x l → p x ≡ true → Member x (filter p l)
  unfolding filter
  member_filter x [] h e = h
  member_filter x (y ∷ l) h e =
      bool_cases (p y)
      (λ q. rw q (⊎_elim (λ r. inl r) (λ r. inr (member_filter x l r e)) h))
      (λ q. rw q (⊎_elim (λ r. absurd (clash e (ap p r ∙ q))) (λ r. member_filter x l r e) h))

  pub filter-member : (x : A) (l : List A) → Member x (filter p l) → Member x l × (p x ≡ true)
  unfolding filter
  filter-member x [] h = absurd h
  filter-member x (y ∷ l) h =
      bool_cases (p y)
      (λ q. ⊎_elim (λ r. (inl r, ap p r ∙ q)) (λ r. let i = filter-member x l r in (inr i.0, i.1)) (rw q at h))
      (λ q. let i = filter-member x l (rw q at h) in (inr i.0, i.1))

  pub filter-append : (l m : List A) → filter p (l ++ m) ≡ filter p l ++ filter p m
  unfolding filter
  filter-append [] m = refl
  filter-append (x ∷ l) m = bool_cases (p x) (λ e. rw e (ap (λ (r : List A). x ∷ r) (filter-append l m))) (λ e. rw e (filter-append l m))

  pub filter_snoc : (x : A) (l : List A) → filter p (l ++ (x ∷ [])) ≡ filter p l ++ cond (p x) (x ∷ []) []
  unfolding filter
  filter_snoc x l = filter-append l (x ∷ [])

  -- one element more
  pub filter_next : (d : A) (l : List A) (k : ℕ) → k < length l
      → filter p (take (k + 1) l) ≡ filter p (take k l) ++ cond (p (get_or l k d)) (get_or l k d ∷ []) []
  filter_next d l k h = ap (filter p) (rw add-one (take-suc l k d h)) ∙ filter_snoc (get_or l k d) (take k l)

  pub keep_took : (d : A) (l : List A) (k : ℕ) → k < length l → p (get_or l k d) ≡ true
      → filter p (take (k + 1) l) ≡ filter p (take k l) ++ (get_or l k d ∷ [])
  keep_took d l k h e = filter_next d l k h ∙ ap (λ (b : Bool). filter p (take k l) ++ cond b (get_or l k d ∷ []) []) e

  pub filter_left : (d : A) (l : List A) (k : ℕ) → k < length l → p (get_or l k d) ≡ false → filter p (take (k + 1) l) ≡ filter p (take k l)
  filter_left d l k h e =
      filter_next d l k h ∙ ap (λ (b : Bool). filter p (take k l) ++ cond b (get_or l k d ∷ []) []) e ∙ append-nil (filter p (take k l))

  pub filter-length : (l : List A) → length (filter p l) ≤ length l
  unfolding filter
  filter-length [] = omega arith
  filter-length (x ∷ l) = let i = filter-length l in bool_cases (p x) (λ e. rw e (omega arith)) (λ e. rw e (omega arith))

  pub filter-all : (l : List A) → ((x : A) → Member x l → p x ≡ true) → filter p l ≡ l
  unfolding filter
  filter-all [] f = refl
  filter-all (x ∷ l) f = rw (f x (inl refl)) (ap (λ (r : List A). x ∷ r) (filter-all l (λ y h. f y (inr h))))

  module _ (compare : A → A → Ordering) where
    pub above_filter : (a : A) (l : List A) → BeforeAll compare a l → BeforeAll compare a (filter p l)
    unfolding filter
    above_filter a [] h = tt
    above_filter a (x ∷ l) h =
        let i = above_filter a l h.1 in
        bool_cases (p x) (λ e. rw e (h.0, i)) (λ e. rw e i)

    pub strict-filter : (l : List A) → StrictlyAscending compare l → StrictlyAscending compare (filter p l)
    unfolding filter
    strict-filter [] h = tt
    strict-filter (x ∷ l) h =
        let i = strict-filter l h.1 in
        bool_cases (p x) (λ e. rw e (above_filter x l h.0, i)) (λ e. rw e i)

-- ---- the first index that passes

module _ {A : Type 0} (p : A → Bool) where
  pub find_index_found : (x : A) (l : List A) → Member x l → p x ≡ true → find_index p l < length l
  unfolding find_index
  find_index_found x [] h e = absurd h
  find_index_found x (y ∷ l) h e =
      bool_cases (p y) (λ q. rw q (omega arith))
      (λ q. rw q (⊎_elim (λ r. absurd (clash e (ap p r ∙ q))) (λ r. let i = find_index_found x l r e in omega arith) h))

  pub find_index_at : (d : A) (l : List A) → find_index p l < length l → p (get_or l (find_index p l) d) ≡ true
  unfolding find_index
  find_index_at d [] h = absurd (not-suc-le-zero h)
  find_index_at d (x ∷ l) h =
      bool_cases (p x) (λ e. rw e e) (λ e. rw e (find_index_at d l (le_of_suc-le-suc (rw e at h))))

  pub find_index_of : (d : A) (l : List A) (k : ℕ) → k < length l → p (get_or l k d) ≡ true → ((j : ℕ) → j < k → p (get_or l j d) ≡ false)
      → find_index p l ≡ k
  unfolding find_index
  find_index_of d [] k h e f = absurd (not-suc-le-zero h)
  find_index_of d (x ∷ l) zero h e f = rw e
  find_index_of d (x ∷ l) (suc k) h e f =
      rw (f 0 (omega arith)) (ap suc (find_index_of d l k (le_of_suc-le-suc h) e (λ j i. f (suc j) (omega arith))))

  pub find_index_none : (l : List A) → any p l ≡ false → find_index p l ≡ length l
  unfolding find_index any
  find_index_none [] e = refl
  find_index_none (x ∷ l) e =
      bool_cases (p x) (λ q. absurd (clash (or_left (p x) (any p l) q) e))
      (λ q. rw q (ap suc (find_index_none l (false_from_ne_true (any p l) (λ r. clash (or_right (p x) (any p l) r) e)))))

-- of a strictly ascending list, each element has one index: its own
pub find_index-strict : {A : Type 0} {compare : A → A → Ordering} (laws : Orders compare) (same : A → A → Bool) (is : (a b : A) → (same a b ≡ true) ↔ (a ≡ b))
    (d : A) (l : List A) (k : ℕ) → StrictlyAscending compare l → k < length l → find_index (same (get_or l k d)) l ≡ k
find_index-strict {A} {compare} laws same is d l k strict h =
    find_index_of (same (get_or l k d)) d l k h ((is (get_or l k d) (get_or l k d)).1 refl)
    (λ j i. false_from_ne_true (same (get_or l k d) (get_or l j d)) (λ e.
    not_before_self laws (get_or l j d)
    (subst (λ (x : A). compare (get_or l j d) x ≡ Less) ((is (get_or l k d) (get_or l j d)).0 e) (strict-get laws d l j k strict i h))))

-- ---- distinct elements

module _ {A : Type 0} (same : A → A → Bool) (d : A) where
  pub distinct_true : (l : List A) → distinct same l ≡ true → (i j : ℕ) → i < j → j < length l → same (get_or l i d) (get_or l j d) ≡ false
  unfolding distinct
  distinct_true [] e i j h g = absurd (not-suc-le-zero g)
  distinct_true (x ∷ l) e i zero h g = absurd (not-suc-le-zero h)
  distinct_true (x ∷ l) e zero (suc j) h g =
      any_false (same x) l (not-true (any (same x) l) (and_parts (not (any (same x) l)) (distinct same l) e).0) (get_or l j d) (member-get d l j (le_of_suc-le-suc g))
  distinct_true (x ∷ l) e (suc i) (suc j) h g =
      distinct_true l (and_parts (not (any (same x) l)) (distinct same l) e).1 i j (le_of_suc-le-suc h) (le_of_suc-le-suc g)

-- a strictly ascending list
pub distinct-strict : {A : Type 0} {compare : A → A → Ordering} (laws : Orders compare) (same : A → A → Bool)
    → ((a b : A) → same a b ≡ true → a ≡ b) → (l : List A) → StrictlyAscending compare l → distinct same l ≡ true
unfolding distinct
distinct-strict laws same is [] h = refl
distinct-strict {A} {compare} laws same is (x ∷ l) h =
    and_from _ _
    (ap not (any_none (same x) l (λ y k. false_from_ne_true (same x y) (λ e.
    not_before_self laws x (subst (λ (z : A). compare x z ≡ Less) (sym (is x y e)) (above_at laws x y l h.0 k))))))
    (distinct-strict laws same is l h.1)

-- ---- numbers below a bound

-- a < suc b: below, or the same
pub below_cases {ℓ} : {X : Type ℓ} (a b : ℕ) → a < suc b → (a < b → X) → (a ≡ b → X) → X
below_cases a b h f g = ⊎_elim g f (eq-or-lt_of_le (le_of_suc-le-suc h))

module _ (p : ℕ → Bool) where
  pub below_true : (n : ℕ) → all_below n p ≡ true → (k : ℕ) → k < n → p k ≡ true
  unfolding all_below
  below_true zero e k h = absurd (not-suc-le-zero h)
  below_true (suc n) e k h =
      below_cases k n h (λ i. below_true n (and_parts (all_below n p) (p n) e).0 k i) (λ q. ap p q ∙ (and_parts (all_below n p) (p n) e).1)

  pub below_of : (n : ℕ) → ((k : ℕ) → k < n → p k ≡ true) → all_below n p ≡ true
  unfolding all_below
  below_of zero f = refl
  below_of (suc n) f = and_from _ _ (below_of n (λ k h. f k (omega arith))) (f n (omega arith))

  pub below_false : (n : ℕ) → all_below n p ≡ false → (k : ℕ) × (k < n) × (p k ≡ false)
  unfolding all_below
  below_false zero e = absurd (clash refl e)
  below_false (suc n) e =
      bool_cases (all_below n p)
      (λ q. (n, omega arith, sym (ap (λ (b : Bool). b && p n) q) ∙ e))
      (λ q. let i = below_false n q in (i.0, omega (arith, i.1), i.2))

-- n terms of at most b
pub sum_bound : (n b : ℕ) (f : ℕ → ℕ) → ((k : ℕ) → k < n → f k ≤ b) → sum_below n f ≤ n * b
unfolding sum_below
sum_bound zero b f h = omega arith
sum_bound (suc n) b f h =
    let i = sum_bound n b f (λ k g. h k (omega arith)) in
    let j = h n (omega arith) in
    rw suc-mul (omega arith)
