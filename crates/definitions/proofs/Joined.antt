-- The joined row of a set, column by column; and that it covers each member where the members agree pairwise. Assumes nothing.
use mathlib.Core.Path.{◌≡◌, refl, sym, ◌∙◌, ap, ap₂, subst}
use mathlib.Core.Bool.{Bool, true, cond}
use mathlib.Core.Logic.{◌⊎◌, inl, inr, ⊎_elim, ◌↔◌}
use mathlib.Core.List.{List, [], ◌∷◌}
use Prim.Native.Nat.{ℕ, zero, suc, ◌<◌}
use native.Mathlib.Nat.{le_of_suc-le-suc, not-suc-le-zero}
use native.Mathlib.Omega.{arith}
use lib.Dec.{eqb}
use lib.ListN.{length, get_or}
use borrow.Author.Tests.{eqb-true, eqb-false}
use Rattle.definitions.specs.Word.{is_filled}
use Rattle.definitions.specs.MinimumUnion.{covers, subsumes}
use Rattle.definitions.specs.ComplementUnion.{agree, complement, complement_at, contains, members, join, join_all, joined}
use Rattle.definitions.specs.Statements.{Member}
use Rattle.definitions.specs.Claims.{Filled, CellAgrees, Holds, Complementing, MemberAt}
use Rattle.definitions.proofs.Bools.{bool_cases, clash}
use Rattle.definitions.proofs.Lists.{member-get}
use Rattle.definitions.proofs.Rows.{filled_cell, empty_cell, cell_filled, cell_empty, agree_at, agree_of, covers_of}
use Rattle.definitions.proofs.Subsumption.{covers_cases}
use Rattle.definitions.proofs.Complementing.{complement_is}
use Rattle.definitions.proofs.Sets.{holds_within}

-- ---- the joined row of a list of rows

join_at : (s t : List ℕ) (k : ℕ) → get_or (join s t) k 0 ≡ cond (is_filled (get_or s k 0)) (get_or s k 0) (get_or t k 0)
unfolding join
join_at [] t k = refl
join_at (x ∷ s) [] k =
    bool_cases (is_filled (get_or (x ∷ s) k 0)) (λ e. rw e) (λ e. rw e (empty_cell (get_or (x ∷ s) k 0) e))
join_at (x ∷ s) (y ∷ t) zero = refl
join_at (x ∷ s) (y ∷ t) (suc k) = join_at s t k

join-filled : (s t : List ℕ) (k : ℕ) → Filled (get_or s k 0) → get_or (join s t) k 0 ≡ get_or s k 0
join-filled s t k h = join_at s t k ∙ ap (λ (b : Bool). cond b (get_or s k 0) (get_or t k 0)) (cell_filled (get_or s k 0) h)

join_empty : (s t : List ℕ) (k : ℕ) → get_or s k 0 ≡ 0 → get_or (join s t) k 0 ≡ get_or t k 0
join_empty s t k h = join_at s t k ∙ ap (λ (b : Bool). cond b (get_or s k 0) (get_or t k 0)) (cell_empty (get_or s k 0) h)

-- "in each column, the number that some member has there, or empty": filled, it is a member's
pub join_some : (l : List (List ℕ)) (k : ℕ) → Filled (get_or (join_all l) k 0) → (r : List ℕ) × Member r l × (get_or (join_all l) k 0 ≡ get_or r k 0)
unfolding join_all
join_some [] k h = absurd (h refl)
join_some (r ∷ l) k h =
    bool_cases (is_filled (get_or r k 0))
    (λ e. (r, inl refl, join-filled r (join_all l) k (filled_cell (get_or r k 0) e)))
    (λ e.
    let q = join_empty r (join_all l) k (empty_cell (get_or r k 0) e) in
    let i = join_some l k (λ z. h (q ∙ z)) in
    (i.0, inr i.1, q ∙ i.2))

-- empty, all members are empty there
join_none : (l : List (List ℕ)) (k : ℕ) → get_or (join_all l) k 0 ≡ 0 → (r : List ℕ) → Member r l → get_or r k 0 ≡ 0
unfolding join_all
join_none [] k e r h = absurd h
join_none (s ∷ l) k e r h =
    bool_cases (is_filled (get_or s k 0))
    (λ f. let g = filled_cell (get_or s k 0) f in absurd (g (sym (join-filled s (join_all l) k g) ∙ e)))
    (λ f.
    let z = empty_cell (get_or s k 0) f in
    ⊎_elim (λ q. ap (λ (u : List ℕ). get_or u k 0) q ∙ z) (λ q. join_none l k (sym (join_empty s (join_all l) k z) ∙ e) r q) h)

pub join_empty_is : (l : List (List ℕ)) (k : ℕ) → (get_or (join_all l) k 0 ≡ 0) ↔ ((r : List ℕ) → Member r l → get_or r k 0 ≡ 0)
join_empty_is l k = (
  join_none l k,
  λ f. bool_cases (is_filled (get_or (join_all l) k 0))
      (λ e. let g = filled_cell (get_or (join_all l) k 0) e in let i = join_some l k g in absurd (g (i.2 ∙ f i.0 i.1)))
      (empty_cell (get_or (join_all l) k 0)),
)

-- two filled cells that agree are equal
pub filled-agree : (x y : ℕ) → Filled x → Filled y → CellAgrees x y → x ≡ y
filled-agree x y h k a = ⊎_elim (λ e. e) (λ r. ⊎_elim (λ e. absurd (h e)) (λ e. absurd (k e)) r) a

-- where the members agree pairwise, the joined row has each member's filled cells
pub join-covers : (l : List (List ℕ)) → ((r t : List ℕ) → Member r l → Member t l → agree r t ≡ true) → (r : List ℕ) → Member r l → covers (join_all l) r ≡ true
join-covers l f r h =
    covers_of (join_all l) r (λ k.
    bool_cases (is_filled (get_or r k 0))
    (λ e.
    let g = filled_cell (get_or r k 0) e in
    let full : Filled (get_or (join_all l) k 0) = λ z. g (join_none l k z r h) in
    let i = join_some l k full in
    inr (i.2 ∙ filled-agree (get_or i.0 k 0) (get_or r k 0) (λ z. full (i.2 ∙ z)) g (agree_at i.0 r (f i.0 r i.1 h) k)))
    (λ e. inl (empty_cell (get_or r k 0) e)))

-- ---- its length

join-length : (c : ℕ) (s t : List ℕ) → length s ≡ c → (length t ≡ c) ⊎ (t ≡ []) → length (join s t) ≡ c
unfolding join
join-length c [] t e h = ⊎_elim (λ q. q) (λ q. ap (λ (l : List ℕ). length l) q ∙ e) h
join-length c (x ∷ s) [] e h = e
join-length zero (x ∷ s) (y ∷ t) e h = absurd (omega arith)
join-length (suc c) (x ∷ s) (y ∷ t) e h =
    ap suc (join-length c s t (omega arith) (⊎_elim (λ q. inl (omega arith)) (λ q. absurd (let z = ap (λ (l : List ℕ). length l) q in omega arith)) h))

join_all-length : (c : ℕ) (l : List (List ℕ)) → ((r : List ℕ) → Member r l → length r ≡ c) → (length (join_all l) ≡ c) ⊎ (join_all l ≡ [])
unfolding join_all
join_all-length c [] f = inr refl
join_all-length c (r ∷ l) f = inl (join-length c r (join_all l) (f r (inl refl)) (join_all-length c l (λ t h. f t (inr h))))

-- the joined row of some equally long rows is as long
pub join_some_length : (c : ℕ) (l : List (List ℕ)) → ((r : List ℕ) → Member r l → length r ≡ c) → (r : List ℕ) → Member r l → length (join_all l) ≡ c
unfolding join_all
join_some_length c [] f r h = absurd h
join_some_length c (s ∷ l) f r h = join-length c s (join_all l) (f s (inl refl)) (join_all-length c l (λ t k. f t (inr k)))

-- ---- the members of a set

members_at : (rows : List (List ℕ)) (s : List Bool) (k : ℕ) → k < length rows → Holds s k → Member (get_or rows k []) (members rows s)
unfolding members contains
members_at rows [] k h e = absurd (clash refl (sym e))
members_at [] (m ∷ s) k h e = absurd (not-suc-le-zero h)
members_at (r ∷ rows) (m ∷ s) zero h e = rw e (inl refl)
members_at (r ∷ rows) (m ∷ s) (suc k) h e =
    let i = members_at rows s k (le_of_suc-le-suc h) e in
    bool_cases m (λ q. rw q (inr i)) (λ q. rw q i)

members_from : (rows : List (List ℕ)) (s : List Bool) (r : List ℕ) → Member r (members rows s) → MemberAt rows s r
unfolding members contains
members_from rows [] r h = absurd h
members_from [] (m ∷ s) r h = absurd h
members_from (x ∷ rows) (m ∷ s) r h =
    let later : Member r (members rows s) → MemberAt (x ∷ rows) (m ∷ s) r =
    λ q. let i = members_from rows s r q in (suc i.0, omega (arith, i.1), i.2, i.3) in
    bool_cases m
    (λ e. ⊎_elim (λ q. (0, omega arith, e, q)) later (rw e at h))
    (λ e. later (rw e at h))

pub members_are : (rows : List (List ℕ)) (s : List Bool) (r : List ℕ) → Member r (members rows s) ↔ MemberAt rows s r
members_are rows s r = (
  members_from rows s r,
  λ i. subst (λ (u : List ℕ). Member u (members rows s)) (sym i.3) (members_at rows s i.0 i.1 i.2),
)

members_even : (rows : List (List ℕ)) (n : ℕ) → ((r : List ℕ) → Member r rows → length r ≡ n) → (s : List Bool) (r : List ℕ) → Member r (members rows s) → length r ≡ n
members_even rows n f s r h =
    let i = members_from rows s r h in
    ap (λ (u : List ℕ). length u) i.3 ∙ f (get_or rows i.0 []) (member-get [] rows i.0 i.1)

agree_self : (r : List ℕ) → agree r r ≡ true
agree_self r = agree_of r r (λ k. inl refl)

module _ (columns : List ℕ) (rows : List (List ℕ)) (s : List Bool) (c : Complementing (complement_at columns rows) (length rows) s) where
  -- the members of a complementing set agree
  pub members-agree : (r t : List ℕ) → Member r (members rows s) → Member t (members rows s) → agree r t ≡ true
  members-agree r t h g =
      let i = members_from rows s r h in
      let j = members_from rows s t g in
      bool_cases (eqb i.0 j.0)
      (λ e. subst (λ (u : List ℕ). agree r u ≡ true) (i.3 ∙ ap (λ (k : ℕ). get_or rows k []) (eqb-true i.0 j.0 e) ∙ sym j.3) (agree_self r))
      (λ e.
      let p = c.pairwise i.0 j.0 i.2 j.2 (eqb-false i.0 j.0 e) in
      let q : complement columns r t ≡ true = ap₂ (complement columns) i.3 j.3 ∙ p in
      agree_of r t ((complement_is columns r t).0 q).agreeing)

  -- each member is equal to or subsumed by the joined row
  pub member_covered : (n : ℕ) → ((r : List ℕ) → Member r rows → length r ≡ n) → (r : List ℕ) → Member r (members rows s)
      → (joined rows s ≡ r) ⊎ (subsumes (joined rows s) r ≡ true)
  unfolding joined
  member_covered n f r h =
      let even = members_even rows n f s in
      covers_cases (join_all (members rows s)) r (join_some_length n (members rows s) even r h ∙ sym (even r h))
      (join-covers (members rows s) members-agree r h)

-- "The joined row of a set has, in each column, the number that some member has there, or empty."
module _ (rows : List (List ℕ)) (s : List Bool) (k : ℕ) where
  pub joined_some : Filled (get_or (joined rows s) k 0) → (r : List ℕ) × Member r (members rows s) × (get_or (joined rows s) k 0 ≡ get_or r k 0)
  unfolding joined
  joined_some = join_some (members rows s) k

  pub joined_empty : (get_or (joined rows s) k 0 ≡ 0) ↔ ((r : List ℕ) → Member r (members rows s) → get_or r k 0 ≡ 0)
  unfolding joined
  joined_empty = join_empty_is (members rows s) k

-- in a column, the joined row of a complementing set has a filled word exactly if a member has it there
module _ (columns : List ℕ) (rows : List (List ℕ)) (s : List Bool) (c : Complementing (complement_at columns rows) (length rows) s) where
  pub joined_takes : (k w : ℕ) → Filled w → (get_or (joined rows s) k 0 ≡ w) ↔ ((r : List ℕ) × Member r (members rows s) × (get_or r k 0 ≡ w))
  joined_takes k w filled = (
    λ e. let i = joined_some rows s k (λ z. filled (sym e ∙ z)) in (i.0, i.1, sym i.2 ∙ e),
    λ i.
        let some : Filled (get_or (joined rows s) k 0) = λ z. filled (sym i.2 ∙ (joined_empty rows s k).0 z i.0 i.1) in
        let j = joined_some rows s k some in
        j.2 ∙ filled-agree (get_or j.0 k 0) (get_or i.0 k 0) (λ z. some (j.2 ∙ z)) (λ z. filled (sym i.2 ∙ z))
        (agree_at j.0 i.0 (members-agree columns rows s c j.0 i.0 j.1 i.1) k) ∙ i.2,
  )

-- the joined row of a set that isn't empty is as long as the rows
pub joined_length : (rows : List (List ℕ)) (n : ℕ) → ((r : List ℕ) → Member r rows → length r ≡ n) → (s : List Bool) → length s ≡ length rows
    → (k : ℕ) → Holds s k → length (joined rows s) ≡ n
unfolding joined
joined_length rows n f s e k h =
    join_some_length n (members rows s) (members_even rows n f s) (get_or rows k []) (members_at rows s k (rw (← e) (holds_within s k h)) h)
