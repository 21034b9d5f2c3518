-- A row whose cells are written at the indices of its ids, over empty cells, stands there widened; and so distinct ids are put in order.
-- Assumes nothing.
use mathlib.Core.Path.{◌≡◌, refl, sym, ◌∙◌, ap, ap₂, subst}
use mathlib.Core.Bool.{true}
use mathlib.Core.Logic.{◌⊎◌, inl, inr, ⊎_elim}
use mathlib.Core.List.{List, [], ◌∷◌, map}
use Prim.Native.Nat.{ℕ, zero, suc, ◌+◌, ◌<◌, ◌≤◌}
use native.Mathlib.Omega.{arith}
use lib.Dec.{eqb}
use lib.ListN.{length, get_or, set, replicate, take, drop, length-set, length-map, get_or-map}
use lib.Seq.{get_or-set_same, get_or-set_other, ext_get_or, length-take-le, take-set-lt}
use borrow.Author.Tests.{eqb-true, eqb-false, eq-eqb}
use Rattle.std.proofs.lemmas.List.{get_or-map as map_at, drop_more, drop_all}
use Rattle.definitions.specs.Lists.{any, distinct}
use Rattle.definitions.specs.Ascending.{ascending}
use Rattle.definitions.specs.OuterUnion.{compare_word, cell_in, widened}
use Rattle.definitions.specs.Statements.{Member, StrictlyAscending}
use Rattle.definitions.proofs.Bools.{bool_cases, clash}
use Rattle.definitions.proofs.Ascending.{is_strict, ascending_only, ascending-has}
use Rattle.definitions.proofs.Orders.{words}
use Rattle.definitions.proofs.Lists.{member-get, member_at, member-map, map-member, map_ext, any_of}
use Rattle.definitions.proofs.Widened.{cell_own, widened_own, widened_lacking}
use Rattle.tables.specs.UnionIds.{smaller_than, indices_in, scattered}
use Rattle.tables.proofs.Smaller.{smaller_index, smaller_member, smaller_ascending, distinct_count, known_member}

-- ---- the loop: j cells are written

pub record Scattering (cells₀ indices row : List ℕ) (j : ℕ) (cells : List ℕ) : Type 0 where
  pub size : length cells ≡ length cells₀
  pub rest : scattered cells₀ indices row ≡ scattered cells (drop j indices) (drop j row)

none_left : (cells indices : List ℕ) → scattered cells indices [] ≡ cells
unfolding scattered
none_left cells [] = refl
none_left cells (p ∷ indices) = refl

module _ (cells₀ indices row : List ℕ) where
  pub scatter_turn : (j d p v : ℕ) (cells : List ℕ) → Scattering cells₀ indices row j cells → j < length indices → j < length row
      → p ≡ get_or indices j d → v ≡ get_or row j 0 → Scattering cells₀ indices row (j + 1) (set cells p v)
  unfolding scattered
  scatter_turn j d p v cells s h g ep ev = record {
    size = length-set cells p v ∙ s.size;
    rest = s.rest ∙ ap₂ (scattered cells) (drop_more indices j d h) (drop_more row j 0 g)
        ∙ ap₂ (λ (k x : ℕ). scattered (set cells k x) (drop (j + 1) indices) (drop (j + 1) row)) (sym ep) (sym ev);
  }

  pub scatter_all : (j : ℕ) (cells : List ℕ) → Scattering cells₀ indices row j cells → length row ≤ j → cells ≡ scattered cells₀ indices row
  scatter_all j cells s h =
      sym (s.rest ∙ ap (scattered cells (drop j indices)) (drop_all j row h) ∙ none_left cells (drop j indices))

-- ---- what stands in the cells afterwards

scatter_size : (indices row cells : List ℕ) → length (scattered cells indices row) ≡ length cells
unfolding scattered
scatter_size [] row cells = refl
scatter_size (p ∷ indices) [] cells = refl
scatter_size (p ∷ indices) (v ∷ row) cells = scatter_size indices row (set cells p v) ∙ length-set cells p v

-- where each cell is written as it is to be, what was right already, or is written, is right
scatter_tells : (d : ℕ) (goal indices row cells : List ℕ) → length row ≡ length indices
    → ((j : ℕ) → j < length indices → (get_or indices j d < length cells) × (get_or row j 0 ≡ get_or goal (get_or indices j d) 0))
    → (i : ℕ) → (get_or cells i 0 ≡ get_or goal i 0) ⊎ Member i indices → get_or (scattered cells indices row) i 0 ≡ get_or goal i 0
unfolding scattered
scatter_tells d goal [] row cells e f i h = ⊎_elim (λ q. q) (λ q. absurd q) h
scatter_tells d goal (p ∷ indices) [] cells e f i h = absurd (omega arith)
scatter_tells d goal (p ∷ indices) (v ∷ row) cells e f i h =
    let g = f 0 (omega arith) in
    scatter_tells d goal indices row (set cells p v) (omega arith)
    (λ j k. let q = f (suc j) (omega arith) in (omega (arith, q.0, length-set cells p v), q.1)) i
    (bool_cases (eqb i p)
    (λ b. let u = eqb-true i p b in
    inl (ap (λ (k : ℕ). get_or (set cells p v) k 0) u ∙ get_or-set_same cells p v 0 g.0 ∙ g.1 ∙ ap (λ (k : ℕ). get_or goal k 0) (sym u)))
    (λ b. let u = eqb-false i p b in
    ⊎_elim (λ q. inl (get_or-set_other cells p i v 0 u ∙ q)) (λ q. ⊎_elim (λ r. absurd (u r)) (λ r. inr r) q) h))

-- where all is written at the front, the front alone is written
take_scattered : (n : ℕ) (indices row cells : List ℕ) → ((p : ℕ) → Member p indices → p < n) → take n (scattered cells indices row) ≡ scattered (take n cells) indices row
unfolding scattered
take_scattered n [] row cells f = refl
take_scattered n (p ∷ indices) [] cells f = refl
take_scattered n (p ∷ indices) (v ∷ row) cells f =
    take_scattered n indices row (set cells p v) (λ q m. f q (inr m))
    ∙ ap (λ (l : List ℕ). scattered l indices row) (take-set-lt n cells p v (f p (inl refl)))

-- ---- a row at the indices of its ids in a union is a widened row

pub empty_cells : (n k : ℕ) → ◌≡◌ {A = ℕ} (get_or (replicate n 0) k 0) 0
empty_cells zero k = refl
empty_cells (suc n) zero = refl
empty_cells (suc n) (suc k) = empty_cells n k

pub take_empty : (n : ℕ) (l : List ℕ) → ((k : ℕ) → get_or l k 0 ≡ 0) → (k : ℕ) → get_or (take n l) k 0 ≡ 0
take_empty zero l f k = refl
take_empty (suc n) [] f k = refl
take_empty (suc n) (x ∷ l) f zero = f 0
take_empty (suc n) (x ∷ l) f (suc k) = take_empty n l (λ j. f (suc j)) k

pub widened-length : (union ids row : List ℕ) → length (widened union ids row) ≡ length union
unfolding widened
widened-length union ids row = length-map union (cell_in ids row)

module _ (union ids row cells : List ℕ) (strict : StrictlyAscending compare_word union) (differ : distinct eqb ids ≡ true)
    (has : (id : ℕ) → Member id ids → Member id union) (even : length row ≡ length ids) (fits : length cells ≡ length union)
    (empty : (k : ℕ) → get_or cells k 0 ≡ 0) where
  abbrev goal : List ℕ
  goal = widened union ids row

  index_holds : (j : ℕ) → j < length ids
      → (get_or (indices_in union ids) j (smaller_than 0 union) < length cells) × (get_or row j 0 ≡ get_or goal (get_or (indices_in union ids) j (smaller_than 0 union)) 0)
  index_holds j h =
      let s = smaller_member (get_or ids j 0) union strict (has (get_or ids j 0) (member-get 0 ids j h)) in
      let e = get_or-map (λ id. smaller_than id union) ids j 0 in
      let k = smaller_than (get_or ids j 0) union in (
        omega (arith, s.0),
        sym (ap (λ (i : ℕ). get_or goal i 0) e ∙ widened_own union ids row differ k j s.0 h s.1),
      )

  within : (k : ℕ) → k < length union → (get_or cells k 0 ≡ get_or goal k 0) ⊎ Member k (indices_in union ids)
  within k h =
      let u = get_or union k 0 in
      bool_cases (any (eqb u) ids)
      (λ b. inr (subst (λ (p : ℕ). Member p (indices_in union ids)) (smaller_index union k strict h)
      (member-map (λ id. smaller_than id union) u ids (known_member u ids b))))
      (λ b. inl (empty k ∙ sym (widened_lacking union ids row even k h (λ s. clash (any_of (eqb u) u ids s (eq-eqb u u refl)) b))))

  pub scatter_widened : scattered cells (indices_in union ids) row ≡ goal
  scatter_widened =
      let size : length goal ≡ length cells = widened-length union ids row ∙ sym fits in
      let count : length (indices_in union ids) ≡ length ids = length-map ids (λ id. smaller_than id union) in
      let sized = scatter_size (indices_in union ids) row cells in
      ext_get_or 0 (scattered cells (indices_in union ids) row) goal (sized ∙ sym size)
      (λ i h. scatter_tells (smaller_than 0 union) goal (indices_in union ids) row cells (even ∙ sym count) (λ j g. index_holds j (omega arith)) i
      (within i (omega arith)))

-- an index of an id is within the union
pub indices_within : (union ids : List ℕ) → StrictlyAscending compare_word union → ((id : ℕ) → Member id ids → Member id union) → (p : ℕ) → Member p (indices_in union ids) → p < length union
indices_within union ids strict has p h =
    let m = map-member (λ id. smaller_than id union) p ids h in
    let s = smaller_member m.0 union strict (has m.0 m.1) in
    omega (arith, s.0, m.2)

-- indices are counted in distinct ids as they are among the ids in order
pub indices_ordered : (all ids : List ℕ) → distinct eqb all ≡ true → indices_in all ids ≡ indices_in (ascending compare_word all) ids
indices_ordered all ids differ =
    map_ext (λ id. smaller_than id all) (λ id. smaller_than id (ascending compare_word all)) ids (λ id s. sym (smaller_ascending id all differ))

-- ---- distinct ids, each with what f tells of it written at the count of smaller ones, are in order

-- in a list that has no other cell
module _ (f : ℕ → ℕ) (all cells : List ℕ) (differ : distinct eqb all ≡ true) (room : length cells ≡ length all)
    (empty : (k : ℕ) → get_or cells k 0 ≡ 0) where
  abbrev sorted : List ℕ
  sorted = ascending compare_word all

  sorted_values : widened sorted all (map f all) ≡ map f sorted
  unfolding widened
  sorted_values =
      map_ext (cell_in all (map f all)) f sorted (λ x s.
      let i = member_at 0 x all (ascending_only words x all s) in
      ap (cell_in all (map f all)) (sym i.2) ∙ cell_own sorted all (map f all) differ i.0 i.1 ∙ map_at f all i.0 0 0 i.1 ∙ ap f i.2)

  pub all_values_sorted : scattered cells (indices_in all all) (map f all) ≡ map f sorted
  all_values_sorted =
      ap (λ (l : List ℕ). scattered cells l (map f all)) (indices_ordered all all differ)
      ∙ scatter_widened sorted all (map f all) cells (is_strict words all) differ (λ id s. ascending-has words id all s) (length-map all f)
      (room ∙ sym (distinct_count all differ)) empty
      ∙ sorted_values

-- at the front of a longer list
module _ (f : ℕ → ℕ) (all cells cur : List ℕ) (differ : distinct eqb all ≡ true) (room : length all ≤ length cells)
    (empty : (k : ℕ) → get_or cells k 0 ≡ 0) (written : cur ≡ scattered cells (indices_in all all) (map f all)) where
  index_few : (p : ℕ) → Member p (indices_in all all) → p < length all
  index_few p h =
      let union = ascending compare_word all in
      let within = indices_within union all (is_strict words all) (λ id s. ascending-has words id all s) p (subst (Member p) (indices_ordered all all differ) h) in
      omega (arith, within, distinct_count all differ)

  pub values_sorted : take (length all) cur ≡ map f (ascending compare_word all)
  values_sorted =
      ap (take (length all)) written
      ∙ take_scattered (length all) (indices_in all all) (map f all) cells index_few
      ∙ all_values_sorted f all (take (length all) cells) differ (length-take-le (length all) cells room) (take_empty (length all) cells empty)
