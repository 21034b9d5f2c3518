-- The columns of the union, T and the fused table in words: strictly ascending, with exactly the ids, widened rows or joined rows that
-- they are made of, and determined by that; and how long their rows are. Assumes nothing.
use mathlib.Core.Path.{◌≡◌, sym, ◌∙◌, ap, subst}
use mathlib.Core.Logic.{◌⊎◌, inl, inr, ⊎_elim, ◌↔◌}
use mathlib.Core.List.{List, ◌++◌, map}
use Prim.Native.Nat.{ℕ, ◌+◌, ◌*◌}
use lib.ListN.{length, length-map}
use Rattle.std.specs.declared.cmp.Ordering.{Ordering}
use Rattle.definitions.specs.Image.{image_ids, image_rows}
use Rattle.definitions.specs.Ascending.{ascending}
use Rattle.definitions.specs.OuterUnion.{compare_word, compare_row, union_ids, union_columns, cell_in, widened, widened_rows, union_rows}
use Rattle.definitions.specs.MinimumUnion.{minimum_rows}
use Rattle.definitions.specs.ComplementUnion.{complement_at, joined, union_sets, fused_rows}
use Rattle.definitions.specs.Calls.{outer_image, minimum_image, fused_image}
use Rattle.definitions.specs.Statements.{Member, Orders, StrictlyAscending}
use Rattle.definitions.specs.Claims.{WidenedOf, JoinedOf}
use Rattle.definitions.proofs.Ascending.{member_split, member-join, is_strict, ascending-has, ascending_only, determined}
use Rattle.definitions.proofs.Orders.{words, rows}
use Rattle.definitions.proofs.Lists.{member-map, map-member}
use Rattle.definitions.proofs.Sets.{listed_is}
use Rattle.definitions.proofs.Joined.{joined_length}
use Rattle.definitions.proofs.Minimum.{minimum_is}
use Rattle.definitions.proofs.Counts.{image_length_lem}

-- ---- over any order

module _ {A : Type 0} {compare : A → A → Ordering} (laws : Orders compare) where
  -- no other strictly ascending list has these elements
  pub ascending_alone : (l t : List A) → StrictlyAscending compare t → ((x : A) → Member x t ↔ Member x l) → t ≡ ascending compare l
  ascending_alone l t h f =
      determined laws t (ascending compare l) h (is_strict laws l)
      (λ x k. ascending-has laws x l ((f x).0 k)) (λ x k. (f x).1 (ascending_only laws x l k))

  pub both_are : (l m : List A) (x : A) → Member x (ascending compare (l ++ m)) ↔ (Member x l ⊎ Member x m)
  both_are l m x = (
    λ h. member_split x l m (ascending_only laws x (l ++ m) h),
    λ h. ascending-has laws x (l ++ m) (member-join x l m h),
  )

  both_alone : (l m t : List A) → StrictlyAscending compare t → ((x : A) → Member x t ↔ (Member x l ⊎ Member x m)) → t ≡ ascending compare (l ++ m)
  both_alone l m t h f =
      ascending_alone (l ++ m) t h (λ x. (λ k. member-join x l m ((f x).0 k), λ k. (f x).1 (member_split x l m k)))

module _ (a b : List ℕ) where
  -- ---- "Its columns are the ids of both tables, ascending, each once."

  pub ids_rise : StrictlyAscending compare_word (union_ids a b)
  unfolding union_ids
  ids_rise = is_strict words (image_ids a ++ image_ids b)

  pub ids_are : (id : ℕ) → Member id (union_ids a b) ↔ (Member id (image_ids a) ⊎ Member id (image_ids b))
  unfolding union_ids
  ids_are id = both_are words (image_ids a) (image_ids b) id

  pub ids_alone : (t : List ℕ) → StrictlyAscending compare_word t → ((id : ℕ) → Member id t ↔ (Member id (image_ids a) ⊎ Member id (image_ids b))) → t ≡ union_ids a b
  unfolding union_ids
  ids_alone t h f = both_alone words (image_ids a) (image_ids b) t h f

  -- ---- "T is the list of distinct rows, ascending"

  widened_are : (image r : List ℕ) → Member r (widened_rows (union_ids a b) image) ↔ WidenedOf a b image r
  unfolding widened_rows
  widened_are image r = (
    map-member (widened (union_ids a b) (image_ids image)) r (image_rows image),
    λ i. subst (λ (x : List ℕ). Member x (map (widened (union_ids a b) (image_ids image)) (image_rows image))) (sym i.2)
        (member-map (widened (union_ids a b) (image_ids image)) i.0 (image_rows image) i.1),
  )

  pub rows_rise : StrictlyAscending compare_row (union_rows a b)
  unfolding union_rows
  rows_rise = is_strict rows (widened_rows (union_ids a b) a ++ widened_rows (union_ids a b) b)

  pub rows_are : (r : List ℕ) → Member r (union_rows a b) ↔ (WidenedOf a b a r ⊎ WidenedOf a b b r)
  unfolding union_rows
  rows_are r = (
    λ h. ⊎_elim (λ p. inl ((widened_are a r).0 p)) (λ p. inr ((widened_are b r).0 p)) ((both_are rows (widened_rows (union_ids a b) a) (widened_rows (union_ids a b) b) r).0 h),
    λ h. (both_are rows (widened_rows (union_ids a b) a) (widened_rows (union_ids a b) b) r).1
        (⊎_elim (λ p. inl ((widened_are a r).1 p)) (λ p. inr ((widened_are b r).1 p)) h),
  )

  pub rows_alone : (t : List (List ℕ)) → StrictlyAscending compare_row t → ((r : List ℕ) → Member r t ↔ (WidenedOf a b a r ⊎ WidenedOf a b b r)) → t ≡ union_rows a b
  rows_alone t h f =
      determined rows t (union_rows a b) h rows_rise (λ r k. (rows_are r).1 ((f r).0 k)) (λ r k. (f r).1 ((rows_are r).0 k))

  -- the union has a column word for each id
  pub columns_count : length (union_columns a b) ≡ length (union_ids a b)
  unfolding union_columns
  columns_count = length-map (union_ids a b) _

  widened-length : (image r : List ℕ) → WidenedOf a b image r → length r ≡ length (union_columns a b)
  unfolding widened
  widened-length image r i =
      ap (λ (l : List ℕ). length l) i.2 ∙ length-map (union_ids a b) (cell_in (image_ids image) i.0) ∙ sym columns_count

  -- every row of T has a cell for each column of the union
  pub rows_even : (r : List ℕ) → Member r (union_rows a b) → length r ≡ length (union_columns a b)
  rows_even r h = ⊎_elim (widened-length a r) (widened-length b r) ((rows_are r).0 h)

  pub minimum_even : (r : List ℕ) → Member r (minimum_rows (union_rows a b)) → length r ≡ length (union_columns a b)
  minimum_even r h = rows_even r ((minimum_is (union_rows a b) r).0 h).0

-- ---- "The fused table holds the distinct joined rows, ascending."

module _ (columns : List ℕ) (t : List (List ℕ)) where
  pub fused_rise : StrictlyAscending compare_row (fused_rows columns t)
  unfolding fused_rows
  fused_rise = is_strict rows (map (joined t) (union_sets columns t))

  pub fused_are : (r : List ℕ) → Member r (fused_rows columns t) ↔ JoinedOf columns t r
  unfolding fused_rows
  fused_are r = (
    λ h. map-member (joined t) r (union_sets columns t) (ascending_only rows r (map (joined t) (union_sets columns t)) h),
    λ i. ascending-has rows r (map (joined t) (union_sets columns t))
        (subst (λ (x : List ℕ). Member x (map (joined t) (union_sets columns t))) (sym i.2) (member-map (joined t) i.0 (union_sets columns t) i.1)),
  )

  pub fused_alone : (f : List (List ℕ)) → StrictlyAscending compare_row f → ((r : List ℕ) → Member r f ↔ JoinedOf columns t r) → f ≡ fused_rows columns t
  fused_alone f h g =
      determined rows f (fused_rows columns t) h fused_rise (λ r k. (fused_are r).1 ((g r).0 k)) (λ r k. (g r).1 ((fused_are r).0 k))

  -- fused rows are as long as the rows that they are joined of
  pub fused_even : (n : ℕ) → ((r : List ℕ) → Member r t → length r ≡ n) → (r : List ℕ) → Member r (fused_rows columns t) → length r ≡ n
  unfolding union_sets
  fused_even n f r h =
      let i = (fused_are r).0 h in
      let c = ((listed_is (complement_at columns t) (length t) i.0).0 i.1).complementing in
      ap (λ (l : List ℕ). length l) i.2 ∙ joined_length t n f i.0 c.size c.some.0 c.some.1

-- ---- the words of the results

module _ (a b : List ℕ) where
  abbrev columns : List ℕ
  columns = union_columns a b

  pub outer_length : length (outer_image a b) ≡ 1 + length columns + length (union_rows a b) * length columns
  unfolding outer_image
  outer_length = image_length_lem columns (union_rows a b) (rows_even a b)

  pub minimum_length : length (minimum_image a b) ≡ 1 + length columns + length (minimum_rows (union_rows a b)) * length columns
  unfolding minimum_image
  minimum_length = image_length_lem columns (minimum_rows (union_rows a b)) (minimum_even a b)

  pub fused_length : length (fused_image a b) ≡ 1 + length columns + length (fused_rows columns (union_rows a b)) * length columns
  unfolding fused_image
  fused_length =
      image_length_lem columns (fused_rows columns (union_rows a b)) (fused_even columns (union_rows a b) (length columns) (rows_even a b))
