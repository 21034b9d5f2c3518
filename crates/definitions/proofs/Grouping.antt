-- Request A5, three lists in either grouping: both groupings of minimum union make the minimum of all rows of the three tables, with the
-- same column words; and such a result united with itself stays as it is. Assumes nothing.
use mathlib.Core.Path.{◌≡◌, refl, sym, ◌∙◌, ap, ap₂, subst}
use mathlib.Core.Bool.{Bool, true, ◌||◌, or_assoc, or_self}
use mathlib.Core.Logic.{◌⊎◌, inl, inr, ⊎_elim}
use mathlib.Core.List.{List, ◌++◌, map, map-id, append_assoc}
use Prim.Native.Nat.{ℕ}
use lib.Dec.{eqb}
use borrow.Author.Tests.{eqb-true}
use Rattle.definitions.specs.Limits.{max_rows}
use Rattle.definitions.specs.Word.{column_word}
use Rattle.definitions.specs.Image.{column_words, image_ids, image_rows, image_of}
use Rattle.definitions.specs.Ascending.{ascending}
use Rattle.definitions.specs.OuterUnion.{compare_word, compare_row, union_ids, marks, union_column, union_columns, widened, widened_rows, union_rows}
use Rattle.definitions.specs.MinimumUnion.{subsumes, minimum_rows}
use Rattle.definitions.specs.Calls.{Accepted, minimum_image}
use Rattle.definitions.specs.Statements.{Member}
use Rattle.definitions.specs.Claims.{Covered, WidenedOf}
use Rattle.definitions.specs.Grouping.{Associative, Idempotent}
use Rattle.definitions.proofs.Ascending.{member_split, member-join, ascending_left, ascending_right, ascending_twice}
use Rattle.definitions.proofs.Orders.{words, rows}
use Rattle.definitions.proofs.Lists.{member-map, map-member, map_ext, distinct-strict}
use Rattle.definitions.proofs.Subsumption.{covered_covers, covers_cases}
use Rattle.definitions.proofs.Minimum.{minimum_is, minimum_rise, minimum_idempotent, every_row_stays}
use Rattle.definitions.proofs.Reduced.{Reduced, reduced_self, reduced_append, reduced_minimum}
use Rattle.definitions.proofs.Unions.{ids_rise, rows_rise, rows_are, minimum_even, columns_count}
use Rattle.definitions.proofs.Widened.{widened_size, widened_twice, widened_same, widened_covers}
use Rattle.definitions.proofs.Images.{row_size, PartOf, first_part, second_part}
use Rattle.definitions.proofs.MinimumResult.{result_ids, result_rows, result_marks}

-- ---- the rows of a result, widened to further columns

module _ (a b wide : List ℕ) (c : Accepted a b) where
  abbrev ids : List ℕ
  ids = union_ids a b

  abbrev T : List (List ℕ)
  T = union_rows a b

  -- the rows of the minimum union, widened
  abbrev kept : List (List ℕ)
  kept = map (widened wide ids) (minimum_rows T)

  module _ (image : List ℕ) (p : PartOf a b image) where
    -- the rows of one of the two tables, widened
    abbrev part : List (List ℕ)
    part = map (widened wide (image_ids image)) (image_rows image)

    once : (row : List ℕ) → Member row (image_rows image)
        → widened wide ids (widened ids (image_ids image) row) ≡ widened wide (image_ids image) row
    once row h = widened_twice ids (image_ids image) row (row_size max_rows image p.passed row h) p.ids wide

    part_has : (t : List ℕ) → WidenedOf a b image t → Member (widened wide ids t) part
    part_has t i =
        subst (λ (r : List ℕ). Member r part) (sym (ap (widened wide ids) i.2 ∙ once i.0 i.1))
        (member-map (widened wide (image_ids image)) i.0 (image_rows image) i.1)

    -- the row of the minimum union that a row of T is covered by covers it widened too
    part_covered : (r : List ℕ) → Member r part → Covered kept r
    part_covered r h =
        let i = map-member (widened wide (image_ids image)) r (image_rows image) h in
        let t = widened ids (image_ids image) i.0 in
        let s = every_row_stays T t (p.rows t (i.0, i.1, refl)) in
        let above = covered_covers s.0 t s.2 in
        let row : widened wide ids t ≡ r = once i.0 i.1 ∙ sym i.2 in
        let size = widened_size wide ids s.0 ∙ sym (widened_size wide ids t) in (
          widened wide ids s.0,
          member-map (widened wide ids) s.0 (minimum_rows T) s.1,
          subst (λ (x : List ℕ). (widened wide ids s.0 ≡ x) ⊎ (subsumes (widened wide ids s.0) x ≡ true)) row
              (covers_cases (widened wide ids s.0) (widened wide ids t) size (widened_covers wide ids s.0 t above)),
        )

  -- some rows of both tables, so that each of these is equal to or subsumed by one of them
  result_reduced : Reduced (widened_rows wide (minimum_image a b)) (widened_rows wide a ++ widened_rows wide b)
  unfolding widened_rows
  result_reduced =
      let first = part a (first_part a b c) in
      let second = part b (second_part a b c) in
      subst (λ (l : List (List ℕ)). Reduced l (first ++ second)) (sym (ap₂ (λ (l : List ℕ) (m : List (List ℕ)). map (widened wide l) m) (result_ids a b c) (result_rows a b c)))
      (record {
        among = λ r h.
            let i = map-member (widened wide ids) r (minimum_rows T) h in
            let t = (rows_are a b i.0).0 ((minimum_is T i.0).0 i.1).0 in
            let own : Member (widened wide ids i.0) (first ++ second) =
            member-join (widened wide ids i.0) first second
            (⊎_elim (λ w. inl (part_has a (first_part a b c) i.0 w)) (λ w. inr (part_has b (second_part a b c) i.0 w)) t) in
            subst (λ (x : List ℕ). Member x (first ++ second)) (sym i.2) own;
        covering = λ r h. ⊎_elim (part_covered a (first_part a b c) r) (part_covered b (second_part a b c) r) (member_split r first second h);
      })

-- ---- both groupings

module _ (x y z : List ℕ) (xy : Accepted x y) (yz : Accepted y z) where
  abbrev first_two : List ℕ
  first_two = minimum_image x y

  abbrev last_two : List ℕ
  last_two = minimum_image y z

  -- the ids of all three, ascending
  grouped_ids : union_ids first_two z ≡ union_ids x last_two
  unfolding union_ids
  grouped_ids =
      ap (λ (l : List ℕ). ascending compare_word (l ++ image_ids z)) (result_ids x y xy)
      ∙ ascending_left words (image_ids x ++ image_ids y) (image_ids z)
      ∙ ap (ascending compare_word) (append_assoc (image_ids x) (image_ids y) (image_ids z))
      ∙ sym (ascending_right words (image_ids x) (image_ids y ++ image_ids z))
      ∙ sym (ap (λ (l : List ℕ). ascending compare_word (image_ids x ++ l)) (result_ids y z yz))

  -- marked if one of the three marks it
  grouped_word : (id : ℕ) → union_column (column_words first_two) (column_words z) id ≡ union_column (column_words x) (column_words last_two) id
  grouped_word id =
      let mark : List ℕ → Bool = λ image. marks (column_words image) id in
      ap (column_word id)
      (ap (λ (b : Bool). b || mark z) (result_marks x y xy id)
      ∙ or_assoc (mark x) (mark y) (mark z)
      ∙ sym (ap (λ (b : Bool). mark x || b) (result_marks y z yz id)))

  grouped_columns : union_columns first_two z ≡ union_columns x last_two
  unfolding union_columns
  grouped_columns =
      map_ext (union_column (column_words first_two) (column_words z)) (union_column (column_words x) (column_words last_two))
      (union_ids first_two z) (λ id h. grouped_word id)
      ∙ ap (map (union_column (column_words x) (column_words last_two))) grouped_ids

  -- both are the minimum of the rows of all three tables
  grouped_rows : minimum_rows (union_rows first_two z) ≡ minimum_rows (union_rows x last_two)
  unfolding union_rows
  grouped_rows =
      let left = union_ids first_two z in
      let right = union_ids x last_two in
      let all : List ℕ → List (List ℕ) = λ wide. widened_rows wide x ++ (widened_rows wide y ++ widened_rows wide z) in
      reduced_minimum _ _ (reduced_append _ _ _ _ (result_reduced x y left xy) (reduced_self (widened_rows left z)))
      ∙ ap (λ (l : List (List ℕ)). minimum_rows (ascending compare_row l)) (append_assoc (widened_rows left x) (widened_rows left y) (widened_rows left z))
      ∙ ap (λ (l : List ℕ). minimum_rows (ascending compare_row (all l))) grouped_ids
      ∙ sym (reduced_minimum _ _ (reduced_append _ _ _ _ (reduced_self (widened_rows right x)) (result_reduced y z right yz)))

-- that the two last unions are accepted is not needed for their words
pub associative : Associative
unfolding minimum_image
associative x y z p =
    ap₂ image_of (grouped_columns x y z p.first_two p.last_two) (grouped_rows x y z p.first_two p.last_two)

-- ---- a result with itself

module _ (x y : List ℕ) (c : Accepted x y) where
  abbrev own : List ℕ
  own = minimum_image x y

  own_ids : union_ids own own ≡ union_ids x y
  unfolding union_ids
  own_ids = ap (λ (l : List ℕ). ascending compare_word (l ++ l)) (result_ids x y c) ∙ ascending_twice words (union_ids x y) (ids_rise x y)

  own_columns : union_columns own own ≡ union_columns x y
  unfolding union_columns
  own_columns =
      map_ext (union_column (column_words own) (column_words own)) (union_column (column_words x) (column_words y)) (union_ids own own)
      (λ id h. ap (column_word id) (or_self (marks (column_words own) id) ∙ result_marks x y c id))
      ∙ ap (map (union_column (column_words x) (column_words y))) own_ids

  own_rows : widened_rows (union_ids own own) own ≡ minimum_rows (union_rows x y)
  unfolding widened_rows
  own_rows =
      let ids = union_ids x y in
      let stay = minimum_rows (union_rows x y) in
      ap₂ (λ (l : List ℕ) (r : List (List ℕ)). map (widened l (image_ids own)) r) own_ids (result_rows x y c)
      ∙ ap (λ (l : List ℕ). map (widened ids l) stay) (result_ids x y c)
      ∙ map_ext (widened ids ids) (λ r. r) stay (λ r h.
      widened_same ids r (minimum_even x y r h ∙ columns_count x y) (distinct-strict words eqb eqb-true ids (ids_rise x y)))
      ∙ map-id stay

  own_stay : minimum_rows (union_rows own own) ≡ minimum_rows (union_rows x y)
  unfolding union_rows
  own_stay =
      let stay = minimum_rows (union_rows x y) in
      ap minimum_rows (ap (λ (l : List (List ℕ)). ascending compare_row (l ++ l)) own_rows ∙ ascending_twice rows stay (minimum_rise (union_rows x y) (rows_rise x y)))
      ∙ minimum_idempotent (union_rows x y)

pub idempotent : Idempotent
unfolding minimum_image
idempotent x y c accepted = ap₂ image_of (own_columns x y c) (own_stay x y c)
