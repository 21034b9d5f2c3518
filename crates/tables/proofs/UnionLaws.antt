-- T in a table: the widened rows of both images, then their distinct rows, ascending. Assumes nothing.
use mathlib.Core.Path.{◌≡◌, sym, ◌∙◌, ap, ap₂, subst}
use mathlib.Core.Logic.{inl, inr}
use mathlib.Core.List.{List, ◌++◌, flatten}
use Prim.Native.Nat.{ℕ, ◌+◌, ◌-◌, ◌*◌, ◌≤◌}
use native.Mathlib.Nat.{add-mul, mul-le-mul, add-sub_cancel_left}
use native.Mathlib.Omega.{arith}
use lib.ListN.{length, get_or, take, drop, length-map, length-drop, length-append}
use lib.Seq.{paste, length-take-le, get_or-drop, take-append_seam, drop-append_seam}
use Rattle.definitions.specs.Limits.{max_columns, max_rows, max_union_rows}
use Rattle.definitions.specs.Image.{row_count, image_ids, rows_in}
use Rattle.definitions.specs.Ascending.{ascending}
use Rattle.definitions.specs.OuterUnion.{compare_word, compare_row, widened_rows, union_ids, union_columns}
use Rattle.definitions.specs.Statements.{Member, StrictlyAscending}
use Rattle.definitions.proofs.Ascending.{member-join, is_strict, ascending_only, ascending-has}
use Rattle.definitions.proofs.Orders.{words, rows}
use Rattle.definitions.proofs.Questions.{passed_is}
use Rattle.definitions.proofs.Unions.{columns_count}
use Rattle.definitions.proofs.Images.{widened_count, rows_wide}
use Rattle.definitions.proofs.Flat.{Wide}
use Rattle.lists.proofs.Flat.{rows_front, rows_append, flat_rows_all, pasted_rows}
use Rattle.rows.specs.Indices.{row_at, rows_at, Ordered}
use Rattle.tables.specs.declared.Table.{Table}
use Rattle.tables.specs.Table.{both_rows, Found, Source, EmptyFor, Widened, NewTable, CellsOf, TableOf}
use Rattle.tables.specs.UnionIds.{in_order, Covers}
use Rattle.tables.proofs.Smaller.{distinct_count}
use Rattle.tables.proofs.IdLaws.{both_count}
use Rattle.tables.proofs.Scatter.{take_empty}
use Rattle.tables.proofs.WidenLaws.{widened_wide, widened_words}

widened_read : (union image : List ℕ) → rows_in (length union) (row_count image) (flatten (widened_rows union image)) ≡ widened_rows union image
widened_read union image =
    ap (λ (k : ℕ). rows_in (length union) k (flatten (widened_rows union image))) (sym (widened_count union image))
    ∙ flat_rows_all (length union) (widened_rows union image) (widened_wide union image)

-- the words of r rows of at most max_columns cells
pub few_words : (r m w : ℕ) → r ≤ m → w ≤ max_columns → r * w ≤ m * max_columns
few_words r m w h k = mul-le-mul h k

-- the columns of a union are those of each image, in order
pub union_covers : (a b union : List ℕ) → union ≡ union_ids a b → Covers union a × Covers union b
unfolding union_ids
union_covers a b union e =
    let both = image_ids a ++ image_ids b in
    let up : StrictlyAscending compare_word union = subst (StrictlyAscending compare_word) (sym e) (is_strict words both) in
    let in_union : (id : ℕ) → Member id both → Member id union = λ id h. subst (Member id) (sym e) (ascending-has words id both h) in (
      record { strict = up; has = λ id h. in_union id (member-join id (image_ids a) (image_ids b) (inl h)) },
      record { strict = up; has = λ id h. in_union id (member-join id (image_ids a) (image_ids b) (inr h)) },
    )

-- the ids of each image are among those of both
pub record Sources (a b all : List ℕ) : Type 0 where
  pub first : Source a all
  pub second : Source b all

pub sources : {a b all : List ℕ} → Found a b all → Sources a b all
sources {a} {b} {all} f =
    let covers = union_covers a b (in_order all) f.ids.union in
    record {
      first = record { differ = f.ids.differ; covers = covers.0; few = f.few };
      second = record { differ = f.ids.differ; covers = covers.1; few = f.few };
    }

-- the union has w columns, the first image n rows, and the second m; there is room for all of them
module _ {a b all : List ℕ} {n m from : ℕ} (cells : List ℕ) (f : Found a b all) (room : length cells ≡ max_union_rows * max_columns)
    (empty : (k : ℕ) → get_or cells k 0 ≡ 0) (first_rows : n ≡ row_count a) (second_rows : m ≡ row_count b) (from_is : from ≡ n * length all) where
  pub rows_few : n + m ≤ max_union_rows
  rows_few =
      let p = ((passed_is max_rows a).0 f.first).few_rows in
      let q = ((passed_is max_rows b).0 f.second).few_rows in
      omega arith

  pub fits_all : from + m * length all ≤ length cells
  fits_all =
      let w = few_words (n + m) max_union_rows (length all) rows_few f.few in
      let e = add-mul n m (length all) in
      omega arith

  pub first_empty : EmptyFor a all (take from cells)
  first_empty = record {
    room = length-take-le from cells (omega (arith, fits_all)) ∙ from_is ∙ ap (λ (k : ℕ). k * length all) first_rows;
    empty = take_empty from cells empty;
  }

  module _ {x : List ℕ} (first : Widened a all x) where
    first_size : length x ≡ from
    first_size =
        ap length first ∙ widened_words (in_order all) a ∙ ap₂ (λ (i j : ℕ). i * j) (sym first_rows) (distinct_count all f.ids.differ) ∙ sym from_is

    -- the cells for the second image's rows are still empty
    pub second_empty : EmptyFor b all (take (from + m * length all - from) (drop from (x ++ drop from cells)))
    second_empty =
        let here : drop from (x ++ drop from cells) ≡ drop from cells =
        ap (λ (k : ℕ). drop k (x ++ drop from cells)) (sym first_size) ∙ drop-append_seam x (drop from cells) in
        record {
          room = ap₂ (λ (k : ℕ) (l : List ℕ). length (take k l)) (add-sub_cancel_left from (m * length all)) here
              ∙ length-take-le (m * length all) (drop from cells) (omega (arith, fits_all, length-drop from cells))
              ∙ ap (λ (k : ℕ). k * length all) second_rows;
          empty = take_empty _ _ (λ k. ap (λ (l : List ℕ). get_or l k 0) here ∙ get_or-drop from cells k 0 ∙ empty (from + k));
        }

    pub first_kept : length (x ++ drop from cells) ≡ length cells
    first_kept = length-append x (drop from cells) ∙ omega (arith, first_size, length-drop from cells, fits_all)

    -- the widened rows of both images stand one after the other
    pub both-widened : {y : List ℕ} (rest : List ℕ) → Widened b all y
        → rows_in (length all) (n + m) (take from (x ++ drop from cells) ++ (y ++ rest)) ≡ both_rows a b
    both-widened {y} rest second =
        let w = length all in
        let union = in_order all in
        let count = distinct_count all f.ids.differ in
        let front : take from (x ++ drop from cells) ≡ x =
        ap (λ (k : ℕ). take k (x ++ drop from cells)) (sym first_size) ∙ take-append_seam x (drop from cells) in
        let read : (image : List ℕ) (k : ℕ) (l : List ℕ) → k ≡ row_count image → Widened image all l → rows_in w k l ≡ widened_rows union image =
        λ image k l e v. ap₂ (λ (i : ℕ) (r : List ℕ). rows_in w i r) e v ∙ ap (λ (i : ℕ). rows_in i (row_count image) (flatten (widened_rows union image))) (sym count)
        ∙ widened_read union image in
        let size : length y ≡ m * w =
        ap length second ∙ widened_words union b ∙ ap₂ (λ (i j : ℕ). i * j) (sym second_rows) count in
        ap (λ (l : List ℕ). rows_in w (n + m) (l ++ (y ++ rest))) front
        ∙ rows_append w n m x (y ++ rest) (first_size ∙ from_is)
        ∙ ap₂ (λ (p q : List (List ℕ)). p ++ q) (read a n x first_rows first) (rows_front w m y rest size ∙ read b m y second_rows second)
        ∙ ap (λ (u : List ℕ). widened_rows u a ++ widened_rows u b) f.ids.union

-- the distinct rows, written by their indices
pub cells_ordered : (w n m : ℕ) (wide order cells cur : List ℕ) → n * w ≤ length wide → length order ≡ m → Ordered w n wide order
    → cur ≡ paste cells 0 (flatten (rows_at w wide order)) (length order * w) → rows_in w m cur ≡ ascending compare_row (rows_in w n wide)
cells_ordered w n m wide order cells cur h k o e =
    let rs = ascending compare_row (rows_in w n wide) in
    let even : Wide w rs = λ r s. rows_wide w n wide h r (ascending_only rows r (rows_in w n wide) s) in
    let count : length rs ≡ m = sym (ap length o.rows) ∙ length-map order (row_at w wide) ∙ k in
    pasted_rows w m rs cells cur even count (e ∙ ap₂ (λ (l : List (List ℕ)) (j : ℕ). paste cells 0 (flatten l) (j * w)) o.rows k)

-- a new table with the columns of both images, and rows in it
pub filled_table : {a b all : List ℕ} {rs : List (List ℕ)} {t : Table} → Found a b all → (new : Table) → NewTable a b (length all) new
    → t.ids ≡ new.ids → t.columns ≡ new.columns → CellsOf rs (length all) t.rows t.cells → TableOf t (union_columns a b) rs
filled_table {a} {b} {all} {rs} {t} f new made ti tc cells =
    let wide : t.columns ≡ length all = tc ∙ made.columns in
    record {
      columns = wide ∙ sym (columns_count a b ∙ both_count a b all f.ids);
      ids = ap₂ take wide ti ∙ made.ids;
      rows_are = ap (λ (k : ℕ). rows_in k t.rows t.cells) wide ∙ cells.rows_are;
      few_columns = omega (arith, f.few);
      few_rows = cells.few_rows;
      id_words = ap length ti ∙ made.id_words;
      all_cell_words = cells.all_cell_words;
    }
