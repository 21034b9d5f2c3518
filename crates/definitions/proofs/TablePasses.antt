-- A table whose column words and cells pass their tests makes an image that passes the questions 1 to 7; the union's column words pass, and
-- every cell of T is empty or a cell of one of the two images. Assumes nothing.
use mathlib.Core.Path.{◌≡◌, refl, sym, ◌∙◌, ap, ap₂}
use mathlib.Core.Bool.{Bool, true, false}
use mathlib.Core.Logic.{⊎_elim}
use mathlib.Core.List.{List, map}
use Prim.Native.Nat.{ℕ, zero, suc, ◌+◌, ◌*◌, ◌^◌, ◌<◌, ◌≤◌}
use native.Mathlib.Omega.{arith}
use lib.Dec.{eqb}
use lib.ListN.{length, get_or, take, drop}
use borrow.Author.Tests.{eqb-true, eq-eqb}
use Rattle.definitions.specs.Limits.{max_columns, max_rows}
use Rattle.definitions.specs.Lists.{all, find_index, distinct}
use Rattle.definitions.specs.Word.{kind_of, id_of, mark_of, column_spare, column_word, is_cell}
use Rattle.definitions.specs.Image.{column_count, row_count, is_column, image_ids, cell_words, rows_in, image_of}
use Rattle.definitions.specs.OuterUnion.{union_ids, union_columns, cell_in, widened, union_rows}
use Rattle.definitions.specs.Calls.{Accepted}
use Rattle.definitions.specs.Statements.{Member}
use Rattle.definitions.specs.Claims.{Passed, WidenedOf}
use Rattle.std.proofs.lemmas.Bool.{and_from, and_parts}
use Rattle.definitions.proofs.Orders.{words}
use Rattle.definitions.proofs.Lists.{member-get, member_at, map-member, all_of, all_split, all-flatten, all-get, distinct-strict}
use Rattle.definitions.proofs.Counts.{image_length_lem}
use Rattle.definitions.proofs.Unions.{ids_rise, rows_are, columns_count}
use Rattle.definitions.proofs.UnionColumns.{columns_ids, columns_few, word_told}
use Rattle.definitions.proofs.Images.{header_columns, header_rows, header_is, image_columns, image_cells, passed_ids, first_part, second_part}

-- ---- any table

-- a table whose image has a yes to each of the questions 1 to 7
pub record PassingTable (limit : ℕ) (columns : List ℕ) (rows : List (List ℕ)) : Type 0 where
  pub some_column : 1 ≤ length columns
  pub few_columns : length columns ≤ max_columns
  pub all_column_words : all is_column columns ≡ true
  pub distinct_ids : distinct eqb (map id_of columns) ≡ true
  pub few_rows : length rows ≤ limit
  pub even : (r : List ℕ) → Member r rows → length r ≡ length columns
  pub all_cell_words : (r : List ℕ) → Member r rows → all is_cell r ≡ true

-- the limit is one that a header's 12 bits for the number of rows can hold
pub image_passes : (limit : ℕ) (columns : List ℕ) (rows : List (List ℕ)) → limit < 2 ^ 12 → PassingTable limit columns rows
    → Passed limit (image_of columns rows)
unfolding image_of
image_passes limit columns rows h t =
    let c = length columns in
    let r = length rows in
    let narrow : c < 2 ^ 5 = omega (arith, t.few_columns) in
    let short : r < 2 ^ 12 = omega (arith, t.few_rows) in
    let cs : column_count (image_of columns rows) ≡ c = header_columns r c narrow in
    let rs : row_count (image_of columns rows) ≡ r = header_rows r c short narrow in
    record {
      first_word = omega arith;
      is_header_word = header_is r c short narrow;
      some_column = rw cs t.some_column;
      few_columns = rw cs t.few_columns;
      few_rows = rw rs t.few_rows;
      all_words = image_length_lem columns rows t.even ∙ sym (ap₂ (λ (n m : ℕ). 1 + n + m * n) cs rs);
      all_column_words = ap (all is_column) (image_columns columns rows narrow) ∙ t.all_column_words;
      distinct_ids = ap (λ (l : List ℕ). distinct eqb (map id_of l)) (image_columns columns rows narrow) ∙ t.distinct_ids;
      all_cell_words = ap (all is_cell) (image_cells columns rows narrow) ∙ all-flatten is_cell rows t.all_cell_words;
    }

-- ---- the union's column words

word_column : (id : ℕ) (mark : Bool) → id < 2 ^ 16 → is_column (column_word id mark) ≡ true
word_column id true h =
    and_from _ _ (eq-eqb (kind_of (column_word id true)) 2 (omega arith)) (eq-eqb (column_spare (column_word id true)) 0 (omega arith))
word_column id false h =
    and_from _ _ (eq-eqb (kind_of (column_word id false)) 2 (omega arith)) (eq-eqb (column_spare (column_word id false)) 0 (omega arith))

module _ (a b : List ℕ) where
  pub columns_right_lem : all is_column (union_columns a b) ≡ true
  columns_right_lem =
      all_of is_column (union_columns a b) (λ w h. ap is_column (word_told a b w h) ∙ word_column (id_of w) (mark_of w) (omega arith))

  pub columns_distinct : distinct eqb (map id_of (union_columns a b)) ≡ true
  columns_distinct = ap (distinct eqb) (columns_ids a b) ∙ distinct-strict words eqb eqb-true (union_ids a b) (ids_rise a b)

  -- the first id of the first table is one of the union's
  pub columns_some : Accepted a b → 1 ≤ length (union_columns a b)
  columns_some c =
      let p = first_part a b c in
      let id = get_or (image_ids a) 0 0 in
      let there = p.ids id (member-get 0 (image_ids a) 0 (omega (arith, passed_ids max_rows a p.passed, p.passed.some_column))) in
      omega (arith, columns_count a b, (member_at 0 id (union_ids a b) there).1)

  -- ---- a table with the union's columns

  pub union_passes : (limit : ℕ) (rows : List (List ℕ)) → Accepted a b → limit < 2 ^ 12 → length rows ≤ limit
      → ((r : List ℕ) → Member r rows → length r ≡ length (union_columns a b)) → ((r : List ℕ) → Member r rows → all is_cell r ≡ true)
      → Passed limit (image_of (union_columns a b) rows)
  union_passes limit rows c most few even cells =
      image_passes limit (union_columns a b) rows most record {
        some_column = columns_some c;
        few_columns = columns_few a b c;
        all_column_words = columns_right_lem;
        distinct_ids = columns_distinct;
        few_rows = few;
        even = even;
        all_cell_words = cells;
      }

-- ---- the cells of T, by any test of a word that the empty cell passes

module _ (p : ℕ → Bool) where
  -- rows cut from words that pass
  row_cells : (c n : ℕ) (l : List ℕ) → all p l ≡ true → (r : List ℕ) → Member r (rows_in c n l) → all p r ≡ true
  row_cells c zero l e r h = absurd h
  row_cells c (suc n) l e r h =
      let q = sym (all_split p c l) ∙ e in
      ⊎_elim (λ k. ap (all p) k ∙ (and_parts (all p (take c l)) (all p (drop c l)) q).0)
      (λ k. row_cells c n (drop c l) (and_parts (all p (take c l)) (all p (drop c l)) q).1 r k) h

  module _ (empty : p 0 ≡ true) (a b : List ℕ) where
    widened_cells : (image : List ℕ) → all p (cell_words image) ≡ true → (r : List ℕ) → WidenedOf a b image r → all p r ≡ true
    unfolding widened
    widened_cells image e r i =
        ap (all p) i.2
        ∙ all_of p (widened (union_ids a b) (image_ids image) i.0) (λ x h.
        let j = map-member (cell_in (image_ids image) i.0) x (union_ids a b) h in
        ap p j.2
        ∙ all-get p 0 empty i.0 (row_cells (column_count image) (row_count image) (cell_words image) e i.0 i.1)
        (find_index (eqb j.0) (image_ids image)))

    pub union_cells : all p (cell_words a) ≡ true → all p (cell_words b) ≡ true → (r : List ℕ) → Member r (union_rows a b) → all p r ≡ true
    union_cells e f r h = ⊎_elim (widened_cells a e r) (widened_cells b f r) ((rows_are a b r).0 h)

-- the cells of T may stand as cells
pub accepted_cells : (a b : List ℕ) → Accepted a b → (r : List ℕ) → Member r (union_rows a b) → all is_cell r ≡ true
accepted_cells a b c =
    union_cells is_cell refl a b (first_part a b c).passed.all_cell_words (second_part a b c).passed.all_cell_words
