-- The results of outer union and minimum union: rows of a table in work, named by their indices. Assumes nothing.
use mathlib.Core.Path.{◌≡◌, sym, ◌∙◌, ap, ap₂}
use mathlib.Core.List.{List, ◌++◌}
use Prim.Native.Nat.{ℕ, ◌≤◌}
use native.Mathlib.Omega.{arith}
use lib.ListN.{length, take, drop}
use lib.Seq.{length-take-le}
use Rattle.definitions.specs.Image.{rows_in}
use Rattle.definitions.specs.Ascending.{ascending}
use Rattle.definitions.specs.OuterUnion.{compare_row, union_columns, union_rows}
use Rattle.definitions.specs.MinimumUnion.{minimum_rows}
use Rattle.rows.specs.declared.named.Rows.{Rows}
use Rattle.rows.specs.Rows.{rows_of}
use Rattle.rows.specs.Indices.{Below, Ordered}
use Rattle.rows.proofs.Positions.{ordered_within}
use Rattle.images.specs.Writing.{chosen, Writable}
use Rattle.tables.specs.declared.Table.{Table}
use Rattle.tables.specs.Table.{Found, NewTable, CellsOf, both_rows, TableOf, LentWords, LentRows}
use Rattle.definitions.specs.Limits.{max_union_rows}
use Rattle.tables.proofs.UnionLaws.{filled_table}
use Rattle.minimum.specs.Trying.{KeptRows}

-- what a table in work lends
module _ {t : Table} {columns : List ℕ} {r : Rows} (w : LentWords t columns) (l : LentRows t r) where
  pub lent_rows : rows_of r ≡ rows_in t.columns t.rows t.cells
  lent_rows = ap₂ (λ (c n : ℕ). rows_in c n r.cells.now) l.width l.len ∙ ap (rows_in t.columns t.rows) l.cells

  pub lent_wide : r.width ≡ length columns
  lent_wide = l.width ∙ sym w.size

  -- the rows at indices can be written
  writable : {u : List ℕ} {rows : List (List ℕ)} → TableOf t u rows → (order : List ℕ) → length order ≤ r.len → Below r.len order → Writable columns r order
  writable h order few below = record {
    wide = lent_wide;
    few_columns = omega (arith, w.size, h.few_columns);
    few_rows = omega (arith, few, l.len, h.few_rows);
    below = below;
  }

-- the rows at the first m indices are those of the result, and can be written
pub record ImageRows (u : List ℕ) (rows : List (List ℕ)) (columns : List ℕ) (r : Rows) (m : ℕ) (order : List ℕ) : Type 0 where
  pub can : Writable columns r order
  pub ids : columns ≡ u
  pub are : chosen r order ≡ rows
  pub count : length order ≡ m

-- a new table that was given rows lends its column words and its rows
module _ {a b all : List ℕ} (f : Found a b all) {new : Table} (made : NewTable a b (length all) new) {rs : List (List ℕ)} {t : Table}
    (held : CellsOf rs (length all) t.rows t.cells) (ids : t.ids ≡ new.ids) (same : t.columns ≡ new.columns)
    {columns : List ℕ} (w : LentWords t columns) {r : Rows} (l : LentRows t r) where
  table : TableOf t (union_columns a b) rs
  table = filled_table f new made ids same held

  pub rows_are : rows_of r ≡ rs
  rows_are = lent_rows w l ∙ table.rows_are

  few : r.len ≤ max_union_rows
  few = omega (arith, l.len, held.few_rows)

  -- rows named by the first m indices of a list
  named : {rows : List (List ℕ)} (m : ℕ) (order : List ℕ) → length (take m order) ≡ m → m ≤ r.len → Below r.len (take m order)
      → chosen r (take m order) ≡ rows → ImageRows (union_columns a b) rows columns r m (take m order)
  named m order count fewer below are = record {
    can = writable w l table (take m order) (omega (arith, count, fewer)) below;
    ids = w.are ∙ table.ids;
    are = are;
    count = count;
  }

module _ {a b all : List ℕ} (f : Found a b all) {new : Table} (made : NewTable a b (length all) new) {t : Table} where
  -- the distinct widened rows, ascending, are T
  pub outer_named : (held : CellsOf (both_rows a b) (length all) t.rows t.cells) → t.ids ≡ new.ids → t.columns ≡ new.columns
      → {columns : List ℕ} → LentWords t columns → {r : Rows} → LentRows t r
      → (old x : List ℕ) (m : ℕ) → max_union_rows ≤ length old → length x ≡ length (take r.len old)
      → (m ≤ length (take r.len old)) × Ordered r.width (length (take r.len old)) r.cells.now (take m x)
      → ImageRows (union_columns a b) (union_rows a b) columns r m (take m (x ++ drop r.len old))
  unfolding union_rows
  outer_named held ids same w {r} l old x m room size o =
      let front = ordered_within r.width r.len m r.cells.now old x (omega (arith, few f made held ids same w l, room)) size o in
      named f made held ids same w l m _ front.count front.fewer front.named.below
      (front.named.rows ∙ ap (ascending compare_row) (rows_are f made held ids same w l))

  -- the rows of T that none subsumes are the minimum union
  pub minimum_named : (held : CellsOf (union_rows a b) (length all) t.rows t.cells) → t.ids ≡ new.ids → t.columns ≡ new.columns
      → {columns : List ℕ} → LentWords t columns → {r : Rows} → LentRows t r
      → (kept : List ℕ) (m pairs : ℕ) → max_union_rows ≤ length kept → KeptRows r.width r.len r.cells.now kept m pairs
      → ImageRows (union_columns a b) (minimum_rows (union_rows a b)) columns r m (take m kept)
  minimum_named held ids same w {r} l kept m pairs room k =
      named f made held ids same w l m kept (length-take-le m kept (omega (arith, few f made held ids same w l, room, k.count))) k.count k.below
      (k.rows ∙ ap minimum_rows (rows_are f made held ids same w l))
