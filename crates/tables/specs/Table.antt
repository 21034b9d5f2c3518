-- What a table in work holds, and what is written into it.
use Rattle.std.specs.Prelude.{◌≡◌, true, ℕ, ◌*◌, ◌≤◌, eqb, length, get_or, take}
use mathlib.Core.List.{List, ◌++◌, flatten}
use Rattle.definitions.specs.Lists.{distinct}
use Rattle.definitions.specs.Limits.{max_columns, max_rows, max_union_rows}
use Rattle.definitions.specs.Image.{rows_in, row_count}
use Rattle.definitions.specs.OuterUnion.{widened_rows, union_ids, union_columns}
use Rattle.definitions.specs.Questions.{image_number}
use Rattle.rows.specs.declared.named.Rows.{Rows}
use Rattle.tables.specs.declared.Table.{Table}
use Rattle.tables.specs.UnionIds.{in_order, BothIds, Covers}

-- the rows of two images, each with a cell for every column of the union, one after the other
abbrev pub both_rows : List ℕ → List ℕ → List (List ℕ)
both_rows a b = widened_rows (union_ids a b) a ++ widened_rows (union_ids a b) b

-- an accepted pair, and the ids of both images, each once: a table has room for them
pub record Found (a b all : List ℕ) : Type 0 where
  pub first : image_number max_rows a ≡ 0
  pub second : image_number max_rows b ≡ 0
  pub ids : BothIds a b all
  pub few : length all ≤ max_columns

-- few distinct ids, an image's own among them
pub record Source (image all : List ℕ) : Type 0 where
  pub differ : distinct eqb all ≡ true
  pub covers : Covers (in_order all) image
  pub few : length all ≤ max_columns

-- empty cells, as many as the widened rows of an image have
pub record EmptyFor (image all cells : List ℕ) : Type 0 where
  pub room : length cells ≡ row_count image * length all
  pub empty : (k : ℕ) → get_or cells k 0 ≡ 0

-- the cells are the widened rows of an image
abbrev pub Widened : List ℕ → List ℕ → List ℕ → Type 0
Widened image all cells = cells ≡ flatten (widened_rows (in_order all) image)

-- a table with the union's columns, n of them, no rows and empty cells
pub record NewTable (a b : List ℕ) (n : ℕ) (t : Table) : Type 0 where
  pub ids : take n t.ids ≡ union_columns a b
  pub id_words : length t.ids ≡ max_columns
  pub columns : t.columns ≡ n
  pub rows : t.rows ≡ 0
  pub empty : (k : ℕ) → get_or t.cells k 0 ≡ 0

-- the cells of a table begin with n rows of so many cells, and these are the rows
pub record CellsOf (rows : List (List ℕ)) (width n : ℕ) (cells : List ℕ) : Type 0 where
  pub rows_are : rows_in width n cells ≡ rows
  pub few_rows : n ≤ max_union_rows
  pub all_cell_words : length cells ≡ max_union_rows * max_columns

-- the column words of a table, as they are lent
pub record LentWords (t : Table) (words : List ℕ) : Type 0 where
  pub are : words ≡ take t.columns t.ids
  pub size : length words ≡ t.columns

-- and its rows
pub record LentRows (t : Table) (rows : Rows) : Type 0 where
  pub cells : rows.cells.now ≡ t.cells
  pub width : rows.width ≡ t.columns
  pub len : rows.len ≡ t.rows

-- the table with these column words and rows
pub record TableOf (t : Table) (union : List ℕ) (rows : List (List ℕ)) : Type 0 where
  pub columns : t.columns ≡ length union
  pub ids : take t.columns t.ids ≡ union
  pub rows_are : rows_in t.columns t.rows t.cells ≡ rows
  pub few_columns : t.columns ≤ max_columns
  pub few_rows : t.rows ≤ max_union_rows
  pub id_words : length t.ids ≡ max_columns
  pub all_cell_words : length t.cells ≡ max_union_rows * max_columns
