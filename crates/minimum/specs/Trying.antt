-- What the trying of one row finds; what the trying of all rows is given, and what it gives: the indices of the rows that stay, and the pairs tried.
use Rattle.std.specs.Prelude.{◌≡◌, Bool, true, false, Option, Some, None, List, [], ℕ, ◌≤◌, ◌<◌, length, get_or, take}
use Rattle.definitions.specs.Limits.{max_columns, max_union_rows}
use Rattle.definitions.specs.Lists.{any, without}
use Rattle.definitions.specs.Image.{rows_in}
use Rattle.definitions.specs.MinimumUnion.{subsumes, minimum_rows, tries, pairs_tried}
use Rattle.rows.specs.Indices.{rows_at, Below}
use Rattle.rows.specs.declared.named.Rows.{Rows}

-- some row subsumes row k
abbrev pub is_subsumed : List (List ℕ) → ℕ → Bool
is_subsumed rows k = any (λ s. subsumes s (get_or rows k [])) rows

-- the pairs tried for row k
abbrev pub tries_at : List (List ℕ) → ℕ → ℕ
tries_at rows k = tries (get_or rows k []) (without k rows)

-- no row before j subsumes t
abbrev pub NoneBefore : List ℕ → List (List ℕ) → ℕ → Type 0
NoneBefore t rows j = (i : ℕ) → i < j → subsumes (get_or rows i []) t ≡ false

-- the first of the rows that subsumes row k is named, or none does
abbrev pub FirstSubsumer : List (List ℕ) → ℕ → Option ℕ → Type 0
FirstSubsumer rows k None = NoneBefore (get_or rows k []) rows (length rows)
FirstSubsumer rows k (Some j) =
    (j < length rows) × NoneBefore (get_or rows k []) rows j × (subsumes (get_or rows j []) (get_or rows k []) ≡ true)

-- no more rows and cells of a row than a table has, and room for the rows' indices
pub record Untried (t : Rows) (indices : List ℕ) : Type 0 where
  pub few_columns : t.width ≤ max_columns
  pub few_rows : t.len ≤ max_union_rows
  pub room : t.len ≤ length indices

-- the first m indices name the rows among the first n that none of these subsumes, in their order, and so many pairs have been tried
pub record KeptRows (c n : ℕ) (w indices : List ℕ) (m pairs : ℕ) : Type 0 where
  pub count : m ≤ n
  pub below : Below n (take m indices)
  pub rows : rows_at c w (take m indices) ≡ minimum_rows (rows_in c n w)
  pub tried : pairs ≡ pairs_tried (rows_in c n w)
