-- The words that tell which rows may subsume a row, bit j for row j: for each count of filled cells the rows with a larger one, and the
-- candidates of a row.
use Rattle.std.specs.Prelude.{◌≡◌, true, List, map, ℕ, ◌≤◌, ◌<◌, length, get_or}
use Rattle.definitions.specs.Limits.{max_union_rows}
use Rattle.definitions.specs.Word.{is_filled}
use Rattle.definitions.specs.MinimumUnion.{filled}
use Rattle.rows.specs.declared.named.Rows.{Rows}
use Rattle.rows.specs.Rows.{rows_of}
use Rattle.bitsets.specs.Bits.{has, word_bits}
use Rattle.patterns.specs.Columns.{ColumnsOf}

-- each word holds, of the first n rows, the ones whose count is its index
pub record EqualTo (counts : List ℕ) (n : ℕ) (words : List ℕ) : Type 0 where
  pub held : (j : ℕ) → j < n → has (get_or words (get_or counts j 0) 0) j ≡ true
  pub only : (k j : ℕ) → has (get_or words k 0) j ≡ true → (j < n) × (get_or counts j 0 ≡ k)

-- each word holds the rows whose count is larger than its index
pub record FullerThan (counts words : List ℕ) : Type 0 where
  pub held : (k j : ℕ) → j < length counts → k < get_or counts j 0 → has (get_or words k 0) j ≡ true
  pub only : (k j : ℕ) → has (get_or words k 0) j ≡ true → (j < length counts) × (k < get_or counts j 0)

-- the set holds those of the fuller rows that are filled wherever a row is
pub record Candidates (row : List ℕ) (fuller : ℕ) (columns : List ℕ) (set : ℕ) : Type 0 where
  pub among : (j : ℕ) → has set j ≡ true → has fuller j ≡ true
  pub held : (j : ℕ) → j < word_bits → has fuller j ≡ true
      → ((c : ℕ) → c < length row → is_filled (get_or row c 0) ≡ true → has (get_or columns c 0) j ≡ true) → has set j ≡ true

-- rows, no more than a table has: the count of filled cells of each, the rows with more than so many, and the rows that are filled in
-- each column
pub record Prepared (t : Rows) (counts fuller columns : List ℕ) : Type 0 where
  pub few : t.len ≤ max_union_rows
  pub size : length counts ≡ t.len
  pub counted : counts ≡ map filled (rows_of t)
  pub room : (j : ℕ) → get_or counts j 0 < length fuller
  pub fuller_rows : FullerThan counts fuller
  pub filled_rows : ColumnsOf (rows_of t) t.width columns
