-- The rows of a column as groups of equal cells: each row has a leader, and a word for each leader holds the rows that it leads.
use Rattle.std.specs.Prelude.{◌≡◌, true, ◌&&◌, List, ℕ, ◌+◌, ◌*◌, ◌<◌, eqb, length, get_or, Option, MatchOption}
use Rattle.bitsets.specs.Bits.{has}

-- leaders are kept by the last digit of their cells, a bucket a digit
abbrev pub bucket_count : ℕ
bucket_count = 16

-- the cells of a column, by their rows
abbrev pub cell_at : ℕ → List ℕ → ℕ → ℕ → ℕ
cell_at width cells column k = get_or cells (k * width + column) 0

-- one of the rows, with the cell x; or nothing, and none of the rows has that cell
abbrev pub LeaderOf : (ℕ → ℕ) → ℕ → ℕ → Option ℕ → Type 0
LeaderOf cell x rows r = MatchOption r ((k : ℕ) → has rows k ≡ true → cell k ≡ x → ⊥) (λ k. (has rows k ≡ true) × (cell k ≡ x))

-- each row of a set has a leader with a word
abbrev pub Led : ℕ → List ℕ → List ℕ → Type 0
Led filled leaders equal = (j : ℕ) → has filled j ≡ true → get_or leaders j 0 < length equal

-- the word of a row's leader holds the rows with the row's cell
pub record Groups (cell : ℕ → ℕ) (filled : ℕ) (leaders equal : List ℕ) : Type 0 where
  pub led : Led filled leaders equal
  pub alike : (j k : ℕ) → has filled j ≡ true → has (get_or equal (get_or leaders j 0) 0) k ≡ (has filled k && eqb (cell j) (cell k))
