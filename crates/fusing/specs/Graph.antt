-- The graph of T: a word for each row, whose bit k says that row k complements it. It is found in two steps: rows that cross, and of these
-- the ones that agree. `words` are the union's column words: their marks say which columns condition (3) counts.
use Rattle.std.specs.Prelude.{◌≡◌, true, false, cond, not, ◌&&◌, ◌||◌, List, [], ℕ, ◌≤◌, ◌<◌, length, get_or}
use Rattle.definitions.specs.Limits.{max_union_rows}
use Rattle.definitions.specs.ComplementUnion.{agree, complement, complement_at}
use Rattle.definitions.specs.Claims.{counts_column}
use Rattle.bitsets.specs.Bits.{word_bits, has}
use Rattle.cliques.specs.Graph.{adjacent, Graph}
use Rattle.patterns.specs.Columns.{ColumnsOf}

-- the words begin with the graph of these rows
pub record GraphOf (words : List ℕ) (rows : List (List ℕ)) (neighbours : List ℕ) : Type 0 where
  pub graph : Graph neighbours (length rows)
  pub adjacent_as : (j k : ℕ) → j < length rows → k < length rows → adjacent neighbours j k ≡ complement_at words rows j k

-- ---- the columns that condition (3) counts

-- for each column that counts its word of `columns`, and for another a word that holds no row
pub record CountedColumns (words columns counted : List ℕ) : Type 0 where
  pub size : length words ≤ length counted
  pub each : (c : ℕ) → c < length words → get_or counted c 0 ≡ cond (counts_column words c) (get_or columns c 0) 0

-- ---- the rows that cross a row

-- rows with a cell for each column word, and the columns' filled rows: of every column, and of those that count
pub record Seen (words : List ℕ) (rows : List (List ℕ)) (columns counted : List ℕ) : Type 0 where
  pub few : length rows ≤ max_union_rows
  pub wide : (k : ℕ) → k < length rows → length (get_or rows k []) ≡ length words
  pub filled : ColumnsOf rows (length words) columns
  pub counting : CountedColumns words columns counted

-- those of the set that agree with a row are the rows that complement it
abbrev pub CrossingOf : List ℕ → List (List ℕ) → List ℕ → ℕ → Type 0
CrossingOf words rows row set =
    (k : ℕ) → k < length rows → complement words row (get_or rows k []) ≡ (has set k && agree row (get_or rows k []))

-- the same of all rows with these columns
abbrev pub Crossing : List ℕ → List ℕ → List ℕ → ℕ → Type 0
Crossing row columns counted set =
    (words : List ℕ) (rows : List (List ℕ)) → length words ≡ length row → Seen words rows columns counted → CrossingOf words rows row set

-- the word of each row holds the rows that cross it
pub record CrossingRows (words : List ℕ) (rows : List (List ℕ)) (neighbours : List ℕ) : Type 0 where
  pub each : (j : ℕ) → j < length rows → CrossingOf words rows (get_or rows j []) (get_or neighbours j 0)

-- ---- the rows that agree with a row

-- a row that is filled in a column keeps the neighbours of its group there, and those that are not filled; another row keeps its word
pub record NarrowedBy (filled : ℕ) (leaders equal found neighbours : List ℕ) : Type 0 where
  pub held : (j k : ℕ) → has filled j ≡ true → k < word_bits
      → adjacent neighbours j k ≡ (adjacent found j k && (has (get_or equal (get_or leaders j 0) 0) k || not (has filled k)))
  pub others : (j : ℕ) → has filled j ≡ false → get_or neighbours j 0 ≡ get_or found j 0

-- each row keeps the neighbours that agree with it
pub record Narrowed (rows : List (List ℕ)) (found neighbours : List ℕ) : Type 0 where
  pub agrees : (j k : ℕ) → j < length rows → k < length rows → adjacent neighbours j k ≡ (adjacent found j k && agree (get_or rows j []) (get_or rows k []))
