-- The terms in which theorems over the definitions are stated: what a yes to every question is, when a call is done, and what the tests on
-- rows and sets mean.
use Rattle.std.specs.Prelude.{◌≡◌, Bool, true, false, cond, not, ◌||◌, ◌⊎◌, List, [], ◌∷◌, map, ℕ, ◌+◌, ◌≤◌, ◌<◌, eqb, length, get_or}
use Rattle.definitions.specs.Limits.{max_columns, max_sets, mark_words}
use Rattle.definitions.specs.Lists.{all, any, distinct}
use Rattle.definitions.specs.Word.{id_of, mark_of, is_filled, is_cell}
use Rattle.definitions.specs.Image.{header, column_count, row_count, is_header, is_column, column_words, image_ids, cell_words}
use Rattle.definitions.specs.Image.{image_rows, image_length}
use Rattle.definitions.specs.OuterUnion.{union_ids, union_columns, widened, union_rows}
use Rattle.definitions.specs.MinimumUnion.{subsumes}
use Rattle.definitions.specs.ComplementUnion.{contains, compare_set, joined, union_sets}
use Rattle.definitions.specs.SetList.{set_list}
use Rattle.definitions.specs.Calls.{Accepted, fused_image, complement_values}
use Rattle.definitions.specs.Reading.{set_count, records_in, set_in}
use Rattle.definitions.specs.ReadBack.{is_set_list, is_record, read_words}
use Rattle.definitions.specs.Statements.{Member, StrictlyAscending}

-- ---- demand 1: which calls are refused

-- a yes to each of the questions 1 to 7, with at most `limit` rows
pub record Passed (limit : ℕ) (image : List ℕ) : Type 0 where
  pub first_word : 0 < length image
  pub is_header_word : is_header (header image) ≡ true
  pub some_column : 1 ≤ column_count image
  pub few_columns : column_count image ≤ max_columns
  pub few_rows : row_count image ≤ limit
  pub all_words : length image ≡ image_length image
  pub all_column_words : all is_column (column_words image) ≡ true
  pub distinct_ids : distinct eqb (image_ids image) ≡ true
  pub all_cell_words : all is_cell (cell_words image) ≡ true

-- outer or minimum union: the pair is accepted, the table buffer has room for the image, and the answer carries these counts
pub record TableDone (a b image : List ℕ) (room : ℕ) (counts values : List ℕ) : Type 0 where
  pub accepted : Accepted a b
  pub table_room : length image ≤ room
  pub carries : values ≡ counts

-- complement union
pub record ComplementDone (a b : List ℕ) (room sets_room : ℕ) (values : List ℕ) : Type 0 where
  pub accepted : Accepted a b
  pub few_sets : length (union_sets (union_columns a b) (union_rows a b)) ≤ max_sets
  pub table_room : length (fused_image a b) ≤ room
  pub set_room : length (set_list (union_columns a b) (union_rows a b)) ≤ sets_room
  pub carries : values ≡ complement_values (union_columns a b) (union_rows a b)

-- request A1: a yes to each of the checks 12, 13 and 14
pub record AcceptedList (rows : ℕ) (list : List ℕ) : Type 0 where
  pub listed : is_set_list mark_words rows list ≡ true
  pub records : all (is_record mark_words rows) (records_in mark_words list) ≡ true
  pub ordered : StrictlyAscending compare_set (map (set_in mark_words) (records_in mark_words list))

-- the reader of a set list
pub record ReadDone (list : List ℕ) (rows room : ℕ) (values : List ℕ) : Type 0 where
  pub accepted : AcceptedList rows list
  pub room_for_words : length (read_words mark_words list) ≤ room
  pub carries : values ≡ set_count list ∷ length (read_words mark_words list) ∷ []

-- ---- demand 2: rows

abbrev pub Filled : ℕ → Type 0
Filled w = w ≡ 0 → ⊥

-- how many cells are empty
unfoldable pub empties : List ℕ → ℕ
empties [] = 0
empties (x ∷ s) = cond (is_filled x) 0 1 + empties s

-- x is what y is, where y is filled
abbrev pub CellCovers : ℕ → ℕ → Type 0
CellCovers x y = (y ≡ 0) ⊎ (x ≡ y)

-- "equal or one is empty"
abbrev pub CellAgrees : ℕ → ℕ → Type 0
CellAgrees x y = (x ≡ y) ⊎ ((x ≡ 0) ⊎ (y ≡ 0))

-- a column that is filled in both, with equal cells
abbrev pub Shared : List ℕ → List ℕ → Type 0
Shared s t = (k : ℕ) × Filled (get_or s k 0) × (get_or s k 0 ≡ get_or t k 0)

-- request A2: an image marks the column with an id
abbrev pub MarkedIn : List ℕ → ℕ → Type 0
MarkedIn image id = (w : ℕ) × Member w (column_words image) × (id_of w ≡ id) × (mark_of w ≡ true)

-- "If any is marked, condition (3) of complementing counts marked columns only; if none is, any column counts"
abbrev pub Counts : List ℕ → ℕ → Type 0
Counts columns k = (mark_of (get_or columns k 0) ≡ true) ⊎ (any mark_of columns ≡ false)

-- the same as a test
abbrev pub counts_column : List ℕ → ℕ → Bool
counts_column columns k = mark_of (get_or columns k 0) || not (any mark_of columns)

-- a column that counts and is filled in both, with equal cells
abbrev pub SharedCounted : List ℕ → List ℕ → List ℕ → Type 0
SharedCounted columns s t = (k : ℕ) × Counts columns k × Filled (get_or s k 0) × (get_or s k 0 ≡ get_or t k 0)

-- "Rows s and t complement each other if (1) .. (2) .. (3) .."
pub record Complements (columns s t : List ℕ) : Type 0 where
  pub agreeing : (k : ℕ) → CellAgrees (get_or s k 0) (get_or t k 0)
  pub different : s ≡ t → ⊥
  pub not_subsuming : subsumes s t ≡ false
  pub not_subsumed : subsumes t s ≡ false
  pub sharing : SharedCounted columns s t

-- r is a row of an image, with empty cells in the columns that its table lacks
abbrev pub WidenedOf : List ℕ → List ℕ → List ℕ → List ℕ → Type 0
WidenedOf a b image r = (row : List ℕ) × Member row (image_rows image) × (r ≡ widened (union_ids a b) (image_ids image) row)

-- t is "equal to or subsumed by" one of the rows
abbrev pub Covered : List (List ℕ) → List ℕ → Type 0
Covered rows t = (s : List ℕ) × Member s rows × ((s ≡ t) ⊎ (subsumes s t ≡ true))

-- ---- demand 2: sets

-- the set holds the position k
abbrev pub Holds : List Bool → ℕ → Type 0
Holds s k = contains s k ≡ true

module _ (adjacent : ℕ → ℕ → Bool) (n : ℕ) (s : List Bool) where
  -- "a non-empty set of positions in which every two different rows complement each other"
  pub record Complementing : Type 0 where
    pub size : length s ≡ n
    pub some : (k : ℕ) × Holds s k
    pub pairwise : (j k : ℕ) → Holds s j → Holds s k → (j ≡ k → ⊥) → adjacent j k ≡ true

  -- "It is maximal if no position outside complements all its members."
  pub record Maximal : Type 0 where
    pub complementing : Complementing
    pub outside : (j : ℕ) → j < n → contains s j ≡ false → (k : ℕ) × Holds s k × (adjacent j k ≡ false)

-- r is the row at a position of the set
abbrev pub MemberAt : List (List ℕ) → List Bool → List ℕ → Type 0
MemberAt rows s r = (k : ℕ) × (k < length rows) × Holds s k × (r ≡ get_or rows k [])

-- r is the joined row of a listed set
abbrev pub JoinedOf : List ℕ → List (List ℕ) → List ℕ → Type 0
JoinedOf columns rows r = (s : List Bool) × Member s (union_sets columns rows) × (r ≡ joined rows s)
