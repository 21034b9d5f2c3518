-- Demand 3: the words of a table buffer and a set buffer, read by document 01's layouts, hold what each sentence asks for.
use Rattle.std.specs.Prelude.{◌≡◌, Bool, true, ◌↔◌, List, [], map, ℕ, ◌<◌, length, get_or, take}
use Rattle.definitions.specs.Limits.{mark_words}
use Rattle.definitions.specs.Image.{image_rows}
use Rattle.definitions.specs.OuterUnion.{compare_row, union_columns, union_rows}
use Rattle.definitions.specs.MinimumUnion.{minimum_rows}
use Rattle.definitions.specs.ComplementUnion.{complement, compare_set, members, joined}
use Rattle.definitions.specs.Reading.{set_count, records_in, set_in, joined_position}
use Rattle.definitions.specs.Answer.{Outcome, done, refused}
use Rattle.definitions.specs.Statements.{Member, StrictlyAscending}
use Rattle.definitions.specs.Claims.{Covered}

-- ---- a set of rows of T

module _ (columns : List ℕ) (T : List (List ℕ)) (s : List Bool) where
  abbrev pub In : List ℕ → Type 0
  In r = Member r (members T s)

  -- "the set isn't empty, every two different rows in it complement each other, and no row of T outside it complements
  -- all its rows"
  pub record MaximalRows : Type 0 where
    pub size : length s ≡ length T
    pub some : (r : List ℕ) × In r
    pub pairwise : (q r : List ℕ) → In q → In r → (q ≡ r → ⊥) → complement columns q r ≡ true
    pub outside : (r : List ℕ) → Member r T → (In r → ⊥) → ((q : List ℕ) → In q → complement columns r q ≡ true) → ⊥

-- ---- the demand

-- the sets of positions of T that the set buffer lists, in their order: of a record's set as many positions as T has rows
abbrev pub listed_sets : List (List ℕ) → List ℕ → List (List Bool)
listed_sets T sets = map (λ words. take (length T) (set_in mark_words words)) (records_in mark_words sets)

-- the position in the fused table that the record at k names
abbrev pub position_at : List ℕ → ℕ → ℕ
position_at sets k = joined_position mark_words (get_or (records_in mark_words sets) k [])

-- What is read here is what each sentence speaks of; kinds of words, unused bits and column words are told by the equations of the promise.
-- `columns` are the union's column words: "Comparison is with the new condition" of request A2.
pub record Demand3 (columns : List ℕ) (T : List (List ℕ)) (table sets : List ℕ) : Type 0 where
  -- "lists a set of rows of T exactly when the set isn't empty, every two different rows in it complement each other,
  -- and no row of T outside it complements all its rows"
  pub exactly : (s : List Bool) → Member s (listed_sets T sets) ↔ MaximalRows columns T s
  -- "Each such set stands in the set list once, in document 01's set order,"
  pub once_in_order : StrictlyAscending compare_set (listed_sets T sets)
  -- "with the position of its joined row in the fused table."
  pub with_its_row : (k : ℕ) → k < set_count sets
      → (position_at sets k < length (image_rows table))
      × (get_or (image_rows table) (position_at sets k) [] ≡ joined T (get_or (listed_sets T sets) k []))
  -- "That table holds these joined rows and no others,"
  pub all_joined_rows : (r : List ℕ) → Member r (image_rows table) ↔ ((s : List Bool) × Member s (listed_sets T sets) × (r ≡ joined T s))
  -- "each once, ascending."
  pub rows_once : StrictlyAscending compare_row (image_rows table)
  -- "Every row of T,"
  pub every_row : (t : List ℕ) → Member t T → Covered (image_rows table) t
  -- "and so every row of the minimum union, is equal to or subsumed by a fused row."
  pub every_minimum_row : (t : List ℕ) → Member t (minimum_rows T) → Covered (image_rows table) t

-- "Whatever the two tables hold, a complement union of them that isn't refused": T is "the distinct rows of the outer
-- union"
unfoldable pub MeetsDemand3 : Outcome → List ℕ → List ℕ → List ℕ → List ℕ → Type 0
MeetsDemand3 answer a b table sets = (values : List ℕ) → answer ≡ done values → Demand3 (union_columns a b) (union_rows a b) table sets

-- ---- its last sentence

-- how many words an answer of a union says are written into the table buffer, and one of complement union into the set buffer
abbrev pub words_of_table : Outcome → ℕ
words_of_table (done values) = get_or values 1 0
words_of_table (refused number table) = 0

abbrev pub words_of_sets : Outcome → ℕ
words_of_sets (done values) = get_or values 4 0
words_of_sets (refused number table) = 0

-- "the same answer, done or refused, and the same written words"
pub record SameResult (x y : Outcome) (table₁ table₂ sets₁ sets₂ : List ℕ) : Type 0 where
  pub answer : x ≡ y
  pub table_words : take (words_of_table x) table₁ ≡ take (words_of_table y) table₂
  pub set_words : take (words_of_sets x) sets₁ ≡ take (words_of_sets y) sets₂
