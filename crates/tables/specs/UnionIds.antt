-- The indices of ids in a union, and the cells of a row written at such indices.
use Rattle.std.specs.Prelude.{◌≡◌, Bool, true, not, ◌||◌, List, [], ◌∷◌, ◌++◌, map, ℕ, ◌^◌, ◌≤◌, ◌<◌, eqb, ltb, length, get_or, set}
use Rattle.definitions.specs.Limits.{max_columns}
use Rattle.definitions.specs.Lists.{any, filter, distinct}
use Rattle.definitions.specs.Word.{id_of, column_word}
use Rattle.definitions.specs.Image.{image_ids}
use Rattle.definitions.specs.Ascending.{ascending}
use Rattle.definitions.specs.OuterUnion.{compare_word, union_ids, marks}
use Rattle.definitions.specs.Statements.{Member, StrictlyAscending}

-- those of a list's ids that are none of the known ones
abbrev pub new_ids : List ℕ → List ℕ → List ℕ
new_ids known ids = filter (λ id. not (any (eqb id) known)) ids

-- ids, and after them those of a second list that are none of them
abbrev pub with_new : List ℕ → List ℕ → List ℕ
with_new ids more = ids ++ new_ids ids more

-- ids in ascending order
abbrev pub in_order : List ℕ → List ℕ
in_order ids = ascending compare_word ids

-- the ids of two images, each once
pub record BothIds (a b all : List ℕ) : Type 0 where
  pub differ : distinct eqb all ≡ true
  pub union : in_order all ≡ union_ids a b

-- distinct ids that column words can hold, few enough for a table
pub record ColumnIds (all : List ℕ) : Type 0 where
  pub few : length all ≤ max_columns
  pub differ : distinct eqb all ≡ true
  pub small : (k : ℕ) → k < length all → get_or all k 0 < 2 ^ 16

-- column words of these ids, in order, each with the mark that is told of its id
abbrev pub ColumnsWith : (ℕ → Bool) → List ℕ → List ℕ → Type 0
ColumnsWith marked all ids = ids ≡ map (λ id. column_word id (marked id)) (in_order all)

-- column words of a table, all the ids, its own among them, and the words of all
pub record Markable (columns all ids : List ℕ) : Type 0 where
  pub union : ColumnIds all
  pub known : (id : ℕ) → Member id (map id_of columns) → Member id all
  pub words : length ids ≡ length all

-- the words have got the marks of these columns, whatever marks they had
abbrev pub MarksAdded : List ℕ → List ℕ → List ℕ → List ℕ → Type 0
MarksAdded columns all found ids = (marked : ℕ → Bool) → ColumnsWith marked all found → ColumnsWith (λ id. marked id || marks columns id) all ids

-- how many words of a list are smaller
abbrev pub smaller_than : ℕ → List ℕ → ℕ
smaller_than x words = length (filter (λ y. ltb y x) words)

-- the index of each id in an ascending list
abbrev pub indices_in : List ℕ → List ℕ → List ℕ
indices_in union ids = map (λ id. smaller_than id union) ids

-- the cells of a row written one by one, each at its index
unfoldable pub scattered : List ℕ → List ℕ → List ℕ → List ℕ
scattered cells [] row = cells
scattered cells (p ∷ indices) [] = cells
scattered cells (p ∷ indices) (v ∷ row) = scattered (set cells p v) indices row

-- a union's ids are strictly ascending and have every id of the image
pub record Covers (union image : List ℕ) : Type 0 where
  pub strict : StrictlyAscending compare_word union
  pub has : (id : ℕ) → Member id (image_ids image) → Member id union
