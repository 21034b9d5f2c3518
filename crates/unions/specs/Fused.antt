-- What complement union's questions from 9 on ask of T in a table in work, and what they leave in both buffers.
use Rattle.std.specs.Prelude.{◌≡◌, List, ℕ, ◌≤◌, length, take}
use Rattle.definitions.specs.Limits.{max_columns}
use Rattle.definitions.specs.SetList.{set_list}
use Rattle.definitions.specs.Answer.{Outcome, afterwards}
use Rattle.definitions.specs.Calls.{fused_table, rooms_outcome, sets_outcome}
use Rattle.definitions.specs.Image.{rows_in}
use Rattle.tables.specs.declared.Table.{Table}
use Rattle.fusing.specs.declared.union_rows.UnionRows.{UnionRows}
use Rattle.fusing.specs.Fused.{AllSetsOf}
use Rattle.fusing.specs.UnionRows.{rows_of}

-- the rows of T, and the list of its sets
pub record ListedRows (t : UnionRows) (list : List ℕ) : Type 0 where
  pub few_columns : length t.column_words.now ≤ max_columns
  pub sets : AllSetsOf t.column_words.now (rows_of t) list

-- the answer is the outcome, and both buffers are left as it tells
pub record FusedBy (outcome : Outcome) (words : List ℕ) (rows : List (List ℕ)) (answer : Outcome)
    (table table_after sets sets_after : List ℕ) : Type 0 where
  pub answers : answer ≡ outcome
  pub writes : table_after ≡ afterwards answer (fused_table words rows) table
  pub lists : sets_after ≡ afterwards answer (set_list words rows) sets

-- for the questions 10 and 11
abbrev pub FusedInto : List ℕ → List (List ℕ) → Outcome → List ℕ → List ℕ → List ℕ → List ℕ → Type 0
FusedInto words rows answer table table_after sets sets_after =
    FusedBy (rooms_outcome words rows (length table) (length sets)) words rows answer table table_after sets sets_after

-- for the questions from 9 on
abbrev pub FusedUnion : List ℕ → List (List ℕ) → Outcome → List ℕ → List ℕ → List ℕ → List ℕ → Type 0
FusedUnion words rows answer table table_after sets sets_after =
    FusedBy (sets_outcome words rows (length table) (length sets)) words rows answer table table_after sets sets_after

-- the same of T in a table in work
pub record FusedTable (t : Table) (answer : Outcome) (table table_after sets sets_after : List ℕ) : Type 0 where
  pub fused : FusedUnion (take t.columns t.ids) (rows_in t.columns t.rows t.cells) answer table table_after sets sets_after
