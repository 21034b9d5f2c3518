-- How worked cases write cells and columns. Assumes nothing.
use mathlib.Core.Bool.{true, false}
use Prim.Native.Nat.{ℕ}
use Rattle.definitions.specs.Word.{word_of, column_word}
-- the cell `none` of request A4
pub use Rattle.definitions.specs.Word.{none as ∄}

-- a filled cell with its number
abbrev pub # : ℕ → ℕ
# number = word_of 1 number

-- the empty cell
abbrev pub ∅ : ℕ
∅ = 0

-- a column with an id, and one that is marked
abbrev pub column : ℕ → ℕ
column id = column_word id false

abbrev pub marked : ℕ → ℕ
marked id = column_word id true
