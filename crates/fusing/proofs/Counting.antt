-- The columns that condition (3) counts, written one after the other. Assumes nothing.
use mathlib.Core.Path.{◌≡◌}
use mathlib.Core.Bool.{cond}
use mathlib.Core.List.{List}
use Prim.Native.Nat.{ℕ, ◌<◌}
use lib.ListN.{get_or}
use Rattle.definitions.specs.Claims.{counts_column}

-- the word of a column, or one that holds no row
abbrev pub counted_word : List ℕ → List ℕ → ℕ → ℕ
counted_word words columns c = cond (counts_column words c) (get_or columns c 0) 0

-- the words of the first c columns are written
abbrev pub CountedTo : List ℕ → List ℕ → List ℕ → ℕ → Type 0
CountedTo words columns counted c = (i : ℕ) → i < c → get_or counted i 0 ≡ counted_word words columns i
