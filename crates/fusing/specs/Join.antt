-- The joined rows of sets as bits: bit k of a set says whether row k is in it.
use Rattle.std.specs.Prelude.{cond, List, [], ◌∷◌, ℕ, suc, ◌+◌, ◌*◌, eqb, get_or}
use Rattle.std.specs.Int.Bits.{bit_and}
use Rattle.bitsets.specs.Bits.{lowest}

-- the cell in a column of the first row of the set; empty where the set is
unfoldable pub pick_cell : ℕ → List ℕ → ℕ → ℕ → ℕ
pick_cell width cells column set = cond (eqb set 0) 0 (get_or cells (lowest set * width + column) 0)

-- in each column from one on the cell of the first row of the set that is filled there
unfoldable pub pick_from : ℕ → List ℕ → ℕ → ℕ → List ℕ → List ℕ
pick_from width cells set column [] = []
pick_from width cells set column (filled ∷ columns) = pick_cell width cells column (bit_and set filled) ∷ pick_from width cells set (suc column) columns
