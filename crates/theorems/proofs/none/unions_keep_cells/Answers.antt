-- The law of this name.
use Rattle.definitions.proofs.CellsKept.{unions_keep_cells as law}
use Rattle.theorems.proofs.none.unions_keep_cells.Goals as goal

pub returns : goal.returns
returns c = law
