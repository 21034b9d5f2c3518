-- The law of this name.
use Rattle.definitions.proofs.Pages.{no_cell_is_lost as law}
use Rattle.theorems.proofs.paging.no_cell_is_lost.Goals as goal

pub returns : goal.returns
returns c = law
