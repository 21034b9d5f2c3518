-- The law of this name.
use Rattle.definitions.proofs.Pages.{pages_are_counted as law}
use Rattle.theorems.proofs.paging.pages_are_counted.Goals as goal

pub returns : goal.returns
returns c = law
