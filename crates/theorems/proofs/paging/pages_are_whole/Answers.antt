-- The law of this name.
use Rattle.definitions.proofs.Pages.{pages_are_whole as law}
use Rattle.theorems.proofs.paging.pages_are_whole.Goals as goal

pub returns : goal.returns
returns c = law
