-- The law of this name.
use Rattle.definitions.proofs.FusedPasses.{fused_has_pages as law}
use Rattle.theorems.proofs.paging.fused_has_pages.Goals as goal

pub returns : goal.returns
returns c = law
