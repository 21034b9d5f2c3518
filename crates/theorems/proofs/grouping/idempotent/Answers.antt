-- The law of this name.
use Rattle.definitions.proofs.Grouping.{idempotent as law}
use Rattle.theorems.proofs.grouping.idempotent.Goals as goal

pub returns : goal.returns
returns c = law
