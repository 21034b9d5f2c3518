-- The law of this name.
use Rattle.definitions.proofs.GroupedCalls.{calls_idempotent as law}
use Rattle.theorems.proofs.grouping.calls_idempotent.Goals as goal

pub returns : goal.returns
returns c = law
