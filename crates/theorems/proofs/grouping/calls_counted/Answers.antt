-- The law of this name.
use Rattle.definitions.proofs.GroupedCalls.{calls_counted as law}
use Rattle.theorems.proofs.grouping.calls_counted.Goals as goal

pub returns : goal.returns
returns c = law
