-- The law of this name.
use Rattle.definitions.proofs.GroupedCalls.{calls_associative as law}
use Rattle.theorems.proofs.grouping.calls_associative.Goals as goal

pub returns : goal.returns
returns c = law
