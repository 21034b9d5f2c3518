-- The law of this name.
use Rattle.definitions.proofs.Grouping.{associative as law}
use Rattle.theorems.proofs.grouping.associative.Goals as goal

pub returns : goal.returns
returns c = law
