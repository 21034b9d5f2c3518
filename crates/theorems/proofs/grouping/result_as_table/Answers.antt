-- The law of this name.
use Rattle.definitions.proofs.MinimumResult.{result_as_table as law}
use Rattle.theorems.proofs.grouping.result_as_table.Goals as goal

pub returns : goal.returns
returns c = law
