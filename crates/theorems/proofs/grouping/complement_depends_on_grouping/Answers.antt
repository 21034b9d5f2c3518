-- The tables of the worked case.
use Rattle.definitions.proofs.ThreeTables.{calls_differ}
use Rattle.theorems.proofs.grouping.complement_depends_on_grouping.Goals as goal

pub returns : goal.returns
returns c = (_, _, _, calls_differ)
