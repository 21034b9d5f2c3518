-- The law of this name.
use Rattle.definitions.proofs.KnownNone.{joined_rows_take as law}
use Rattle.theorems.proofs.none.joined_rows_take.Goals as goal

pub returns : goal.returns
returns c = law
