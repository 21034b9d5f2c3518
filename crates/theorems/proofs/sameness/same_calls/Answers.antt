-- The law of this name.
use Rattle.definitions.proofs.Promise.{same_calls as law}
use Rattle.theorems.proofs.sameness.same_calls.Goals as goal

pub returns : goal.returns
returns c = law
