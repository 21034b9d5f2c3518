-- The law of this name.
use Rattle.definitions.proofs.WrittenAgain.{written_again as law}
use Rattle.theorems.proofs.reading.written_again.Goals as goal

pub returns : goal.returns
returns c = law
