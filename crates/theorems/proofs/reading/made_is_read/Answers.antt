-- The law of this name.
use Rattle.definitions.proofs.MadeIsRead.{made_is_read as law}
use Rattle.theorems.proofs.reading.made_is_read.Goals as goal

pub returns : goal.returns
returns c = law
