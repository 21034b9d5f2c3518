-- The law of this name.
use Rattle.definitions.proofs.KnownNone.{none_is_shown as law}
use Rattle.theorems.proofs.none.none_is_shown.Goals as goal

pub returns : goal.returns
returns c = law
