-- `unite` gives the positions of both sets: the operation is that of the definition.
use mathlib.Core.Path.{refl}
use Rattle.bitsets.specs.Bits.{either}
use Rattle.bitsets.proofs.unite.Goals as goal

pub returns : goal.returns
unfolding either
returns c = refl
