-- `minus` gives the positions of a set that are not in another: the operations are those of the definition.
use mathlib.Core.Path.{refl}
use Rattle.bitsets.specs.Bits.{both, only_one, but_not}
use Rattle.bitsets.proofs.minus.Goals as goal

pub returns : goal.returns
unfolding both only_one but_not
returns c = refl
