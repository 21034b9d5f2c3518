-- `meet` gives the positions that are in both: the operation is that of the definition.
use mathlib.Core.Path.{refl}
use Rattle.bitsets.specs.Bits.{both}
use Rattle.bitsets.proofs.meet.Goals as goal

pub returns : goal.returns
unfolding both
returns c = refl
