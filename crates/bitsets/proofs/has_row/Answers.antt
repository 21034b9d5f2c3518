-- `has_row` tells whether a position is in the set: the test is that of the definition.
use mathlib.Core.Path.{refl}
use Rattle.bitsets.specs.Bits.{has}
use Rattle.bitsets.proofs.has_row.Goals as goal

pub returns : goal.returns
unfolding has
returns c = refl
