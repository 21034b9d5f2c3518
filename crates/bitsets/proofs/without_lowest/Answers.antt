-- `without_lowest` drops the smallest position: the operation is that of the definition.
use mathlib.Core.Path.{refl}
use Rattle.bitsets.specs.Bits.{without_lowest}
use Rattle.bitsets.proofs.without_lowest.Goals as goal

pub returns : goal.returns
unfolding without_lowest
returns c = refl
