-- `size` counts the positions of a set: as many as the number has ones.
use mathlib.Core.Path.{sym}
use Rattle.bitsets.proofs.Sizes.{size_ones}
use Rattle.bitsets.proofs.size.Goals as goal

pub returns : goal.returns
returns c = λ n h. sym (size_ones n c.args.set h)
