-- `is_sub` tells whether all of a set is in another, by their intersection.
use mathlib.Core.Path.{ap}
use Prim.Native.Nat.{ℕ}
use lib.Dec.{eqb}
use Rattle.bitsets.specs.Bits.{is_sub}
use Rattle.bitsets.proofs.is_sub.Goals as goal

pub returns : goal.returns
unfolding is_sub
returns c = ap (λ (x : ℕ). eqb x c.args.a) c.meet.ensures
