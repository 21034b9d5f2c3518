-- `below` gives the rows below one: the shifted one is the power of two.
use mathlib.Core.Path.{ap}
use Prim.Native.Nat.{ℕ, ◌-◌}
use Rattle.bitsets.specs.Bits.{rows_below, word_bits}
use Rattle.bitsets.proofs.Bits.{bit_at}
use Rattle.bitsets.proofs.below.Goals as goal

pub returns : goal.returns
unfolding rows_below
returns c = ap (λ (x : ℕ). x - 1) (bit_at word_bits c.args.i c.requires)
