-- `with_row` adds a position: the shifted one is the power of two.
use mathlib.Core.Path.{ap}
use Prim.Native.Nat.{ℕ}
use lib.Bits.{bit_or}
use Rattle.bitsets.specs.Bits.{with_row, word_bits}
use Rattle.bitsets.proofs.Bits.{bit_at}
use Rattle.bitsets.proofs.with_row.Goals as goal

pub returns : goal.returns
unfolding with_row
returns c = ap (λ (x : ℕ). bit_or c.args.set x) (bit_at word_bits c.args.k c.requires)
