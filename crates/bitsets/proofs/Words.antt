-- The rows of T as positions of a machine word. Assumes nothing.
use Prim.Native.Nat.{ℕ, ◌≤◌}
use native.Mathlib.Omega.{arith}
use Rattle.definitions.specs.Limits.{max_union_rows}
use Rattle.bitsets.specs.Bits.{word_bits}

-- a word has a bit for each row of T
pub in_word : {n : ℕ} → n ≤ max_union_rows → n ≤ word_bits
in_word h = omega arith
