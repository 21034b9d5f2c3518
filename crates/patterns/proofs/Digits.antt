-- Bits as the digits of a number: a bound, and one bit more. Assumes nothing.
use mathlib.Core.Path.{◌≡◌, sym, ◌∙◌, ap₂}
use mathlib.Core.Bool.{Bool, true, false, cond}
use mathlib.Core.List.{List, [], ◌∷◌, ◌++◌}
use Prim.Native.Nat.{ℕ, ◌+◌, ◌*◌, ◌%◌, ◌^◌, ◌<◌}
use native.Mathlib.Nat.{pow-suc}
use native.Mathlib.Omega.{arith}
use lib.ListN.{length}
use lib.Bits.{bit_or, or_shifted_r}
use lib.Pow.{shl_exact}
use Rattle.definitions.specs.SetList.{bits}

pub bit_small : (b : Bool) → cond b 1 0 < 2
bit_small true = omega arith
bit_small false = omega arith

pub bits_small : (s : List Bool) → bits s < 2 ^ length s
unfolding bits
bits_small [] = omega arith
bits_small (m ∷ s) = rw (pow-suc 2 (length s)) (omega (arith, bits_small s, bit_small m))

bits_snoc : (s : List Bool) (m : Bool) → bits (s ++ (m ∷ [])) ≡ cond m 1 0 * 2 ^ length s + bits s
unfolding bits
bits_snoc [] m = omega arith
bits_snoc (x ∷ s) m = rw (bits_snoc s m, pow-suc 2 (length s)) (doubled m (2 ^ length s))
  where
    doubled : (m : Bool) (p : ℕ) → cond x 1 0 + 2 * (cond m 1 0 * p + bits s) ≡ cond m 1 0 * (p * 2) + (cond x 1 0 + 2 * bits s)
    doubled true p = omega arith
    doubled false p = omega arith

-- the bit of the next position, shifted there
pub digit_next : (width : ℕ) (s : List Bool) (m : Bool) (w b k : ℕ) → k < width → length s ≡ k → w ≡ bits s → b ≡ cond m 1 0
    → bit_or w (b * 2 ^ k % 2 ^ width) ≡ bits (s ++ (m ∷ []))
digit_next width s m w b k h e ew eb =
    let small : b < 2 = rw eb (bit_small m) in
    let at : bits s < 2 ^ k = rw (← e) (bits_small s) in
    ap₂ bit_or ew (shl_exact 1 k width small (omega arith))
    ∙ or_shifted_r b k (bits s) at
    ∙ rw (eb, ← e) (sym (bits_snoc s m))
