-- The ones of a word are those of its bytes. Assumes nothing.
use mathlib.Core.Path.{◌≡◌, sym, ◌∙◌, ap}
use Prim.Native.Nat.{ℕ, ◌+◌, ◌*◌, ◌/◌, ◌%◌, ◌^◌, ◌<◌}
use native.Mathlib.Omega.{arith}
use lib.Bits.{bit_and, and_mask}
use lib.Count.{ones, ones_cat}

-- the low byte apart
low_byte : (p : ℕ) → ones p ≡ ones (p / 2 ^ 8) + ones (bit_and p 255)
low_byte p =
    let e : p ≡ p / 2 ^ 8 * 2 ^ 8 + p % 2 ^ 8 = omega arith in
    ap ones e ∙ ones_cat 8 (p / 2 ^ 8) (p % 2 ^ 8) (omega arith) ∙ ap (λ (b : ℕ). ones (p / 2 ^ 8) + ones b) (sym (and_mask p 8))

pub ones_bytes : (p : ℕ) → ones (bit_and p 255) + ones (bit_and (p / 2 ^ 8) 255) + ones (bit_and (p / 2 ^ 16) 255) + ones (p / 2 ^ 24) ≡ ones p
ones_bytes p =
    let d : p / 2 ^ 8 / 2 ^ 8 ≡ p / 2 ^ 16 = omega arith in
    let e : p / 2 ^ 16 / 2 ^ 8 ≡ p / 2 ^ 24 = omega arith in
    omega (arith, low_byte p, low_byte (p / 2 ^ 8), low_byte (p / 2 ^ 16), ap ones d, ap ones e)

pub byte_small : (p : ℕ) → bit_and p 255 < 256
byte_small p = omega (arith, and_mask p 8)
