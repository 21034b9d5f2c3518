-- The candidates of a row, column by column. Assumes nothing.
use mathlib.Core.Path.{◌≡◌, ◌∙◌, ap}
use mathlib.Core.Bool.{true, not}
use mathlib.Core.List.{List}
use Prim.Native.Nat.{ℕ, ◌+◌, ◌<◌}
use native.Mathlib.Omega.{arith}
use lib.ListN.{get_or}
use lib.Bits.{bit_and, bit_or}
use Rattle.definitions.specs.Word.{is_filled}
use Rattle.definitions.proofs.Bools.{bool_cases}
use Rattle.bitsets.specs.Bits.{has, both, word_bits}
use Rattle.bitsets.proofs.Bits.{both_in_lem, both_l, or_in_l, or_in_r}
use Rattle.patterns.specs.Columns.{blank_of}
use Rattle.patterns.proofs.FilledRows.{has_blank}

-- the set holds those of the fuller rows that are filled wherever the row is, of the first c columns
pub record HeldTo (row : List ℕ) (fuller : ℕ) (columns : List ℕ) (c s : ℕ) : Type 0 where
  pub among : (j : ℕ) → has s j ≡ true → has fuller j ≡ true
  pub held : (j : ℕ) → j < word_bits → has fuller j ≡ true
      → ((i : ℕ) → i < c → is_filled (get_or row i 0) ≡ true → has (get_or columns i 0) j ≡ true) → has s j ≡ true

module _ (row : List ℕ) (fuller : ℕ) (columns : List ℕ) where
  held_turn : (c s empty : ℕ) → HeldTo row fuller columns c s → empty ≡ blank_of (get_or row c 0)
      → HeldTo row fuller columns (c + 1) (bit_and s (bit_or (get_or columns c 0) empty))
  unfolding both
  held_turn c s empty inv b = record {
    among = λ j h. inv.among j (both_l s (bit_or (get_or columns c 0) empty) j h);
    held = λ j h g f.
        both_in_lem s (bit_or (get_or columns c 0) empty) j (inv.held j h g (λ i l k. f i (omega arith) k))
        (bool_cases (is_filled (get_or row c 0))
        (λ k. or_in_l (get_or columns c 0) empty j (f c (omega arith) k))
        (λ k. or_in_r (get_or columns c 0) empty j (ap (λ (x : ℕ). has x j) b ∙ has_blank (get_or row c 0) j h ∙ ap not k)));
  }

  -- the next column, of which a walk tells the cell and the filled rows
  pub held_next : (c n s cell filled empty : ℕ) → n ≡ c + 1 → cell ≡ get_or row c 0 → filled ≡ get_or columns c 0 → HeldTo row fuller columns c s
      → empty ≡ blank_of cell → HeldTo row fuller columns n (bit_and s (bit_or filled empty))
  held_next c n s cell filled empty more ec ef inv e =
      rw (more, ef) (held_turn c s empty inv (e ∙ ap blank_of ec))
