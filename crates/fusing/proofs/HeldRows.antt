-- What `UnionRows` says of its rows. Assumes nothing.
use mathlib.Core.Path.{sym, ◌∙◌, ap}
use Prim.Native.Nat.{ℕ, ◌<◌}
use native.Mathlib.Omega.{arith}
use lib.ListN.{get_or}
use Rattle.definitions.proofs.Images.{rows_length}
use Rattle.bitsets.specs.Bits.{has, Inside}
use Rattle.patterns.proofs.FilledRows.{filled_within}
use Rattle.fusing.specs.declared.union_rows.UnionRows.{UnionRows}
use Rattle.fusing.specs.Fused.{RowsOf}
use Rattle.fusing.specs.UnionRows.{rows_of}

module _ (t : UnionRows) where
  pub rows_held : RowsOf t.rows t.columns.now
  rows_held = record { few = t.few; filled = t.filled }

  -- the rows that are filled in a column are rows of T
  pub filled_inside : (c : ℕ) → c < t.rows.width → Inside (get_or t.columns.now c 0) t.rows.len
  filled_inside c h k g =
      omega (arith, filled_within (rows_of t) c k (ap (λ (x : ℕ). has x k) (sym (t.filled.words c h)) ∙ g), rows_length t.rows.width t.rows.len t.rows.cells.now)
