-- The parts of an image that code lends: its column words, its cells and a row.
-- Assumes nothing.
use mathlib.Core.Path.{◌≡◌}
use mathlib.Core.List.{List}
use Prim.Native.Nat.{ℕ, ◌+◌, ◌-◌, ◌*◌}
use native.Mathlib.Nat.{add-sub_cancel_left}
use lib.ListN.{length, take, drop}
use lib.Seq.{drop-drop}
use Rattle.std.proofs.lemmas.List.{take_rest}
use Rattle.definitions.specs.Image.{column_count, column_words, cell_words}

module _ (k : ℕ) (w : List ℕ) (e : k ≡ column_count w) where
  pub columns_part : take (1 + k - 1) (drop 1 w) ≡ column_words w
  columns_part = rw (add-sub_cancel_left 1 k, e)

  pub cells_part : take (length w - (1 + k)) (drop (1 + k) w) ≡ cell_words w
  cells_part = rw (take_rest w (1 + k), e)

  pub row_part : (i at : ℕ) → at ≡ 1 + k + i * k → take (at + k - at) (drop at w) ≡ take (column_count w) (drop (i * column_count w) (cell_words w))
  row_part i at h = rw (add-sub_cancel_left at k, h, ← drop-drop (i * k) (1 + k) w, e)
