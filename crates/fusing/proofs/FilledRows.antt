-- A cell of a row that stands in a flat list of words. Assumes nothing.
use mathlib.Core.Path.{◌≡◌, ◌∙◌}
use mathlib.Core.List.{List}
use Prim.Native.Nat.{ℕ, ◌+◌, ◌*◌, ◌<◌}
use lib.ListN.{get_or, drop}
use lib.Seq.{get_or-take, get_or-drop}
use Rattle.rows.specs.Indices.{row_at}

-- the cell i of the row k
pub cell_at_lem : (c k i : ℕ) (w : List ℕ) → i < c → get_or (row_at c w k) i 0 ≡ get_or w (k * c + i) 0
cell_at_lem c k i w h = get_or-take c (drop (k * c) w) i 0 h ∙ get_or-drop (k * c) w i 0
