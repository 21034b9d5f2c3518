-- A new table has the union's column words, and empty cells.
use mathlib.Core.Path.{refl}
use Prim.Native.Nat.{◌*◌}
use Rattle.definitions.specs.Limits.{max_columns, max_union_rows}
use Rattle.tables.proofs.Scatter.{empty_cells}
use Rattle.tables.proofs.Table.new.Goals as goal

pub returns : goal.returns
returns c =
    let s = c.union_columns.ensures in
    record { ids = s.0; id_words = s.1; columns = refl; rows = refl; empty = empty_cells (max_union_rows * max_columns) }
