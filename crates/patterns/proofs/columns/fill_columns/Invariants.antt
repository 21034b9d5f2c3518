-- `fill_columns` meets its contract. The loop's invariant: the words hold the first j rows. Assumes nothing.
use Rattle.definitions.specs.Image.{rows_in}
use Rattle.patterns.specs.Columns.{ColumnsOf}
use Rattle.patterns.proofs.columns.fill_columns.Given as goal

abbrev pub invariant-loop-j : goal.invariant-loop-j
invariant-loop-j l = ColumnsOf (rows_in l.rows.width l.j l.rows.cells.now) l.rows.width l.columns
