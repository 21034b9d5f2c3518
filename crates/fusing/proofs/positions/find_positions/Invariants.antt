-- `find_positions` meets its contract. The loop's invariant: the positions of the first k rows are written over those that the indices tell.
use Rattle.rows.specs.Indices.{rows_at}
use Rattle.rows.specs.Rows.{rows_of}
use Rattle.fusing.specs.Positions.{positions_in}
use Rattle.fusing.proofs.RowPositions.{Placed}
use Rattle.fusing.proofs.positions.find_positions.Given as goal

abbrev pub invariant-loop-k : goal.invariant-loop-k
invariant-loop-k l = Placed l.order (positions_in (rows_at l.rows.width l.rows.cells.now l.order) (rows_of l.rows)) l.k l.positions
