-- `leader` meets its contract. The loop's invariant: those of the rows that are not in the rest have another cell.
use Rattle.fusing.specs.Groups.{cell_at}
use Rattle.fusing.proofs.Grouping.{Seeking}
use Rattle.fusing.proofs.groups.leader.Given as goal

abbrev pub invariant-loop-k : goal.invariant-loop-k
invariant-loop-k l = Seeking (cell_at l.t.rows.width l.t.rows.cells.now l.c) l.cell l.rows l.k-iterator.rest
