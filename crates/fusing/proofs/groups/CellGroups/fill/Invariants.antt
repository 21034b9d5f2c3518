-- `fill` meets its contract. The loop's invariant: the rows that are not in the rest are grouped.
use lib.ListN.{get_or}
use Rattle.fusing.specs.Groups.{cell_at}
use Rattle.fusing.proofs.Grouping.{Grouping}
use Rattle.fusing.proofs.groups.CellGroups.fill.Given as goal

abbrev pub invariant-loop-j : goal.invariant-loop-j
invariant-loop-j l =
    Grouping (cell_at l.t.rows.width l.t.rows.cells.now l.c) (get_or l.t.columns.now l.c 0) l.j-iterator.rest l.buckets l.self.leaders l.self.equal
