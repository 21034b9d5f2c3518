-- The rows passed stand in the cells, widened.
use Rattle.tables.proofs.WidenLaws.{Widening}
use Rattle.tables.proofs.widen.widen_rows.Given as goal

abbrev pub invariant-loop-i : goal.invariant-loop-i
invariant-loop-i l = Widening l.image.words.now l.all l.initial.cells l.i l.cells
