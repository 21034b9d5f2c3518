-- `crossing` meets its contract. The loop's invariant: the words hold of each row what the columns passed say.
use Rattle.fusing.proofs.Crossing.{PassedColumns}
use Rattle.fusing.proofs.graph.crossing.Given as goal

abbrev pub invariant-loop-c : goal.invariant-loop-c
invariant-loop-c l = PassedColumns l.row l.columns l.counted l.shared l.above l.within l.c
