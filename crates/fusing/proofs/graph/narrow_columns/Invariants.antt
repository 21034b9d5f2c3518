-- `narrow_columns` meets its contract. The loop's invariant: the words hold what the columns passed leave.
use Rattle.fusing.specs.UnionRows.{rows_of}
use Rattle.fusing.proofs.Narrowing.{NarrowedTo}
use Rattle.fusing.proofs.graph.narrow_columns.Given as goal

abbrev pub invariant-loop-c : goal.invariant-loop-c
invariant-loop-c l = NarrowedTo (rows_of l.t) l.initial.neighbours l.c l.neighbours
