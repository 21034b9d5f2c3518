-- `narrow_rows` meets its contract. The loop's invariant: the words of the rows that are not in the rest are narrowed.
use Rattle.fusing.proofs.Narrowing.{Narrowing}
use Rattle.fusing.proofs.graph.narrow_rows.Given as goal

abbrev pub invariant-loop-j : goal.invariant-loop-j
invariant-loop-j l = Narrowing l.filled l.groups.leaders l.groups.equal l.initial.neighbours l.j-iterator.rest l.neighbours
