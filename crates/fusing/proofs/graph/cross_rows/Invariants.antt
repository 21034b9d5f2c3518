-- `cross_rows` meets its contract. The loop's invariant: the words of the first j rows hold the rows that cross them.
use Rattle.fusing.specs.UnionRows.{rows_of}
use Rattle.fusing.proofs.Crossing.{CrossingTo}
use Rattle.fusing.proofs.graph.cross_rows.Given as goal

abbrev pub invariant-loop-j : goal.invariant-loop-j
invariant-loop-j l = CrossingTo l.t.column_words.now (rows_of l.t) l.crossed-items l.j
