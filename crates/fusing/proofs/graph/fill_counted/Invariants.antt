-- `fill_counted` meets its contract. The loop's invariant: the words of the columns passed are written.
use Rattle.fusing.proofs.Counting.{CountedTo}
use Rattle.fusing.proofs.graph.fill_counted.Given as goal

abbrev pub invariant-loop-c : goal.invariant-loop-c
invariant-loop-c l = CountedTo l.t.column_words.now l.t.columns.now l.counted l.c
