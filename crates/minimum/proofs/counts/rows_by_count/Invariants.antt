-- `rows_by_count` meets its contract. The loop's invariant: each word holds, of the first j rows, those with its count. Assumes nothing.
use Rattle.minimum.specs.Candidates.{EqualTo}
use Rattle.minimum.proofs.counts.rows_by_count.Given as goal

abbrev pub invariant-loop-j : goal.invariant-loop-j
invariant-loop-j l = EqualTo l.counts l.j l.words
