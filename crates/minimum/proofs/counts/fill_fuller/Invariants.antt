-- `fill_fuller` meets its contract. The loop's invariant: the words from k on hold the rows with a larger count. Assumes nothing.
use Rattle.minimum.proofs.Counting.{FullerFrom}
use Rattle.minimum.proofs.counts.fill_fuller.Given as goal

abbrev pub invariant-loop-k : goal.invariant-loop-k
invariant-loop-k l = FullerFrom l.counts l.initial.words l.k l.fuller l.words
