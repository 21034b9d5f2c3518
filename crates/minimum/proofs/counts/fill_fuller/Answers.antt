-- `fill_fuller` meets its contract. The loop's invariant: the words from k on hold the rows with a larger count. Assumes nothing.
use native.Mathlib.Omega.{arith}
use Rattle.minimum.proofs.Counting.{fuller_none, fuller_turn}
use Rattle.minimum.proofs.counts.fill_fuller.Goals as goal

pub loop-k-init : goal.loop-k-init
loop-k-init c =
    let words = c.rows_by_count.new.words in
    fuller_none c.args.counts.now words (λ j. omega (arith, c.requires.counts_len_bound.1 j, c.rows_by_count.auto.words)) c.rows_by_count.ensures

pub loop-k-preserved : goal.loop-k-preserved
loop-k-preserved c =
    let words = c.rows_by_count.new.words in
    let l = c.loop-k in
    fuller_turn c.args.counts.now words (λ j. omega (arith, c.requires.counts_len_bound.1 j, c.rows_by_count.auto.words)) c.rows_by_count.ensures
    l.k l.fuller l.words c.loop-k-test.true l.auto.k l.invariant
