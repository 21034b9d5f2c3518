-- `rows_by_count` meets its contract. The loop's invariant: each word holds, of the first j rows, those with its count. Assumes nothing.
use native.Mathlib.Omega.{arith}
use Rattle.minimum.proofs.Counting.{equal_none, equal_turn}
use Rattle.minimum.proofs.counts.rows_by_count.Goals as goal

pub loop-j-init : goal.loop-j-init
loop-j-init c = equal_none c.args.counts.now c.args.words.now c.requires.by_index

pub loop-j-preserved : goal.loop-j-preserved
loop-j-preserved c =
    let l = c.loop-j in
    let bounds = c.requires.counts_len_bound in
    equal_turn c.args.counts.now l.words l.j (omega (arith, bounds.0)) (omega (arith, bounds.1 l.j)) l.invariant
