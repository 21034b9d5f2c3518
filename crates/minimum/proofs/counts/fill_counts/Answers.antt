-- `fill_counts` meets its contract: the next count is that of the next row. Assumes nothing.
use native.Mathlib.Omega.{arith}
use Rattle.minimum.proofs.Counting.{counts_turn}
use Rattle.minimum.proofs.counts.fill_counts.Goals as goal

pub loop-i-preserved : goal.loop-i-preserved
loop-i-preserved c =
    let t = c.args.rows.now in
    let l = c.loop-i in
    counts_turn t.width l.i t.cells.now _ l.counts _ (omega arith) l.invariant c.row.ensures.at c.count_filled.ensures
