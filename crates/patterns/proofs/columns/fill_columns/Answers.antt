-- `fill_columns` meets its contract: row j goes into the words that hold the rows before it. Assumes nothing.
use Rattle.patterns.proofs.FilledRows.{columns_more}
use Rattle.patterns.proofs.columns.fill_columns.Goals as goal

pub loop-j-preserved : goal.loop-j-preserved
loop-j-preserved c =
    let t = c.args.rows.now in
    let l = c.loop-j in
    columns_more t.width t.len l.j t.cells.now c.row.result.now t.fits c.loop-j-test.true c.row.ensures.at l.columns _ l.invariant c.add_row.ensures
