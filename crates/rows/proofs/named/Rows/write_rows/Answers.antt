-- `write_rows` writes one row after the other (Writing). The invariant: the words of the rows so far are written.
use mathlib.Core.Path.{refl}
use Rattle.rows.proofs.Writing.{row_room, rows_turn}
use Rattle.rows.proofs.named.Rows.write_rows.Goals as goal

pub write_over-requires : goal.write_over-requires
write_over-requires c =
    let t = c.args.self.now in
    let l = c.loop-k in
    row_room c.args.dst.now t.cells.now c.args.order.now t.width t.len t.fits c.requires.0 c.requires.1 l.k _ c.loop-k-test.true refl _ c.row.ensures.at l.dst l.invariant

pub loop-k-preserved : goal.loop-k-preserved
loop-k-preserved c =
    let t = c.args.self.now in
    let l = c.loop-k in
    rows_turn c.args.dst.now t.cells.now c.args.order.now t.width t.len t.fits c.requires.0 c.requires.1 l.k _ c.loop-k-test.true refl _ c.row.ensures.at
    l.dst _ l.invariant c.write_over.ensures
