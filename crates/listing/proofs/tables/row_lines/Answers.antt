-- The lines of the rows so far are written.
use Rattle.std.proofs.Common.{sym, arith, [], append-nil}
use Rattle.definitions.proofs.Images.{rows_length}
use Rattle.text.proofs.Writing.{each_start, each_turn, each_fits, each_end}
use Rattle.listing.proofs.tables.row_lines.Goals as goal

pub loop-i-init : goal.loop-i-init
loop-i-init c = each_start _ _ _ _ c.requires

pub row_line-requires : goal.row_line-requires
row_line-requires c =
    let t = c.args.rows.now in
    each_fits c.loop-i.invariant _ [] (omega (arith, rows_length t.width t.len t.cells.now)) c.row.ensures.listed [] (sym (append-nil _)) c.requires

pub loop-i-preserved : goal.loop-i-preserved
loop-i-preserved c =
    let t = c.args.rows.now in
    each_turn c.loop-i.invariant _ [] (omega (arith, rows_length t.width t.len t.cells.now)) c.row.ensures.listed c.row_line.ensures

pub returns : goal.returns
returns c =
    let t = c.args.rows.now in
    each_end c.loop-i.invariant (omega (arith, rows_length t.width t.len t.cells.now))
