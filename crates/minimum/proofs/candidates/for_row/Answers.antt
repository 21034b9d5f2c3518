-- `for_row` meets its contract: a turn passes one column more. Assumes nothing.
use lib.ListN.{length}
use Rattle.std.proofs.lemmas.List.{length_push}
use Rattle.std.proofs.lemmas.Slice.Zip.{zip_turn}
use Rattle.minimum.proofs.Passing.{held_next}
use Rattle.minimum.proofs.candidates.for_row.Goals as goal

pub loop-cell-preserved : goal.loop-cell-preserved
loop-cell-preserved c =
    let a = c.args in
    let l = c.loop-cell in
    let i = c.in-Some in
    let turn = zip_turn a.row.now a.columns.now l.yielded c.into_iter-cell-iterator.result l.cell-iterator c.next.new.self c.next.result (cc) (cc) l.yielded_by (i.cell, i.filled) i.is c.next.ensures.steps in
    held_next a.row.now a.fuller a.columns.now (length l.yielded) _ l.set i.cell.now i.filled.now c.blank.result
    (length_push l.yielded (i.cell, i.filled)) (turn.2 0) (turn.3 0) l.invariant c.blank.ensures
