-- `join_set` meets its contract: the next column's cell is picked among rows of T.
use mathlib.Core.Path.{sym, ◌∙◌}
use native.Mathlib.Omega.{arith}
use lib.ListN.{get_or}
use Rattle.bitsets.specs.Bits.{both}
use Rattle.bitsets.proofs.Bits.{both_r}
use Rattle.fusing.proofs.HeldRows.{filled_inside}
use Rattle.fusing.proofs.Picks.{picks_turn, picks_end}
use Rattle.fusing.proofs.join.join_set.Goals as goal

pub pick_cell-requires : goal.pick_cell-requires
unfolding both
pick_cell-requires c =
    let t = c.args.t.now in
    let i = c.loop-c.c in
    (omega (arith, t.one_word_each, t.one_cell_each), λ k h. filled_inside t i (omega (arith, t.one_word_each, t.one_cell_each)) k (both_r c.args.set (get_or t.columns.now i 0) k h))

pub loop-c-preserved : goal.loop-c-preserved
loop-c-preserved c =
    let t = c.args.t.now in
    let l = c.loop-c in
    picks_turn t.rows.width t.rows.cells.now c.args.set t.columns.now l.out l.c c.pick_cell.result (omega arith)
    (omega (arith, t.one_word_each, t.one_cell_each, c.requires, l.auto.out)) c.pick_cell.ensures l.invariant

pub returns : goal.returns
returns c =
    let t = c.args.t.now in
    let l = c.loop-c in
    picks_end t.rows.width t.rows.cells.now c.args.set t.columns.now l.out l.c (l.auto.out ∙ c.requires ∙ t.one_cell_each ∙ sym t.one_word_each) (omega arith) l.invariant
