-- `join_sets` meets its contract: the next set's joined row stands after those before.
use mathlib.Core.Path.{sym, ◌∙◌}
use native.Mathlib.Omega.{arith}
use Rattle.fusing.proofs.HeldRows.{rows_held}
use Rattle.fusing.proofs.Joins.{joins_turn, joins_end}
use Rattle.fusing.proofs.join.join_sets.Goals as goal

pub loop-k-preserved : goal.loop-k-preserved
loop-k-preserved c =
    let t = c.args.t.now in
    let l = c.loop-k in
    joins_turn (rows_held t) (t.one_word_each ∙ sym t.one_cell_each) c.requires.0 c.args.out.now c.requires.1 l.k l.out _ (omega arith) c.join_set.ensures l.invariant

pub returns : goal.returns
returns c =
    let t = c.args.t.now in
    let l = c.loop-k in
    joins_end (rows_held t) (t.one_word_each ∙ sym t.one_cell_each) c.requires.0 c.args.out.now c.requires.1 l.k l.out (omega arith) l.invariant
