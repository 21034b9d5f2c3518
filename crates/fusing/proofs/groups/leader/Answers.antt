-- `leader` meets its contract: the next row has the cell, or the rest is sought.
use mathlib.Core.Path.{sym, ◌∙◌}
use Rattle.fusing.proofs.Grouping.{seek_next, seek_turn, seek_none}
use Rattle.fusing.proofs.groups.leader.Goals as goal

pub cell-requires : goal.cell-requires
cell-requires c = (c.requires.1 _ (seek_next _ c.args.cell c.args.rows c.in-Some.ensures.steps c.loop-k.invariant), c.requires.0)

pub returns-then-cell : goal.returns-then-cell
returns-then-cell c = (seek_next _ c.args.cell c.args.rows c.in-Some.ensures.steps c.loop-k.invariant, sym c.cell.ensures ∙ c.if-cell.true)

pub loop-k-preserved : goal.loop-k-preserved
loop-k-preserved c =
    seek_turn _ c.args.cell c.args.rows c.in-Some.ensures.steps (λ q. c.if-cell.false (c.cell.ensures ∙ q)) c.loop-k.invariant

pub returns : goal.returns
returns c = seek_none _ c.args.cell c.args.rows c.in-None.ensures.steps c.loop-k.invariant
