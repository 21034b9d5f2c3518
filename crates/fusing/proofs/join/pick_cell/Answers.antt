-- `pick_cell` meets its contract: the trailing zeros of a set that isn't empty are its first row.
use borrow.Author.Rules.{rules}
use mathlib.Core.Path.{◌∙◌}
use Rattle.fusing.proofs.Picks.{pick_none, first_row_lem, pick_first}
use Rattle.fusing.proofs.join.pick_cell.Goals as goal

pub returns-then-set-eq0 : goal.returns-then-set-eq0
returns-then-set-eq0 c = let t = c.args.t.now in pick_none t.rows.width t.rows.cells.now c.args.c c.args.set c.if-set-eq0.true

pub cell-requires : goal.cell-requires
cell-requires c =
    let t = c.args.t.now in
    (c.requires.1 _ (first_row_lem t.rows.width t.rows.cells.now c.args.c c.args.set c.if-set-eq0.false (search rules)).there, c.requires.0)

pub returns : goal.returns
returns c =
    let t = c.args.t.now in
    c.cell.ensures ∙ pick_first t.rows.width t.rows.cells.now c.args.c c.args.set c.if-set-eq0.false (search rules)
