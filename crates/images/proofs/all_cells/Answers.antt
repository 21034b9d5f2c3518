-- Whether every word passed may stand as one of the cells.
use Rattle.std.proofs.Common.{rules, refl}
use Rattle.definitions.specs.Lists.{all}
use Rattle.definitions.specs.Word.{is_cell}
use Rattle.lists.proofs.Walks.{all_turn}
use Rattle.images.proofs.all_cells.Goals as goal

pub loop-word-init : goal.loop-word-init
unfolding all
loop-word-init c = refl

pub loop-word-preserved : goal.loop-word-preserved
loop-word-preserved c =
    let l = c.loop-word in
    all_turn is_cell c.args.w.now l.word-index l.fit l.invariant c.is_cell-fit.result (search rules) c.is_cell-fit.ensures
