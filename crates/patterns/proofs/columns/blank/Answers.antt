-- `blank` meets its contract: a return for each case. Assumes nothing.
use mathlib.Core.Path.{sym, ◌∙◌}
use Rattle.patterns.proofs.FilledRows.{blank_empty}
use Rattle.patterns.proofs.columns.blank.Goals as goal

pub returns-else-is_filled : goal.returns-else-is_filled
returns-else-is_filled c = blank_empty c.args.cell (sym c.is_filled.ensures ∙ c.if-is_filled.false)
