-- `count_filled` meets its contract: the ones of a row's pattern are its filled cells. Assumes nothing.
use mathlib.Core.Path.{◌∙◌, ap}
use lib.Count.{ones}
use Rattle.patterns.proofs.Patterns.{ones_pattern}
use Rattle.patterns.proofs.count_filled.Goals as goal

pub returns : goal.returns
returns c =
    c.count_ones.ensures ∙ ap ones c.pattern.ensures.0 ∙ ones_pattern c.args.row.now
