-- `is_mark_word` meets its contract: the low bits, shifted by as many positions as may be marked, are none.
use Rattle.std.proofs.Common.{◌∙◌, sym, refl}
use borrow.Author.Tests.{le-leb}
use Rattle.set_lists.proofs.Marks.{all_held, some_held}
use Rattle.set_lists.proofs.checks.is_mark_word.Goals as goal

pub returns-then-held : goal.returns-then-held
returns-then-held c = le-leb 30 c.args.held c.if-held.true ∙ all_held c.args.w c.args.held refl (sym c.kind.ensures ∙ c.if-kind-eq2.true) c.if-held.true

pub returns-else-held : goal.returns-else-held
returns-else-held c = some_held c.args.w c.args.held c.low_bits.ensures (sym c.kind.ensures ∙ c.if-kind-eq2.true)
