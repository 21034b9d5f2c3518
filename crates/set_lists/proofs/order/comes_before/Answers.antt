-- `comes_before` meets its contract: the order of the two records' mark words.
use Rattle.std.proofs.Common.{◌∙◌, arith}
use Rattle.definitions.specs.Limits.{mark_words}
use Rattle.set_lists.proofs.MarkOrder.{front_order}
use Rattle.set_lists.proofs.order.comes_before.Goals as goal

pub returns : goal.returns
returns c = c.is_lt.ensures ∙ front_order mark_words c.args.a.now c.args.b.now (omega arith) (omega arith) _ c.compare_marks.ensures
