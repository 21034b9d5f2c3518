-- `in_order` meets its contract: each record and the next.
use Rattle.std.proofs.Common.{rules}
use Rattle.std.proofs.lemmas.List.Sorted.{answers_always}
use Rattle.definitions.specs.Limits.{mark_words}
use Rattle.definitions.specs.Ascending.{is_before}
use Rattle.definitions.specs.ComplementUnion.{compare_set}
use Rattle.definitions.specs.Reading.{set_in}
use Rattle.set_lists.proofs.Tests.{ascending_is}
use Rattle.set_lists.proofs.order.in_order.Goals as goal

pub returns : goal.returns
returns c =
    ascending_is compare_set (set_in mark_words) c.args.records.now _
    (c.is_sorted_by.ensures.cases (λ a b. is_before (compare_set (set_in mark_words a) (set_in mark_words b))) (answers_always _ _ _ (λ f a r g h. search rules)))
