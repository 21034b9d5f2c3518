-- `count_members` meets its contract: the ones of all words.
use Rattle.std.proofs.Common.{◌∙◌, sym, ◌%◌, ◌^◌, rules}
use Rattle.std.proofs.lemmas.Iterator.{YieldsList-from_slice, YieldsList-from_map}
use Rattle.std.proofs.lemmas.Iterator.Consumers.{YieldsList-at, sum_by_from_yields_List}
use lib.Count.{ones}
use Rattle.set_lists.proofs.Positions.{members_count}
use Rattle.set_lists.proofs.members.count_members.Goals as goal

pub returns : goal.returns
returns c =
    let marks = c.args.marks.now in
    sum_by_from_yields_List (λ w. ones (w % 2 ^ 30)) marks c.map.result _ c.sum.ensures.ran
    (YieldsList-from_map _ (λ w. ones (w % 2 ^ 30)) (YieldsList-at c.map.ensures.source (YieldsList-from_slice marks cc)) c.map.ensures.closure (λ x r q k. search rules))
    ∙ sym (members_count 0 marks)
