-- `all_records` meets its contract: the check of each.
use Rattle.std.proofs.Common.{◌∙◌, rules, tests}
use Rattle.std.proofs.lemmas.Iterator.{YieldsList-from_slice}
use Rattle.std.proofs.lemmas.Iterator.Search.{all_from_yields_List}
use Rattle.definitions.specs.Limits.{mark_words}
use Rattle.definitions.specs.ReadBack.{is_record}
use Rattle.lists.proofs.Chains.{all_is}
use Rattle.set_lists.proofs.checks.all_records.Goals as goal

pub returns : goal.returns
returns c =
    let passes = is_record mark_words c.args.rows in
    all_from_yields_List passes _ _ _ c.all.ensures.ran (YieldsList-from_slice c.args.records.now cc) (λ x b q k. search (rules, tests))
    ∙ all_is passes c.args.records.now
