-- `compare_marks` meets its contract: the order of the first two words that differ.
use Rattle.std.proofs.Common.{◌∙◌, rules, tests, sym, ap, unwrap_or}
use Rattle.std.specs.declared.cmp.Ordering.TheVariants.{Equal}
use Rattle.std.proofs.lemmas.Iterator.{YieldsList-from_slice, YieldsList-from_zip, YieldsList-from_map}
use Rattle.std.proofs.lemmas.Iterator.Consumers.{YieldsList-at}
use Rattle.std.proofs.lemmas.Iterator.Search.{find_from_yields_List}
use Rattle.std.proofs.lemmas.Iterator.Adapters.{option_map_id}
use Rattle.std.specs.Ordering.{is_ne}
use Rattle.set_lists.proofs.MarkOrder.{compare_low, first_apart}
use Rattle.set_lists.proofs.order.compare_marks.Goals as goal

pub returns : goal.returns
returns c =
    let a = c.args.a.now in
    let b = c.args.b.now in
    let found = find_from_yields_List is_ne c.find.new.self _ c.find.result c.find.ensures.ran
    (YieldsList-from_map _ compare_low
    (YieldsList-at c.map.ensures.source (YieldsList-from_zip (YieldsList-from_slice a cc) (YieldsList-from_slice b cc)))
    c.map.ensures.closure (λ x r q k. search rules))
    (λ x b q k. search (rules, tests)) in
    c.unwrap_or.ensures
    ∙ ap (λ o. unwrap_or o Equal) (sym (option_map_id c.find.result) ∙ found)
    ∙ first_apart a b c.requires
