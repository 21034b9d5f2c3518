-- `count_words` meets its contract: the words of each record, and at most 92 of them.
use Rattle.std.proofs.Common.{◌∙◌, sym, ◌^◌, arith, rules}
use Rattle.std.proofs.lemmas.Iterator.{YieldsList-from_slice, YieldsList-from_map}
use Rattle.std.proofs.lemmas.Iterator.Consumers.{YieldsList-at, sum_by_from_yields_List, fits_by_from_yields_list}
use Rattle.set_lists.proofs.Entries.{entry_size, entries_count, entries_few}
use Rattle.set_lists.proofs.members.count_words.Goals as goal

pub sum-requires-clause-fits : goal.sum-requires-clause-fits
sum-requires-clause-fits c =
    let records = c.args.records.now in
    fits_by_from_yields_list entry_size records c.map.result (2 ^ 64)
    (YieldsList-from_map _ entry_size (YieldsList-at c.map.ensures.source (YieldsList-from_slice records cc)) c.map.ensures.closure (λ x r q k. search rules))
    (omega (arith, entries_few records, c.requires))

pub returns : goal.returns
returns c =
    let records = c.args.records.now in
    sum_by_from_yields_List entry_size records c.map.result _ c.sum.ensures.ran
    (YieldsList-from_map _ entry_size (YieldsList-at c.map.ensures.source (YieldsList-from_slice records cc)) c.map.ensures.closure (λ x r q k. search rules))
    ∙ sym (entries_count records)
