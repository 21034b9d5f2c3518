-- `count_cells` sums one for each filled cell, and there are no more cells than a slice can have.
use Rattle.std.proofs.Common.{◌∙◌, sym, ◌^◌, arith, rules}
use Rattle.std.proofs.lemmas.Iterator.{YieldsList-from_slice, YieldsList-from_map}
use Rattle.std.proofs.lemmas.Iterator.Consumers.{YieldsList-at, sum_by_from_yields_List, fits_by_from_yields_list}
use Rattle.patterns.proofs.Patterns.{bit_of, filled_sum, sum_few}
use Rattle.patterns.proofs.count_cells.Goals as goal

pub sum-requires-clause-fits : goal.sum-requires-clause-fits
sum-requires-clause-fits c =
    let cells = c.args.cells.now in
    fits_by_from_yields_list bit_of cells c.map.result (2 ^ 64)
    (YieldsList-from_map _ bit_of (YieldsList-at c.map.ensures.source (YieldsList-from_slice cells cc)) c.map.ensures.closure (λ x r q k. search rules))
    (omega (arith, sum_few cells, c.iter.ensures.bound))

pub returns : goal.returns
returns c =
    let cells = c.args.cells.now in
    sum_by_from_yields_List bit_of cells c.map.result _ c.sum.ensures.ran
    (YieldsList-from_map _ bit_of (YieldsList-at c.map.ensures.source (YieldsList-from_slice cells cc)) c.map.ensures.closure (λ x r q k. search rules))
    ∙ sym (filled_sum cells)
