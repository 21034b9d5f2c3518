-- `part_of` grows a part until no row is ahead: a law for a turn and for the return (Growing). Fewer rows are left out at each turn.
use native.Mathlib.Omega.{arith}
use Rattle.bitsets.proofs.Bits.{lowest_inside}
use Rattle.cliques.specs.Search.{row_of}
use Rattle.cliques.proofs.Growing.{row_below, grow_start, grow_turn, grow_less, grow_end}
use Rattle.cliques.proofs.parts.part_of.Goals as goal

pub with_row-ahead-requires : goal.with_row-ahead-requires
with_row-ahead-requires c =
    omega (arith, lowest_inside c.args.rows c.lowest_row.result c.requires.0.n c.requires.1 c.lowest_row.ensures c.requires.0.inside, c.requires.0.bits, c.requires.0.graph.rows)

pub loop-ahead-init : goal.loop-ahead-init
loop-ahead-init c =
    grow_start (row_of c.args.neighbours.now) c.args.rows c.requires.1 c.lowest_row.result c.with_row-ahead.result c.lowest_row.ensures c.with_row-ahead.ensures

pub with_row-part-requires : goal.with_row-part-requires
with_row-part-requires c =
    let s = c.args in
    omega (arith, row_below s.rows c.loop-ahead.ahead c.lowest_row-row.result c.requires.0.n c.loop-ahead.invariant.among c.requires.0.inside (omega arith) c.lowest_row-row.ensures, c.requires.0.bits, c.requires.0.graph.rows)

pub offset_bounds-neighbours-row : goal.offset_bounds-neighbours-row
offset_bounds-neighbours-row c =
    let s = c.args in
    omega (arith, row_below s.rows c.loop-ahead.ahead c.lowest_row-row.result c.requires.0.n c.loop-ahead.invariant.among c.requires.0.inside (omega arith) c.lowest_row-row.ensures, c.requires.0.graph.rows)

pub bounds-neighbours-row : goal.bounds-neighbours-row
bounds-neighbours-row c =
    let s = c.args in
    omega (arith, row_below s.rows c.loop-ahead.ahead c.lowest_row-row.result c.requires.0.n c.loop-ahead.invariant.among c.requires.0.inside (omega arith) c.lowest_row-row.ensures, c.requires.0.graph.rows)

pub loop-ahead-smaller : goal.loop-ahead-smaller
loop-ahead-smaller c =
    let s = c.args in
    grow_less (row_of s.neighbours.now) s.rows c.loop-ahead.part c.loop-ahead.ahead c.loop-ahead.invariant (omega arith) c.lowest_row-row.result c.lowest_row-row.ensures
    c.with_row-part.result c.with_row-part.ensures

pub loop-ahead-preserved : goal.loop-ahead-preserved
loop-ahead-preserved c =
    let s = c.args in
    grow_turn (row_of s.neighbours.now) s.rows c.loop-ahead.part c.loop-ahead.ahead c.loop-ahead.invariant (omega arith) c.lowest_row-row.result c.lowest_row-row.ensures
    c.with_row-part.result c.unite.result c.meet.result c.minus-ahead.result c.with_row-part.ensures c.unite.ensures c.meet.ensures c.minus-ahead.ensures

pub returns : goal.returns
returns c =
    let s = c.args in
    grow_end (row_of s.neighbours.now) s.rows c.loop-ahead.part c.loop-ahead.ahead c.loop-ahead.invariant (omega arith)
