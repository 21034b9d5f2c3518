-- `grows_back` walks the free rows in ascending order: a law for a turn and for each return (Taking).
use mathlib.Core.Path.{sym, ◌∙◌}
use native.Mathlib.Omega.{arith}
use lib.ListN.{length}
use Rattle.bitsets.specs.Bits.{word_bits}
use Rattle.bitsets.proofs.Bits.{lowest_inside, rest_less, both_less}
use Rattle.cliques.specs.Search.{row_of}
use Rattle.cliques.proofs.Taking.{walk_end, walk_met, walk_turn, left}
use Rattle.cliques.proofs.search.grows_back.Goals as goal

pub has_row-requires : goal.has_row-requires
has_row-requires c =
    lowest_inside c.loop-rest.rest c.lowest_row-row.result word_bits (omega arith) c.lowest_row-row.ensures c.loop-rest.invariant.1

pub returns-then-not-has_row : goal.returns-then-not-has_row
returns-then-not-has_row c =
    let s = c.args in
    walk_met (row_of s.neighbours.now) s.free s.set c.loop-rest.rest c.loop-rest.invariant.2 (omega arith) c.lowest_row-row.result c.lowest_row-row.ensures
    (sym c.has_row.ensures ∙ c.if-not-has_row.true)

pub offset_bounds-neighbours-row : goal.offset_bounds-neighbours-row
offset_bounds-neighbours-row c =
    omega (arith, lowest_inside c.loop-rest.rest c.lowest_row-row.result (length c.args.neighbours.now) (omega arith) c.lowest_row-row.ensures c.loop-rest.invariant.0)

pub bounds-neighbours-row : goal.bounds-neighbours-row
bounds-neighbours-row c =
    lowest_inside c.loop-rest.rest c.lowest_row-row.result (length c.args.neighbours.now) (omega arith) c.lowest_row-row.ensures c.loop-rest.invariant.0

pub loop-rest-smaller : goal.loop-rest-smaller
loop-rest-smaller c =
    omega (arith, rest_less c.loop-rest.rest (omega arith), c.without_lowest.ensures, both_less c.without_lowest.result _ c.meet-rest.result c.meet-rest.ensures)

pub loop-rest-preserved : goal.loop-rest-preserved
loop-rest-preserved c =
    let l = c.loop-rest in
    let s = c.args in
    let N = row_of s.neighbours.now in (
      λ j p. l.invariant.0 j (left l.rest c.without_lowest.result (N c.lowest_row-row.result) c.meet-rest.result c.without_lowest.ensures c.meet-rest.ensures j p),
      λ j p. l.invariant.1 j (left l.rest c.without_lowest.result (N c.lowest_row-row.result) c.meet-rest.result c.without_lowest.ensures c.meet-rest.ensures j p),
      walk_turn N s.free s.set l.rest l.invariant.2 (omega arith) c.lowest_row-row.result c.lowest_row-row.ensures c.requires.2
          (sym c.has_row.ensures ∙ c.if-not-has_row.false) c.without_lowest.result c.meet-rest.result
          c.without_lowest.ensures c.meet-rest.ensures,
    )

pub returns : goal.returns
returns c =
    let s = c.args in
    walk_end (row_of s.neighbours.now) s.free s.set c.loop-rest.rest c.loop-rest.invariant.2 (omega arith)
