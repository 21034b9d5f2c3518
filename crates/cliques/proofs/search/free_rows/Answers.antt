-- `free_rows` keeps the rows that complement each row of the set. The invariant: what is free for the rows that are left, of the rows kept, is
-- what is free for all, of those given.
use native.Mathlib.Omega.{arith}
use lib.ListN.{length}
use Rattle.bitsets.proofs.Bits.{lowest_inside, rest_inside}
use Rattle.cliques.specs.Search.{row_of}
use Rattle.cliques.proofs.Taking.{free_none, free_turn}
use Rattle.cliques.proofs.search.free_rows.Goals as goal

pub offset_bounds-neighbours-row : goal.offset_bounds-neighbours-row
offset_bounds-neighbours-row c =
    let next = c.in-Some.ensures.steps in
    omega (arith, lowest_inside c.loop-row.row-iterator.rest c.in-Some.row (length c.args.neighbours.now) next.some next.first c.loop-row.invariant.0)

pub bounds-neighbours-row : goal.bounds-neighbours-row
bounds-neighbours-row c =
    let next = c.in-Some.ensures.steps in
    lowest_inside c.loop-row.row-iterator.rest c.in-Some.row (length c.args.neighbours.now) next.some next.first c.loop-row.invariant.0

pub loop-row-preserved : goal.loop-row-preserved
loop-row-preserved c =
    let l = c.loop-row in
    let next = c.in-Some.ensures.steps in (
      rest_inside l.row-iterator.rest c.next.new.self.rest (length c.args.neighbours.now) next.rest l.invariant.0,
      λ r h. l.invariant.1 r (free_turn (row_of c.args.neighbours.now) next c.meet-word.ensures r h),
    )

pub returns : goal.returns
returns c =
    let l = c.loop-row in
    l.invariant.1 l.word (free_none (row_of c.args.neighbours.now) l.row-iterator.rest l.word c.in-None.ensures.steps)
