-- `common_rows` keeps the rows of a part that complement all others of it. The invariant: those kept do, and the rows that are left are of the part.
use mathlib.Core.Path.{sym, ◌∙◌}
use Rattle.std.proofs.Common.{arith}
use Rattle.bitsets.proofs.Bits.{rest_sub}
use Rattle.bitsets.proofs.Rests.{lowest_of}
use Rattle.cliques.specs.Search.{row_of}
use Rattle.cliques.proofs.Growing.{common_none, common_more}
use Rattle.cliques.proofs.parts.common_rows.Goals as goal

pub loop-row-init : goal.loop-row-init
loop-row-init c =
    let s = c.args in
    rw (c.into_iter-row-iterator.ensures.into_iter_gives, c.of-row-items.ensures) (λ k h. h, common_none (row_of s.neighbours.now) s.part)

pub offset_bounds-neighbours-row : goal.offset_bounds-neighbours-row
offset_bounds-neighbours-row c =
    omega (arith, c.requires.inside _ (c.loop-row.invariant.0 _ (lowest_of c.in-Some.ensures.steps).there), c.requires.graph.rows)

pub bounds-neighbours-row : goal.bounds-neighbours-row
bounds-neighbours-row c =
    omega (arith, c.requires.inside _ (c.loop-row.invariant.0 _ (lowest_of c.in-Some.ensures.steps).there), c.requires.graph.rows)

pub with_row-requires : goal.with_row-requires
with_row-requires c =
    omega (arith, c.requires.inside _ (c.loop-row.invariant.0 _ (lowest_of c.in-Some.ensures.steps).there), c.requires.bits)

pub with_row-common-requires : goal.with_row-common-requires
with_row-common-requires c =
    omega (arith, c.requires.inside _ (c.loop-row.invariant.0 _ (lowest_of c.in-Some.ensures.steps).there), c.requires.bits)

pub loop-row-preserved-then-is_sub : goal.loop-row-preserved-then-is_sub
loop-row-preserved-then-is_sub c =
    let l = c.loop-row in
    let s = c.args in
    let next = c.in-Some.ensures.steps in (
      rest_sub l.row-iterator.rest c.next.new.self.rest s.part next.rest l.invariant.0,
      common_more (row_of s.neighbours.now) s.part l.common c.in-Some.row c.with_row.result c.with_row-common.result l.invariant.1
          (l.invariant.0 _ (lowest_of next).there) c.with_row.ensures (sym c.is_sub.ensures ∙ c.if-is_sub.true) c.with_row-common.ensures,
    )

pub loop-row-preserved : goal.loop-row-preserved
loop-row-preserved c =
    let l = c.loop-row in
    (rest_sub l.row-iterator.rest c.next.new.self.rest c.args.part c.in-Some.ensures.steps.rest l.invariant.0, l.invariant.1)
