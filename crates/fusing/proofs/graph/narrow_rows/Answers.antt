-- `narrow_rows` meets its contract: the next row is filled, and its word is narrowed.
use borrow.Author.Rules.{rules}
use native.Mathlib.Omega.{arith}
use Rattle.fusing.proofs.Narrowing.{narrow_next, narrow_turn, narrow_end}
use Rattle.fusing.proofs.graph.narrow_rows.Goals as goal

pub of-requires : goal.of-requires
of-requires c =
    let g = c.args.groups.now in
    let filled = narrow_next c.args.filled g.leaders g.equal c.args.neighbours.now c.in-Some.ensures.steps c.loop-j.invariant in
    (c.requires.1 _ filled, c.requires.0 _ filled)

pub offset_bounds-neighbours-j : goal.offset_bounds-neighbours-j
offset_bounds-neighbours-j c = omega (arith, c.requires.2 _ (narrow_next _ _ _ _ c.in-Some.ensures.steps c.loop-j.invariant))

pub bounds-neighbours-j : goal.bounds-neighbours-j
bounds-neighbours-j c = omega (arith, c.loop-j.auto.neighbours, c.requires.2 _ (narrow_next _ _ _ _ c.in-Some.ensures.steps c.loop-j.invariant))

pub bounds-neighbours-j-in-loop-j : goal.bounds-neighbours-j-in-loop-j
bounds-neighbours-j-in-loop-j c = omega (arith, c.loop-j.auto.neighbours, c.requires.2 _ (narrow_next _ _ _ _ c.in-Some.ensures.steps c.loop-j.invariant))

pub loop-j-preserved : goal.loop-j-preserved
loop-j-preserved c =
    let a = c.args in
    let g = a.groups.now in
    let room = c.requires.2 _ (narrow_next a.filled g.leaders g.equal a.neighbours.now c.in-Some.ensures.steps c.loop-j.invariant) in
    rw c.of.ensures (narrow_turn a.filled g.leaders g.equal a.neighbours.now c.in-Some.ensures.steps (omega (arith, c.loop-j.auto.neighbours, room)) c.loop-j.invariant)

pub returns : goal.returns
returns c =
    let a = c.args in
    let g = a.groups.now in
    narrow_end a.filled g.leaders g.equal a.neighbours.now _ c.loop-j.neighbours c.in-None.ensures.steps (search rules) c.loop-j.invariant
