-- `fill` meets its contract: the next row is a row of T, and so is each leader; it joins its leader's group, or leads a new one.
use Prim.Native.Nat.{◌%◌}
use native.Mathlib.Omega.{arith}
use lib.ListN.{get_or}
use Rattle.fusing.specs.Groups.{cell_at}
use Rattle.fusing.proofs.HeldRows.{filled_inside}
use Rattle.fusing.proofs.Grouping.{group_start, next_filled, bucket_filled, group_new, group_more, group_end}
use Rattle.fusing.proofs.groups.CellGroups.fill.Goals as goal

pub loop-j-init : goal.loop-j-init
loop-j-init c =
    let t = c.args.t.now in
    rw (c.into_iter-j-iterator.ensures.into_iter_gives, c.of-j-items.ensures) (group_start (cell_at t.rows.width t.rows.cells.now c.args.c) (get_or t.columns.now c.args.c 0) c.args.self.now.leaders c.args.self.now.equal)

pub cell-cell-requires : goal.cell-cell-requires
cell-cell-requires c = (filled_inside c.args.t.now c.args.c c.requires _ (next_filled c.loop-j.invariant c.in-Some.ensures.steps), c.requires)

pub leader-requires : goal.leader-requires
leader-requires c =
    (c.requires, λ k m. filled_inside c.args.t.now c.args.c c.requires k (bucket_filled c.loop-j.invariant c.in-Some.ensures.steps (c.cell-cell.result % 16) k (omega arith) m))

pub offset_bounds-self-j : goal.offset_bounds-self-j
offset_bounds-self-j c = omega (arith, c.args.t.now.few, filled_inside c.args.t.now c.args.c c.requires _ (next_filled c.loop-j.invariant c.in-Some.ensures.steps))

pub bounds-self-j : goal.bounds-self-j
bounds-self-j c = omega (arith, c.args.t.now.few, filled_inside c.args.t.now c.args.c c.requires _ (next_filled c.loop-j.invariant c.in-Some.ensures.steps))

pub offset_bounds-self-j-in-None-leader : goal.offset_bounds-self-j-in-None-leader
offset_bounds-self-j-in-None-leader c = omega (arith, c.args.t.now.few, filled_inside c.args.t.now c.args.c c.requires _ (next_filled c.loop-j.invariant c.in-Some.ensures.steps))

pub bounds-self-j-in-None-leader : goal.bounds-self-j-in-None-leader
bounds-self-j-in-None-leader c = omega (arith, c.args.t.now.few, filled_inside c.args.t.now c.args.c c.requires _ (next_filled c.loop-j.invariant c.in-Some.ensures.steps))

pub offset_bounds-self-j-in-None-leader-2 : goal.offset_bounds-self-j-in-None-leader-2
offset_bounds-self-j-in-None-leader-2 c = omega (arith, c.args.t.now.few, filled_inside c.args.t.now c.args.c c.requires _ (next_filled c.loop-j.invariant c.in-Some.ensures.steps))

pub bounds-self-j-in-None-leader-2 : goal.bounds-self-j-in-None-leader-2
bounds-self-j-in-None-leader-2 c = omega (arith, c.args.t.now.few, filled_inside c.args.t.now c.args.c c.requires _ (next_filled c.loop-j.invariant c.in-Some.ensures.steps))

pub overflow_shl-self : goal.overflow_shl-self
overflow_shl-self c = omega (arith, c.args.t.now.few, filled_inside c.args.t.now c.args.c c.requires _ (next_filled c.loop-j.invariant c.in-Some.ensures.steps))

pub overflow_shl-self-in-None-leader : goal.overflow_shl-self-in-None-leader
overflow_shl-self-in-None-leader c = omega (arith, c.args.t.now.few, filled_inside c.args.t.now c.args.c c.requires _ (next_filled c.loop-j.invariant c.in-Some.ensures.steps))

pub overflow_shl-buckets : goal.overflow_shl-buckets
overflow_shl-buckets c = omega (arith, c.args.t.now.few, filled_inside c.args.t.now c.args.c c.requires _ (next_filled c.loop-j.invariant c.in-Some.ensures.steps))

pub offset_bounds-self-k : goal.offset_bounds-self-k
offset_bounds-self-k c = omega (arith, c.args.t.now.few, filled_inside c.args.t.now c.args.c c.requires _ (bucket_filled c.loop-j.invariant c.in-Some.ensures.steps (c.cell-cell.result % 16) _ (omega arith) c.in-Some-leader.ensures.0))

pub bounds-self-k : goal.bounds-self-k
bounds-self-k c = omega (arith, c.args.t.now.few, filled_inside c.args.t.now c.args.c c.requires _ (bucket_filled c.loop-j.invariant c.in-Some.ensures.steps (c.cell-cell.result % 16) _ (omega arith) c.in-Some-leader.ensures.0))

pub bounds-self-k-in-Some-leader : goal.bounds-self-k-in-Some-leader
bounds-self-k-in-Some-leader c = omega (arith, c.args.t.now.few, filled_inside c.args.t.now c.args.c c.requires _ (bucket_filled c.loop-j.invariant c.in-Some.ensures.steps (c.cell-cell.result % 16) _ (omega arith) c.in-Some-leader.ensures.0))

pub loop-j-preserved-in-Some-leader : goal.loop-j-preserved-in-Some-leader
loop-j-preserved-in-Some-leader c =
    let row = filled_inside c.args.t.now c.args.c c.requires _ (next_filled c.loop-j.invariant c.in-Some.ensures.steps) in
    let leads = filled_inside c.args.t.now c.args.c c.requires _ (bucket_filled c.loop-j.invariant c.in-Some.ensures.steps (c.cell-cell.result % 16) _ (omega arith) c.in-Some-leader.ensures.0) in
    group_more c.loop-j.invariant c.in-Some.ensures.steps (omega (arith, c.args.t.now.few, row)) (omega (arith, c.args.t.now.few, row)) c.cell-cell.ensures c.in-Some-leader.k
    c.in-Some-leader.ensures (omega (arith, c.args.t.now.few, leads))

pub loop-j-preserved : goal.loop-j-preserved
loop-j-preserved c =
    let row = filled_inside c.args.t.now c.args.c c.requires _ (next_filled c.loop-j.invariant c.in-Some.ensures.steps) in
    group_new c.loop-j.invariant c.in-Some.ensures.steps (omega (arith, c.args.t.now.few, row)) (omega (arith, c.args.t.now.few, row)) c.cell-cell.ensures c.in-None-leader.ensures
    (omega (arith, c.args.t.now.few, row))

pub returns : goal.returns
returns c =
    let t = c.args.t.now in
    group_end (cell_at t.rows.width t.rows.cells.now c.args.c) (get_or t.columns.now c.args.c 0) _ c.loop-j.buckets c.loop-j.self.leaders c.loop-j.self.equal
    c.in-None.ensures.steps (λ k h. omega (arith, c.loop-j.self.word_each, t.few, filled_inside t c.args.c c.requires k h)) c.loop-j.invariant
