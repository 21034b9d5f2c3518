-- `position_of` seeks the row between two places, halfway between which one is compared with it (Positions).
use mathlib.Core.Path.{sym, ◌∙◌, ap}
use Prim.Native.Nat.{◌+◌, ◌-◌, ◌/◌, ◌<◌}
use native.Mathlib.Omega.{arith}
use lib.ListN.{length, get_or, length-map}
use Rattle.definitions.specs.OuterUnion.{compare_row}
use Rattle.definitions.proofs.Lists.{member-get, member-map}
use Rattle.rows.specs.Indices.{row_at}
use Rattle.rows.proofs.Positions.{sought_all, before_mid, behind_mid, at_mid, found_between}
use Rattle.rows.proofs.Writing.{fit_wide}
use Rattle.rows.proofs.named.Rows.position_of.Goals as goal

pub loop-lo-init : goal.loop-lo-init
loop-lo-init c = sought_all _ _ _ _ c.requires.0

pub offset_bounds-order-mid : goal.offset_bounds-order-mid
offset_bounds-order-mid c = omega (arith, c.loop-lo.invariant.within, length-map c.args.order.now (row_at c.args.self.now.width c.args.self.now.cells.now))

pub bounds-order-mid : goal.bounds-order-mid
bounds-order-mid c = omega (arith, c.loop-lo.invariant.within, length-map c.args.order.now (row_at c.args.self.now.width c.args.self.now.cells.now))

-- both are rows among those of the indices
pub compare_rows-requires : goal.compare_rows-requires
compare_rows-requires c =
    let t = c.args.self.now in
    let l = c.args.order.now in
    let mid = c.loop-lo.lo + (c.loop-lo.hi - c.loop-lo.lo) / 2 in
    let within : mid < length l = omega (arith, c.loop-lo.invariant.within, length-map l (row_at t.width t.cells.now)) in
    let there = member-map (row_at t.width t.cells.now) (get_or l mid 0) l (member-get 0 l mid within) in
    fit_wide t.width t.cells.now l c.requires.0.fit _ c.requires.1
    ∙ sym (ap length c.words.ensures ∙ fit_wide t.width t.cells.now l c.requires.0.fit _ there)

pub loop-lo-preserved-in-Less : goal.loop-lo-preserved-in-Less
loop-lo-preserved-in-Less c =
    before_mid _ _ _ _ c.requires.0 _ _ _ c.loop-lo.invariant (omega arith) (omega arith) _ (c.compare_rows.ensures ∙ ap (compare_row c.args.row.now) c.words.ensures) c.in-Less.is

pub returns-in-Equal : goal.returns-in-Equal
returns-in-Equal c =
    at_mid _ _ _ _ c.requires.0 _ _ _ c.loop-lo.invariant (omega arith) (omega arith) _ (c.compare_rows.ensures ∙ ap (compare_row c.args.row.now) c.words.ensures) c.in-Equal.is

pub loop-lo-preserved : goal.loop-lo-preserved
loop-lo-preserved c =
    behind_mid _ _ _ _ c.requires.0 _ _ _ c.loop-lo.invariant (omega arith) (omega arith) _ (c.compare_rows.ensures ∙ ap (compare_row c.args.row.now) c.words.ensures) c.in-Greater.is

pub returns : goal.returns
returns c = absurd (found_between _ _ _ _ c.requires.0 c.requires.1 _ _ c.loop-lo.invariant (omega arith))
