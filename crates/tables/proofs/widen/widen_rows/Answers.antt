-- The rows passed stand in the cells, widened.
use mathlib.Core.Path.{refl}
use Prim.Native.Nat.{◌<◌}
use native.Mathlib.Omega.{arith}
use Rattle.definitions.specs.Image.{row_count}
use Rattle.tables.proofs.WidenLaws.{widen_starts, widen_ends, end_within, row_indices, widen_turn}
use Rattle.tables.proofs.widen.widen_rows.Goals as goal

pub loop-i-init : goal.loop-i-init
loop-i-init c = widen_starts c.requires.0 c.requires.2

pub row-requires : goal.row-requires
row-requires c = omega (arith, c.rows-i-end.ensures.count)

pub slice_bounds-widen_row-end : goal.slice_bounds-widen_row-end
slice_bounds-widen_row-end c =
    let more : c.loop-i.i < row_count c.args.image.words.now = omega (arith, c.rows-i-end.ensures.count) in
    end_within c.requires.0 c.requires.2 c.loop-i.invariant more refl

pub widen_row-requires : goal.widen_row-requires
widen_row-requires c =
    let more : c.loop-i.i < row_count c.args.image.words.now = omega (arith, c.rows-i-end.ensures.count) in
    row_indices c.requires.0 c.requires.2 c.loop-i.invariant more refl c.args.image.accepted _ _ c.requires.1 c.row.ensures.cells

pub loop-i-preserved : goal.loop-i-preserved
loop-i-preserved c =
    let more : c.loop-i.i < row_count c.args.image.words.now = omega (arith, c.rows-i-end.ensures.count) in
    widen_turn c.requires.0 c.requires.2 c.loop-i.invariant more refl c.args.image.accepted _ _ c.requires.1 c.row.ensures.cells _ c.widen_row.ensures

pub returns : goal.returns
returns c = widen_ends c.requires.0 c.requires.2 c.loop-i.invariant (omega (arith, c.rows-i-end.ensures.count))
