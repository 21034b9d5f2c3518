-- `find_positions` meets its contract: a row that is named by another's index is sought, and the others have their positions.
use mathlib.Core.Path.{sym, ◌∙◌, subst}
use Prim.Native.Nat.{◌+◌}
use native.Mathlib.Omega.{arith}
use Rattle.std.proofs.lemmas.List.{set-get_or}
use Rattle.rows.specs.Indices.{rows_at}
use Rattle.rows.specs.Rows.{rows_of}
use Rattle.rows.proofs.Positions.{ordered_ascending}
use Rattle.fusing.specs.Positions.{positions_in}
use Rattle.fusing.proofs.RowPositions.{Placed, position_member, placed_turn, placed_stay, placed_end}
use Rattle.fusing.proofs.positions.find_positions.Goals as goal
use Rattle.fusing.proofs.positions.find_positions.Goals.{then-position-order, else-position-order}

pub position_of-requires : goal.position_of-requires
position_of-requires c =
    let t = c.args.rows.now in
    let order = c.args.order.now in
    let o = c.requires.0.ordered in (
      ordered_ascending t.width t.len t.cells.now order o t.fits,
      position_member t.width t.len t.cells.now order t.fits o _ (omega (arith, c.fill_own.auto.positions, c.requires.1)) _ c.row.ensures.at,
    )

pub loop-k-preserved : goal.loop-k-preserved
loop-k-preserved c =
    let t = c.args.rows.now in
    let order = c.args.order.now in
    let o = c.requires.0.ordered in
    let l = c.loop-k in
    let all = positions_in (rows_at t.width t.cells.now order) (rows_of t) in
    elim c.if-position-order.branch [
      | then-position-order w ↦
          subst (Placed order all (l.k + 1)) (sym w.positions-is)
          (placed_turn t.width t.len t.cells.now order t.fits o l.k (omega (arith, c.fill_own.auto.positions, c.requires.1)) _ w.row.ensures.at l.positions
          w.position_of.result (omega (arith, l.auto.positions)) w.position_of.ensures.0 l.invariant)
      | else-position-order w ↦
          subst (Placed order all (l.k + 1)) (sym (w.positions-is ∙ set-get_or l.positions l.k 0))
          (placed_stay t.width t.len t.cells.now order t.fits o l.positions l.k (omega (arith, c.fill_own.auto.positions, c.requires.1))
          (omega (arith, l.auto.positions)) w.if-position-order.false l.invariant)
    ]

pub returns : goal.returns
returns c =
    let t = c.args.rows.now in
    let l = c.loop-k in
    placed_end t.width t.len t.cells.now c.args.order.now t.fits c.requires.0.ordered l.positions l.k
    (l.auto.positions ∙ c.fill_own.auto.positions ∙ c.requires.1) (omega (arith, c.fill_own.auto.positions, c.requires.1)) l.invariant
