-- `narrow_columns` meets its contract: the filled rows of the next column are rows of T.
use mathlib.Core.Path.{refl}
use native.Mathlib.Omega.{arith}
use lib.ListN.{get_or}
use Rattle.fusing.proofs.HeldRows.{filled_inside}
use Rattle.fusing.proofs.Narrowing.{narrowed_turn, narrowed_end}
use Rattle.fusing.proofs.graph.narrow_columns.Goals as goal

pub narrow_rows-requires : goal.narrow_rows-requires
narrow_rows-requires c =
    let t = c.args.t.now in
    let l = c.loop-c in
    let room = c.requires in (
      c.fill.ensures.led,
      λ k h. omega (arith, filled_inside t l.c (omega (arith, t.one_word_each, t.one_cell_each)) k h, t.few, c.fill.new.self.leader_each),
      λ k h. omega (arith, filled_inside t l.c (omega (arith, t.one_word_each, t.one_cell_each)) k h, room, l.auto.neighbours),
    )

pub loop-c-preserved : goal.loop-c-preserved
loop-c-preserved c =
    let t = c.args.t.now in
    let l = c.loop-c in
    narrowed_turn t.rows.width t.rows.len t.rows.cells.now t.columns.now c.args.neighbours.now t.few t.rows.fits t.filled
    l.c (get_or t.columns.now l.c 0) _ _ l.neighbours _ (omega (arith, t.one_word_each, t.one_cell_each)) refl c.fill.ensures c.narrow_rows.ensures l.invariant

pub returns : goal.returns
returns c =
    let t = c.args.t.now in
    let l = c.loop-c in
    narrowed_end t.rows.width t.rows.len t.rows.cells.now t.columns.now c.args.neighbours.now t.few t.rows.fits t.filled
    l.c l.neighbours (omega (arith, t.one_word_each, t.one_cell_each)) l.invariant
