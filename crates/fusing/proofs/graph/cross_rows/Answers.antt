-- `cross_rows` meets its contract: row j is the next.
use mathlib.Core.Path.{sym, subst}
use mathlib.Core.List.{[]}
use native.Mathlib.Omega.{arith}
use Prim.Native.Nat.{◌<◌}
use lib.ListN.{get_or, get_or-append}
use lib.Seq.{length-take-le}
use Rattle.definitions.proofs.Images.{rows_length}
use Rattle.fusing.specs.Graph.{CrossingOf}
use Rattle.fusing.specs.UnionRows.{rows_of}
use Rattle.fusing.proofs.Crossing.{rows_seen, crossing_turn}
use Rattle.fusing.proofs.graph.cross_rows.Goals as goal

pub loop-j-preserved : goal.loop-j-preserved
loop-j-preserved c =
    let t = c.args.t.now in
    let l = c.loop-j in
    crossing_turn t.column_words.now (rows_of t) l.j t.columns.now c.args.counted.now l.crossed-items _ c.crossing.result (rows_seen t c.args.counted.now c.requires.0)
    (omega (arith, rows_length t.rows.width t.rows.len t.rows.cells.now, length-take-le t.rows.len c.args.neighbours.now c.requires.1)) (omega arith) c.row.ensures.listed c.crossing.ensures l.invariant

pub returns : goal.returns
returns c =
    let t = c.args.t.now in
    let l = c.loop-j in
    let items = length-take-le t.rows.len c.args.neighbours.now c.requires.1 in
    record {
      each = λ j h.
          let more : j < l.j = omega (arith, rows_length t.rows.width t.rows.len t.rows.cells.now, items) in
          subst (CrossingOf t.column_words.now (rows_of t) (get_or (rows_of t) j []))
          (sym (get_or-append l.crossed-items _ 0 j (omega (arith, more, items)))) (l.invariant j more);
    }
