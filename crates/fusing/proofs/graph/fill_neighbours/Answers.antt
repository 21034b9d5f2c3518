-- `fill_neighbours` meets its contract: rows that cross and agree complement each other.
use native.Mathlib.Omega.{arith}
use Rattle.definitions.proofs.Images.{rows_length}
use Rattle.fusing.specs.UnionRows.{rows_of}
use Rattle.fusing.proofs.Neighbours.{graph_of}
use Rattle.fusing.proofs.graph.fill_neighbours.Goals as goal

pub returns : goal.returns
returns c =
    let t = c.args.t.now in
    let x = c.cross_rows in
    let n = c.narrow_columns in
    graph_of t.column_words.now (rows_of t) _ _ x.ensures n.ensures
    (omega (arith, rows_length t.rows.width t.rows.len t.rows.cells.now, n.auto.neighbours, x.auto.neighbours, c.requires.1))
