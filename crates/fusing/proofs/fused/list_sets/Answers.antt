-- The sets of the graph of T are the maximal sets of T.
use mathlib.Core.Path.{◌≡◌}
use borrow.Author.Rules.{rules}
use native.Mathlib.Omega.{arith}
use lib.ListN.{length}
use Rattle.fusing.proofs.FusedTables.{graph_for, sets_of}
use Rattle.fusing.proofs.fused.list_sets.Goals as goal

pub find_sets-requires : goal.find_sets-requires
find_sets-requires c =
    let t = c.args.t.now in
    let size : length c.fill_neighbours.new.neighbours ≡ t.rows.len = search (rules, c.fill_neighbours.auto.neighbours) in
    (graph_for t.column_words.now t.rows.width t.rows.len t.rows.cells.now _ size c.fill_neighbours.ensures, omega (arith, t.few, size))

pub returns : goal.returns
returns c =
    let t = c.args.t.now in
    let size : length c.fill_neighbours.new.neighbours ≡ t.rows.len = search (rules, c.fill_neighbours.auto.neighbours) in
    sets_of t.column_words.now t.rows.width t.rows.len t.rows.cells.now _ size c.fill_neighbours.ensures _ _ c.find_sets.ensures
