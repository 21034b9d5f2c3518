-- The cells passed stand at their indices.
use mathlib.Core.Path.{refl}
use native.Mathlib.Omega.{arith}
use borrow.Author.Rules.{rules}
use lib.ListN.{get_or}
use Rattle.definitions.proofs.Lists.{member-get}
use Rattle.tables.proofs.Scatter.{scatter_turn, scatter_all}
use Rattle.tables.proofs.widen.widen_row.Goals as goal

pub offset_bounds-cells-indices : goal.offset_bounds-cells-indices
offset_bounds-cells-indices c =
    let l = c.loop-j in
    let w = c.requires.1 (get_or c.args.indices.now l.j 0) (member-get 0 c.args.indices.now l.j (omega arith)) in
    let z = l.invariant.size in
    search rules

pub bounds-cells-indices : goal.bounds-cells-indices
bounds-cells-indices c =
    let l = c.loop-j in
    let w = c.requires.1 (get_or c.args.indices.now l.j 0) (member-get 0 c.args.indices.now l.j (omega arith)) in
    omega (arith, l.invariant.size)

pub loop-j-preserved : goal.loop-j-preserved
loop-j-preserved c =
    let a = c.args in
    let l = c.loop-j in
    scatter_turn a.cells.now a.indices.now a.row.now l.j 0 _ _ l.cells l.invariant (omega arith) (omega arith) refl refl

pub returns : goal.returns
returns c =
    let l = c.loop-j in
    scatter_all c.args.cells.now c.args.indices.now c.args.row.now l.j l.cells l.invariant c.loop-j-test.false
