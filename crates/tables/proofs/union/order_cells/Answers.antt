-- The indices of the distinct rows, ascending, and the rows written by them.
use native.Mathlib.Omega.{arith}
use Rattle.definitions.specs.Limits.{max_union_rows}
use Rattle.rows.proofs.Positions.{ordered_within}
use Rattle.tables.proofs.UnionLaws.{few_words, cells_ordered}
use borrow.Author.Rules.{rules}
use Rattle.tables.proofs.union.order_cells.Goals as goal

pub write_rows-requires : goal.write_rows-requires
write_rows-requires c =
    let t = c.args.wide.now in
    let o = c.order_rows-m in
    let f = ordered_within t.width t.len o.result t.cells.now _ o.new.order (omega (arith, c.requires.1)) o.auto.order o.ensures in
    let few = few_words o.result max_union_rows t.width (omega (arith, f.fewer, c.requires.1)) c.requires.0 in
    (f.named.below, search rules)

pub returns : goal.returns
returns c =
    let t = c.args.wide.now in
    let o = c.order_rows-m in
    let f = ordered_within t.width t.len o.result t.cells.now _ o.new.order (omega (arith, c.requires.1)) o.auto.order o.ensures in
    (cells_ordered t.width t.len _ t.cells.now _ c.args.cells.now _ t.fits f.count f.named c.write_rows.ensures, f.fewer)
