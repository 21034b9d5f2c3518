-- The widened rows of both images, ordered.
use mathlib.Core.Path.{◌∙◌, ap}
use native.Mathlib.Omega.{arith}
use Rattle.definitions.specs.Limits.{max_union_rows, max_columns}
use Rattle.definitions.specs.Ascending.{ascending}
use Rattle.definitions.specs.OuterUnion.{compare_row, union_rows}
use Rattle.tables.proofs.Scatter.{empty_cells}
use borrow.Author.Rules.{rules}
use Prim.Native.Nat.{◌*◌}
use Rattle.tables.proofs.union.Pair.union_rows.Goals as goal

pub widen_both-len-requires : goal.widen_both-len-requires
widen_both-len-requires c = empty_cells (max_union_rows * max_columns)

pub returns : goal.returns
unfolding union_rows
returns c =
    let w = c.widen_both-len.ensures in
    let o = c.order_cells.ensures in
    record {
      rows_are = o.0 ∙ ap (ascending compare_row) w.rows_are;
      few_rows = omega (arith, o.1, w.few_rows);
      all_cell_words = search rules;
    }
