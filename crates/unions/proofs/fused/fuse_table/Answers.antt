-- The sets are listed, and then either question 9 is answered no, or the sets are fused.
use native.Mathlib.Omega.{arith}
use Rattle.patterns.proofs.FilledRows.{columns_none}
use Rattle.unions.proofs.fused.fuse_table.Goals as goal

pub fill_columns-requires : goal.fill_columns-requires
fill_columns-requires c =
    let r = c.as_rows-rows in
    (omega (arith, r.ensures.len, c.args.t.now.few_rows), columns_none r.result.width (omega (arith, r.ensures.width, c.args.t.now.few_columns)))
