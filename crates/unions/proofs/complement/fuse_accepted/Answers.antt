-- The table in work holds T: what the questions from 9 on leave is the promise.
use mathlib.Core.Path.{refl}
use Rattle.tables.proofs.UnionLaws.{filled_table}
use Rattle.unions.proofs.Fusing.{union_promised}
use Rattle.unions.proofs.complement.fuse_accepted.Goals as goal

pub returns : goal.returns
returns c =
    let found = c.args.pair.now.found in
    union_promised found c.fuse_table.ensures (filled_table found c.new-t.result c.new-t.ensures refl refl c.union_rows.ensures)
