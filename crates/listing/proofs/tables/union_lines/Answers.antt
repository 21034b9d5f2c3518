-- The columns, and then the table.
use Rattle.std.proofs.Common.{sym}
use Rattle.text.proofs.Writing.{wrote_as, then_wrote, first_fits, behind_fits}
use Rattle.listing.proofs.Fields.{union_text_lem}
use Rattle.listing.proofs.tables.union_lines.Goals as goal

pub line-requires : goal.line-requires
line-requires c = first_fits _ (union_text_lem c.args.column_words.now c.args.rows.now _) c.requires

pub table_lines-requires : goal.table_lines-requires
table_lines-requires c = behind_fits (union_text_lem c.args.column_words.now c.args.rows.now _) c.requires c.line.ensures

pub returns : goal.returns
returns c =
    wrote_as (sym (union_text_lem c.args.column_words.now c.args.rows.now _)) (then_wrote c.line.ensures c.table_lines.ensures)
