-- The title, and then the rows.
use Rattle.text.proofs.Writing.{then_wrote}
use Rattle.listing.proofs.tables.table_lines.Goals as goal

pub returns : goal.returns
returns c = then_wrote c.line.ensures c.row_lines.ensures
