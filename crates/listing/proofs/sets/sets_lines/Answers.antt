-- The title, and then the records.
use Rattle.text.proofs.Writing.{then_wrote}
use Rattle.listing.proofs.sets.sets_lines.Goals as goal

pub returns : goal.returns
returns c = then_wrote c.line.ensures c.record_lines.ensures
