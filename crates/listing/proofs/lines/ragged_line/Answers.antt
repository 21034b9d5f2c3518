-- `ragged`, a space, and a line.
use Rattle.std.proofs.Common.{sym}
use Rattle.text.proofs.Writing.{wrote_as, then_wrote, first_fits, behind_fits}
use Rattle.listing.proofs.Fields.{ragged_text}
use Rattle.listing.proofs.lines.ragged_line.Goals as goal

pub text-requires : goal.text-requires
text-requires c = first_fits _ (ragged_text c.args.name.now) c.requires

pub line-requires : goal.line-requires
line-requires c = behind_fits (ragged_text c.args.name.now) c.requires c.text.ensures

pub returns : goal.returns
returns c = wrote_as (sym (ragged_text c.args.name.now)) (then_wrote c.text.ensures c.line.ensures)
