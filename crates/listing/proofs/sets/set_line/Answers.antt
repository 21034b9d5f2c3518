-- The positions, and then a line.
use Rattle.std.proofs.Common.{sym, refl, arith}
use Rattle.text.proofs.Writing.{wrote_as, then_wrote, first_fits, behind_fits}
use Rattle.listing.proofs.SetLines.{front_text}
use Rattle.listing.proofs.sets.set_line.Goals as goal

pub put_positions-requires-clause-room : goal.put_positions-requires-clause-room
put_positions-requires-clause-room c = first_fits _ (front_text c.args.set.now _ (omega arith) refl) c.requires

pub line-requires : goal.line-requires
line-requires c = behind_fits (front_text c.args.set.now _ (omega arith) c.low_bits.ensures) c.requires c.put_positions.ensures

pub returns : goal.returns
returns c = wrote_as (sym (front_text c.args.set.now _ (omega arith) c.low_bits.ensures)) (then_wrote c.put_positions.ensures c.line.ensures)
