-- The text stands over the last blanks.
use Rattle.std.proofs.Common.{refl}
use Rattle.text.proofs.Writing.{flushed_right}
use Rattle.text.proofs.Writer.flush_right.Goals as goal

pub returns : goal.returns
returns c = record { same = refl; written = flushed_right _ _ _ _ _ _ _ c.requires.narrow c.put_blanks-end.ensures c.write_over.ensures }
