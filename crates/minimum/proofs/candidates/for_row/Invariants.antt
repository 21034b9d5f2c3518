-- `for_row` meets its contract. The loop's invariant: the set holds the fuller rows that are filled where the row is, of the columns passed.
-- Assumes nothing.
use lib.ListN.{length}
use Rattle.minimum.proofs.Passing.{HeldTo}
use Rattle.minimum.proofs.candidates.for_row.Given as goal

abbrev pub invariant-loop-cell : goal.invariant-loop-cell
invariant-loop-cell l = HeldTo l.row l.fuller l.columns (length l.yielded) l.set
