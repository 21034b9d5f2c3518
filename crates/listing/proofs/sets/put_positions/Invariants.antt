-- The positions of the words so far are written.
use Rattle.listing.proofs.SetLines.{MarksPut}
use Rattle.listing.proofs.sets.put_positions.Given as goal

abbrev pub invariant-loop-i : goal.invariant-loop-i
invariant-loop-i l = MarksPut l.marks l.initial.out l.i l.out
