-- `write_members` meets its contract: what is written so far, and the positions of the words that are left, are all.
use Rattle.set_lists.proofs.Positions.{MarksWritten}
use Rattle.set_lists.proofs.members.write_members.Given as goal

abbrev pub invariant-loop-i : goal.invariant-loop-i
invariant-loop-i l = MarksWritten l.marks l.initial.out l.i l.out l.count
