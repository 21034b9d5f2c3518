-- `write_list` meets its contract: the header and the records of the sets so far are written.
use Rattle.std.proofs.Common.{length}
use Rattle.set_lists.proofs.Records.{ListWritten}
use Rattle.set_lists.proofs.write.write_list.Given as goal

abbrev pub invariant-loop-set : goal.invariant-loop-set
invariant-loop-set l =
    (goal.iterator-loop-set).can_next l.set-iterator
    × (goal.iterator-loop-set).is_finite l.set-iterator
    × ListWritten l.sets l.positions l.fn.buffer (length l.yielded) l.at l.buffer
