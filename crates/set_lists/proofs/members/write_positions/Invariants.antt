-- `write_positions` meets its contract: what is written so far, and the positions of the bits that are left, are those of the word.
use Rattle.set_lists.proofs.Positions.{WordWritten}
use Rattle.set_lists.proofs.members.write_positions.Given as goal

abbrev pub invariant-loop-count : goal.invariant-loop-count
invariant-loop-count l = WordWritten l.from l.w l.initial.out l.count-iterator.iter.rest l.out l.count-iterator.count
