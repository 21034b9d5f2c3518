-- The positions are written but for those of the bits that are left.
use Rattle.listing.proofs.SetLines.{WordPut}
use Rattle.listing.proofs.sets.put_word.Given as goal

abbrev pub invariant-loop-position : goal.invariant-loop-position
invariant-loop-position l = WordPut l.from l.w l.initial.out l.position-iterator.rest l.out
