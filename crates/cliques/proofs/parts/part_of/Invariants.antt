-- `part_of` grows a part until no row is ahead: a law for a turn and for the return (Growing). Fewer rows are left out at each turn.
use Rattle.bitsets.specs.Bits.{but_not}
use Rattle.cliques.specs.Search.{row_of}
use Rattle.cliques.proofs.Growing.{Growing}
use Rattle.cliques.proofs.parts.part_of.Given as goal

abbrev pub invariant-loop-ahead : goal.invariant-loop-ahead
invariant-loop-ahead l = Growing (row_of l.neighbours) l.rows l.part l.ahead

abbrev pub decreases-loop-ahead : goal.decreases-loop-ahead
decreases-loop-ahead l = but_not l.rows l.part
