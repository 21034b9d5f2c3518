-- `common_rows` keeps the rows of a part that complement all others of it. The invariant: those kept do, and the rows that are left are of the part.
use Rattle.bitsets.specs.Bits.{Sub}
use Rattle.cliques.specs.Graph.{adjacent}
use Rattle.cliques.specs.Parts.{Common}
use Rattle.cliques.proofs.parts.common_rows.Given as goal

abbrev pub invariant-loop-row : goal.invariant-loop-row
invariant-loop-row l = Sub l.row-iterator.rest l.part × Common (adjacent l.neighbours) l.part l.common
