-- `grows_back` walks the free rows in ascending order: a law for a turn and for each return (Taking).
use lib.ListN.{length}
use Rattle.bitsets.specs.Bits.{Inside, word_bits}
use Rattle.cliques.specs.Graph.{adjacent}
use Rattle.cliques.proofs.Taking.{Walk}
use Rattle.cliques.proofs.search.grows_back.Given as goal

abbrev pub invariant-loop-rest : goal.invariant-loop-rest
invariant-loop-rest l = Inside l.rest (length l.neighbours) × Inside l.rest word_bits × Walk (adjacent l.neighbours) l.free l.set l.rest

abbrev pub decreases-loop-rest : goal.decreases-loop-rest
decreases-loop-rest l = l.rest
