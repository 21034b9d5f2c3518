-- `add_to_each` changes each set of the list. The invariant: the sets so far are changed, and the others are not.
use Rattle.bitsets.specs.Bits.{either}
use Rattle.lists.proofs.Walks.{Mapped}
use Rattle.cliques.proofs.parts.add_to_each.Given as goal

abbrev pub invariant-loop-set : goal.invariant-loop-set
invariant-loop-set l = Mapped (λ s. either s l.rows) l.initial.set-items l.set-items l.set-index
