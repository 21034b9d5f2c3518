-- `next` makes progress: the set without its smallest member is a smaller number.
use native.Mathlib.Omega.{arith}
use Rattle.bitsets.proofs.Bits.{rest_less}
use Rattle.bitsets.proofs.members.MembersIterator.next.Goals as goal

pub returns-clause-goes : goal.returns-clause-goes
returns-clause-goes c = omega (arith, rest_less c.args.self.now.rest (omega arith), c.without_lowest-self.ensures)
