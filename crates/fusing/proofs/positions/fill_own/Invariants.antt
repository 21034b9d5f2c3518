-- `fill_own` meets its contract. The loop's invariant: each position written is that at which the row's own index stands.
use Rattle.fusing.specs.Positions.{OwnPositions}
use Rattle.fusing.proofs.positions.fill_own.Given as goal

abbrev pub invariant-loop-j : goal.invariant-loop-j
invariant-loop-j l = OwnPositions l.order l.positions
