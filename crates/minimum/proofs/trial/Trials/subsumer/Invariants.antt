-- `subsumer` meets its contract. The invariants: of the candidates, all that subsume row k are left; row j covers row k as it does from column c on.
-- Assumes nothing.
use Prim.Native.Nat.{◌<◌}
use lib.ListN.{length}
use Rattle.minimum.proofs.Trying.{CoveredTo, Remaining}
use Rattle.minimum.proofs.trial.Trials.subsumer.Given as goal

abbrev pub invariant-rows : goal.invariant-rows
invariant-rows l = Remaining l.self l.k l.rest

abbrev pub decreases-rows : goal.decreases-rows
decreases-rows l = l.rest

abbrev pub invariant-loop-c : goal.invariant-loop-c
invariant-loop-c l = (l.c < length l.row) × CoveredTo l.self l.k l.j l.c
