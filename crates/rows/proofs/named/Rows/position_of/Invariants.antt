-- The row lies from lo to hi, and these draw together.
use Prim.Native.Nat.{◌-◌}
use Rattle.rows.proofs.Positions.{Sought}
use Rattle.rows.proofs.named.Rows.position_of.Given as goal

abbrev pub invariant-loop-lo : goal.invariant-loop-lo
invariant-loop-lo l = Sought l.self.width l.self.cells.now l.order l.row l.lo l.hi

abbrev pub decreases-loop-lo : goal.decreases-loop-lo
decreases-loop-lo l = l.hi - l.lo
