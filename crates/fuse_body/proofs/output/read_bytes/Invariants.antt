-- What came fits the buffer, and each turn of the loop that goes on brings more.
use Rattle.std.proofs.Common.{◌-◌, ◌≤◌, length}
use Rattle.fuse_body.proofs.output.read_bytes.Given as goal

abbrev pub invariant-loop-done : goal.invariant-loop-done
invariant-loop-done g l = l.done ≤ length l.bytes

abbrev pub decreases-loop-done : goal.decreases-loop-done
decreases-loop-done g l = length l.initial.bytes - l.done
