-- `write_rows` writes one row after the other (Writing). The invariant: the words of the rows so far are written.
use mathlib.Core.List.{flatten}
use Prim.Native.Nat.{◌*◌}
use Rattle.lists.proofs.Pastes.{Pasted}
use Rattle.rows.specs.Indices.{rows_at}
use Rattle.rows.proofs.named.Rows.write_rows.Given as goal

abbrev pub invariant-loop-k : goal.invariant-loop-k
invariant-loop-k l = Pasted l.initial.dst 0 (flatten (rows_at l.self.width l.self.cells.now l.order)) (l.k * l.self.width) l.dst
