-- `join_sets` meets its contract. The loop's invariant: the joined rows of the sets passed stand one after the other.
use mathlib.Core.List.{flatten}
use Prim.Native.Nat.{◌*◌}
use Rattle.lists.proofs.Pastes.{Pasted}
use Rattle.fusing.specs.Fused.{joined_rows}
use Rattle.fusing.specs.UnionRows.{rows_of}
use Rattle.fusing.proofs.join.join_sets.Given as goal

abbrev pub invariant-loop-k : goal.invariant-loop-k
invariant-loop-k l =
    Pasted l.initial.out 0 (flatten (joined_rows l.t.column_words.now (rows_of l.t))) (l.k * l.t.rows.width) l.out
