-- The indices of the columns passed stand in the list.
use mathlib.Core.Path.{◌≡◌}
use Prim.Native.Nat.{ℕ, ◌<◌}
use lib.ListN.{get_or}
use Rattle.definitions.specs.Word.{id_of}
use Rattle.tables.specs.UnionIds.{smaller_than}
use Rattle.tables.proofs.widen.column_indices.Given as goal

abbrev pub invariant-loop-j : goal.invariant-loop-j
invariant-loop-j l = (k : ℕ) → k < l.j → get_or l.indices k 0 ≡ smaller_than (id_of (get_or l.columns k 0)) l.union
