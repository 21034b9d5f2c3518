-- `join_set` meets its contract. The loop's invariant: the cells of the columns passed are written.
use mathlib.Core.Path.{◌≡◌}
use Prim.Native.Nat.{ℕ, ◌<◌}
use lib.ListN.{get_or}
use Rattle.fusing.specs.Join.{pick_from}
use Rattle.fusing.proofs.join.join_set.Given as goal

abbrev pub invariant-loop-c : goal.invariant-loop-c
invariant-loop-c l =
    (k : ℕ) → k < l.c
    → get_or l.out k 0 ≡ get_or (pick_from l.t.rows.width l.t.rows.cells.now l.set 0 l.t.columns.now) k 0
