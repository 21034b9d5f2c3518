-- `free_rows` keeps the rows that complement each row of the set. The invariant: what is free for the rows that are left, of the rows kept, is
-- what is free for all, of those given.
use Prim.Native.Nat.{ℕ}
use lib.ListN.{length}
use Rattle.bitsets.specs.Bits.{Inside}
use Rattle.cliques.specs.Graph.{adjacent}
use Rattle.cliques.specs.Search.{FreeRows}
use Rattle.cliques.proofs.search.free_rows.Given as goal

abbrev pub invariant-loop-row : goal.invariant-loop-row
invariant-loop-row l =
    Inside l.row-iterator.rest (length l.neighbours)
    × ((r : ℕ) → FreeRows (adjacent l.neighbours) l.row-iterator.rest l.word r → FreeRows (adjacent l.neighbours) l.set l.start r)
