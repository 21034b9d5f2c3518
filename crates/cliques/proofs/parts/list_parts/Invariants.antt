-- `list_parts` lists the sets part by part. The invariant: what the list grows to from here on is what it grows to from the start (PartTurns).
use Prim.Native.Nat.{suc}
use Rattle.definitions.specs.Limits.{max_sets}
use Rattle.bitsets.specs.Bits.{word_bits}
use Rattle.cliques.specs.Search.{row_of}
use Rattle.cliques.proofs.PartTurns.{ListedParts}
use Rattle.cliques.proofs.parts.list_parts.Given as goal

abbrev pub invariant-loop-rest : goal.invariant-loop-rest
invariant-loop-rest l =
    ListedParts (row_of l.neighbours) (suc max_sets) word_bits l.rows l.list l.rest l.count

abbrev pub decreases-loop-rest : goal.decreases-loop-rest
decreases-loop-rest l = l.rest
