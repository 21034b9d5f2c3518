-- The ids passed stand nowhere later, so that the test of the rest is the test of all.
use Rattle.std.proofs.Common.{◌≡◌, drop}
use mathlib.Core.List.{map}
use lib.Dec.{eqb}
use Rattle.definitions.specs.Lists.{distinct}
use Rattle.definitions.specs.Word.{id_of}
use Rattle.images.proofs.distinct_ids.Given as goal

abbrev pub invariant-loop-i : goal.invariant-loop-i
invariant-loop-i l = distinct eqb (map id_of l.w) ≡ distinct eqb (map id_of (drop l.i l.w))
