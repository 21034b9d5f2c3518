-- `pattern` meets its contract. The loop's invariant: p is the pattern of the first i cells. Assumes nothing.
use mathlib.Core.Path.{◌≡◌}
use lib.ListN.{take}
use Rattle.patterns.specs.Pattern.{pattern_of}
use Rattle.patterns.proofs.pattern.Given as goal

abbrev pub invariant-loop-i : goal.invariant-loop-i
invariant-loop-i l = l.p ≡ pattern_of (take l.i l.row)
