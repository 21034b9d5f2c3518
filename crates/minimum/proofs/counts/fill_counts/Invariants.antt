-- `fill_counts` meets its contract. The loop's invariant: the first i counts are those of the first i rows. Assumes nothing.
use mathlib.Core.Path.{◌≡◌}
use mathlib.Core.List.{map}
use lib.ListN.{take}
use Rattle.definitions.specs.Image.{rows_in}
use Rattle.definitions.specs.MinimumUnion.{filled}
use Rattle.minimum.proofs.counts.fill_counts.Given as goal

abbrev pub invariant-loop-i : goal.invariant-loop-i
invariant-loop-i l = take l.i l.counts ≡ map filled (rows_in l.rows.width l.i l.rows.cells.now)
