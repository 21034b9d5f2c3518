-- `add_row` meets its contract: at the last column the words hold row j. Assumes nothing.
use native.Mathlib.Omega.{arith}
use Rattle.patterns.proofs.FilledRows.{filled_to_end}
use Rattle.patterns.proofs.columns.add_row.Goals as goal

pub returns : goal.returns
returns c =
    let a = c.args in
    let l = c.loop-c in
    filled_to_end a.row.now a.j a.columns.now l.c l.columns (omega arith) c.requires.1 l.invariant
