-- `add_row` meets its contract. The loop's invariant: the first c columns hold row j. Assumes nothing.
use Rattle.patterns.proofs.FilledRows.{FilledTo}
use Rattle.patterns.proofs.columns.add_row.Given as goal

abbrev pub invariant-loop-c : goal.invariant-loop-c
invariant-loop-c l = FilledTo l.row l.j l.initial.columns l.c l.columns
