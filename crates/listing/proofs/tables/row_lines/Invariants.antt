-- The lines of the rows so far are written.
use Rattle.definitions.specs.Listing.{row_line}
use Rattle.rows.specs.Rows.{rows_of}
use Rattle.text.proofs.Writing.{Each}
use Rattle.listing.proofs.tables.row_lines.Given as goal

abbrev pub invariant-loop-i : goal.invariant-loop-i
invariant-loop-i l = Each row_line (rows_of l.rows) l.initial.out l.i l.out
