-- The lines of the records so far are written.
use Rattle.listing.specs.Lines.{record_line}
use Rattle.text.proofs.Writing.{Each}
use Rattle.listing.proofs.sets.record_lines.Given as goal

abbrev pub invariant-loop-set : goal.invariant-loop-set
invariant-loop-set l = Each record_line l.records l.initial.out l.set-index l.out
