-- The lines so far are written.
use Rattle.definitions.specs.Page.{page_rows, line_on}
use Rattle.text.proofs.Writing.{Counted}
use Rattle.pages.proofs.layout.Band.put_part.Given as goal

abbrev pub invariant-loop-i : goal.invariant-loop-i
invariant-loop-i l = Counted (line_on l.self.image.words.now l.self.number l.part) page_rows l.initial.out l.i l.out
