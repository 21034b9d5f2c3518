-- The cells of the words so far are written.
use Rattle.definitions.specs.Page.{cell_width, flush_right}
use Rattle.text.proofs.Writing.{Each}
use Rattle.pages.proofs.lines.put_cells.Given as goal

abbrev pub invariant-loop-word : goal.invariant-loop-word
invariant-loop-word g l = Each (λ w. flush_right cell_width (g.S.Style.shown w)) l.words l.initial.out l.word-index l.out
