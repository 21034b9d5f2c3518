-- The cells of the words so far are written, and then the end of the line.
use Rattle.std.proofs.Common.{refl, [], ◌∷◌, arith}
use Rattle.text.proofs.Writing.{then_wrote, first_fits, behind_fits, each_start, each_turn, each_fits, each_end}
use Rattle.pages.proofs.lines.put_cells.Goals as goal

pub loop-word-init : goal.loop-word-init
loop-word-init g c = each_start _ _ _ _ c.requires.room

pub flush_right-requires-clause-room : goal.flush_right-requires-clause-room
flush_right-requires-clause-room g c = each_fits c.loop-word.invariant _ 0 (omega arith) refl _ refl c.requires.room

pub loop-word-preserved : goal.loop-word-preserved
loop-word-preserved g c = each_turn c.loop-word.invariant _ 0 (omega arith) refl c.flush_right.ensures

pub blanks-requires : goal.blanks-requires
blanks-requires g c = first_fits (10 ∷ []) refl (behind_fits refl c.requires.room (each_end c.loop-word.invariant (omega arith)))

pub newline-requires : goal.newline-requires
newline-requires g c = behind_fits refl (behind_fits refl c.requires.room (each_end c.loop-word.invariant (omega arith))) c.blanks.ensures

pub returns : goal.returns
returns g c = then_wrote (each_end c.loop-word.invariant (omega arith)) (then_wrote c.blanks.ensures c.newline.ensures)
