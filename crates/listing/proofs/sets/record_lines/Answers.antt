-- The lines of the records so far are written.
use Rattle.std.proofs.Common.{sym, refl, arith, [], append-nil}
use Rattle.text.proofs.Writing.{each_start, each_turn, each_fits}
use Rattle.listing.proofs.sets.record_lines.Goals as goal

pub loop-set-init : goal.loop-set-init
loop-set-init c = each_start _ _ _ _ c.requires

pub set_line-requires : goal.set_line-requires
set_line-requires c = each_fits c.loop-set.invariant _ [] (omega arith) refl [] (sym (append-nil _)) c.requires

pub loop-set-preserved : goal.loop-set-preserved
loop-set-preserved c = each_turn c.loop-set.invariant _ [] (omega arith) refl c.set_line.ensures
