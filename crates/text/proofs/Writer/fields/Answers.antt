-- The fields of the values so far are written.
use Rattle.std.proofs.Common.{[], arith, sym, append-nil}
use Rattle.text.proofs.Writing.{each_start, each_turn, each_fits, each_end}
use Rattle.text.proofs.Writer.fields.Goals as goal

pub loop-value-init : goal.loop-value-init
loop-value-init g c = each_start _ _ _ _ c.requires

pub next-requires : goal.next-requires
next-requires g c = each_fits c.loop-value.invariant _ _ (omega arith) c.value-item.is [] (sym (append-nil _)) c.requires

pub loop-value-preserved : goal.loop-value-preserved
loop-value-preserved g c = each_turn c.loop-value.invariant _ _ (omega arith) c.value-item.is c.next.ensures

pub returns : goal.returns
returns g c = each_end c.loop-value.invariant (omega arith)
