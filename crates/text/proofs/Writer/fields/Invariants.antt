-- The fields of the values so far are written.
use Rattle.std.proofs.Common.{◌∷◌}
use Rattle.text.specs.Bytes.{space}
use Rattle.text.proofs.Writing.{Each}
use Rattle.text.proofs.Writer.fields.Given as goal

abbrev pub invariant-loop-value : goal.invariant-loop-value
invariant-loop-value g l = Each (λ v. space ∷ g.S.Style.shown v) l.values l.initial.self l.value-index l.self
