-- The title, the fields, and the end of the line.
use Rattle.std.proofs.Common.{sym, refl, [], ◌∷◌}
use Rattle.text.specs.Bytes.{newline}
use Rattle.text.proofs.Writing.{wrote_as, then_wrote, first_fits, behind_fits}
use Rattle.listing.proofs.Fields.{line_fields}
use Rattle.listing.proofs.lines.line.Goals as goal

pub text-requires : goal.text-requires
text-requires g c = first_fits _ (line_fields g.S.Style.shown _ _) c.requires

pub fields-requires : goal.fields-requires
fields-requires g c = first_fits (newline ∷ []) refl (behind_fits (line_fields g.S.Style.shown _ _) c.requires c.text.ensures)

pub newline-requires : goal.newline-requires
newline-requires g c = behind_fits refl (behind_fits (line_fields g.S.Style.shown _ _) c.requires c.text.ensures) c.fields.ensures

pub returns : goal.returns
returns g c = wrote_as (sym (line_fields g.S.Style.shown _ _)) (then_wrote c.text.ensures (then_wrote c.fields.ensures c.newline.ensures))
