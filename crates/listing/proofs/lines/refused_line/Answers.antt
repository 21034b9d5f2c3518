-- `refused`, a space, the number, and a line behind a space.
use Rattle.std.proofs.Common.{sym, refl, [], ◌∷◌}
use Rattle.definitions.specs.Text.{ascii, decimal}
use Rattle.definitions.specs.Listing.{line}
use Rattle.text.proofs.Writing.{wrote_as, then_wrote, first_fits, behind_fits}
use Rattle.listing.proofs.Fields.{refused_text}
use Rattle.listing.proofs.lines.refused_line.Goals as goal

pub text-requires : goal.text-requires
text-requires c = first_fits _ (refused_text _ _) c.requires

pub number-requires : goal.number-requires
number-requires c =
    first_fits (line (ascii " table" ∷ decimal c.args.table ∷ [])) refl
    (behind_fits (refused_text _ _) c.requires c.text.ensures)

pub line-requires : goal.line-requires
line-requires c =
    behind_fits refl (behind_fits (refused_text _ _) c.requires c.text.ensures) c.number.ensures

pub returns : goal.returns
returns c =
    wrote_as (sym (refused_text _ _))
    (then_wrote c.text.ensures (then_wrote c.number.ensures c.line.ensures))
