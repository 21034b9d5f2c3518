-- A row without cells, or the first cell, the others, and the end of the line.
use Rattle.std.proofs.Common.{sym, refl, [], ◌∷◌}
use Rattle.text.specs.Bytes.{newline}
use Rattle.text.proofs.Writing.{wrote_as, then_wrote, room_as, first_fits, behind_fits}
use Rattle.listing.proofs.Fields.{no_cells, some_cells}
use Rattle.listing.proofs.lines.row_line.Goals as goal

pub newline-requires : goal.newline-requires
newline-requires c = room_as (no_cells _ c.in_default.len_below) c.requires

pub returns-in_default : goal.returns-in_default
returns-in_default c = wrote_as (sym (no_cells _ c.in_default.len_below)) c.newline.ensures

pub put-requires : goal.put-requires
put-requires c = first_fits _ (some_cells _ c.in-len1-up.len_at_least) c.requires

pub fields-requires : goal.fields-requires
fields-requires c =
    first_fits (newline ∷ []) refl (behind_fits (some_cells _ c.in-len1-up.len_at_least) c.requires c.put.ensures)

pub newline-requires-2 : goal.newline-requires-2
newline-requires-2 c =
    behind_fits refl (behind_fits (some_cells _ c.in-len1-up.len_at_least) c.requires c.put.ensures) c.fields.ensures

pub returns : goal.returns
returns c =
    wrote_as (sym (some_cells _ c.in-len1-up.len_at_least))
    (then_wrote c.put.ensures (then_wrote c.fields.ensures c.newline-2.ensures))
