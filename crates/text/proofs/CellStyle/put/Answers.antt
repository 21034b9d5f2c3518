-- Each arm is a case of the text of a cell.
use Rattle.std.proofs.Common.{rules, sym, ◌∙◌, ap}
use Rattle.definitions.specs.Text.{decimal}
use Rattle.definitions.proofs.Cells.{none_text, empty_text, number_text}
use Rattle.text.proofs.Writing.{wrote_as, room_as}
use Rattle.text.proofs.CellStyle.put.Goals as goal

pub text-requires : goal.text-requires
text-requires c = room_as (empty_text _ c.in-0.is) c.requires

pub returns-in-0 : goal.returns-in-0
returns-in-0 c = wrote_as (sym (empty_text _ c.in-0.is)) c.text.ensures

pub text-requires-in-2147483648 : goal.text-requires-in-2147483648
text-requires-in-2147483648 c = room_as (none_text _ c.in-2147483648.is) c.requires

pub returns-in-2147483648 : goal.returns-in-2147483648
returns-in-2147483648 c = wrote_as (sym (none_text _ c.in-2147483648.is)) c.text-in-2147483648.ensures

pub number-requires : goal.number-requires
number-requires c =
    room_as (number_text _ (search rules) (search rules) ∙ sym (ap decimal c.low_bits.ensures)) c.requires

pub returns-in_default : goal.returns-in_default
returns-in_default c =
    wrote_as (ap decimal c.low_bits.ensures ∙ sym (number_text _ (search rules) (search rules))) c.number.ensures
