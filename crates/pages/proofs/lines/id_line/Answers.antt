-- Four blanks, and then the ids.
use Rattle.std.proofs.Common.{sym}
use Rattle.definitions.proofs.Pages.{id_fits}
use Rattle.text.proofs.Writing.{wrote_as, then_wrote, first_fits, behind_fits}
use Rattle.pages.proofs.LineParts.{ids_parts}
use Rattle.pages.proofs.lines.id_line.Goals as goal

pub blanks-requires : goal.blanks-requires
blanks-requires c = first_fits _ (ids_parts _ c.requires.few) c.requires.room

pub put_cells-requires-clause-narrow : goal.put_cells-requires-clause-narrow
put_cells-requires-clause-narrow c = id_fits

pub put_cells-requires-clause-room : goal.put_cells-requires-clause-room
put_cells-requires-clause-room c = behind_fits (ids_parts _ c.requires.few) c.requires.room c.blanks.ensures

pub returns : goal.returns
returns c = wrote_as (sym (ids_parts _ c.requires.few)) (then_wrote c.blanks.ensures c.put_cells.ensures)
