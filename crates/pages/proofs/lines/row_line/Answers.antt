-- The position, and then the cells.
use Rattle.std.proofs.Common.{sym, arith}
use Rattle.definitions.proofs.Pages.{four_digits, cell_fits}
use Rattle.text.proofs.Writing.{wrote_as, then_wrote, first_fits, behind_fits}
use Rattle.pages.proofs.LineParts.{row_parts}
use Rattle.pages.proofs.lines.row_line.Goals as goal

pub flush_right-requires-clause-narrow : goal.flush_right-requires-clause-narrow
flush_right-requires-clause-narrow c = (four_digits c.args.position c.requires.few.0, omega arith)

pub flush_right-requires-clause-room : goal.flush_right-requires-clause-room
flush_right-requires-clause-room c = first_fits _ (row_parts _ _ c.requires.few.0 c.requires.few.1) c.requires.room

pub put_cells-requires-clause-narrow : goal.put_cells-requires-clause-narrow
put_cells-requires-clause-narrow c = cell_fits

pub put_cells-requires-clause-room : goal.put_cells-requires-clause-room
put_cells-requires-clause-room c = behind_fits (row_parts _ _ c.requires.few.0 c.requires.few.1) c.requires.room c.flush_right.ensures

pub returns : goal.returns
returns c = wrote_as (sym (row_parts _ _ c.requires.few.0 c.requires.few.1)) (then_wrote c.flush_right.ensures c.put_cells.ensures)
