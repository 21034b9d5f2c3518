-- The part of the row in the band, or a blank line behind the last row.
use Rattle.std.proofs.Common.{sym, arith, ◌<◌}
use Rattle.definitions.specs.Image.{row_count}
use Rattle.text.proofs.Writing.{wrote_as, room_as}
use Rattle.pages.proofs.Bands.{row_shown}
use Rattle.pages.proofs.layout.Band.put_line.Goals as goal

pub row_line-requires-clause-room : goal.row_line-requires-clause-room
row_line-requires-clause-room c =
    let band = c.args.self.now in
    let more : c.args.position < row_count band.image.words.now = omega (arith, c.rows.ensures.count, c.if-rows-position.false) in
    room_as (sym (row_shown band.image.words.now band.number _ _ c.in_band-cells.ensures c.args.position more c.row.ensures.cells)) c.requires

pub returns : goal.returns
returns c =
    let band = c.args.self.now in
    let more : c.args.position < row_count band.image.words.now = omega (arith, c.rows.ensures.count, c.if-rows-position.false) in
    wrote_as (row_shown band.image.words.now band.number _ _ c.in_band-cells.ensures c.args.position more c.row.ensures.cells) c.row_line.ensures
