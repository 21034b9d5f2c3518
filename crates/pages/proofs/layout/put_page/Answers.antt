-- A page is a part of a band.
use Rattle.std.proofs.Common.{sym}
use Rattle.text.proofs.Writing.{wrote_as, room_as}
use Rattle.pages.proofs.Bands.{page_is}
use Rattle.pages.proofs.layout.put_page.Goals as goal

pub put_part-requires-clause-room : goal.put_part-requires-clause-room
put_part-requires-clause-room c = room_as (page_is c.args.image.words.now c.args.n _ c.band_pages-parts.ensures) c.requires.room

pub returns : goal.returns
returns c = wrote_as (sym (page_is c.args.image.words.now c.args.n _ c.band_pages-parts.ensures)) c.put_part.ensures
