-- What the writer has written stands in the lent bytes.
use Rattle.std.proofs.Common.{rules}
use Rattle.text.proofs.Writing.{lent_written, lent_room}
use Rattle.fuse_body.proofs.answer.put_lines.Goals as goal

pub put_listing-requires : goal.put_listing-requires
put_listing-requires c = record { fused_words = c.requires.fused_words; room = lent_room c.new-lines.ensures.found c.new-lines.ensures.nothing c.requires.fits }

pub returns : goal.returns
returns c =
    let same = c.put_listing.ensures.same in
    lent_written c.new-lines.ensures.found c.new-lines.ensures.nothing c.put_listing.ensures (search rules) c.length.ensures
