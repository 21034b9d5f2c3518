-- What the writer has written stands in the lent bytes.
use Rattle.std.proofs.Common.{rules}
use Rattle.text.proofs.Writing.{lent_written, lent_room}
use Rattle.fuse_body.proofs.answer.put_ragged.Goals as goal

pub ragged_line-requires : goal.ragged_line-requires
ragged_line-requires c = lent_room c.new-line.ensures.found c.new-line.ensures.nothing c.requires

pub returns : goal.returns
returns c =
    let same = c.ragged_line.ensures.same in
    lent_written c.new-line.ensures.found c.new-line.ensures.nothing c.ragged_line.ensures (search rules) c.length.ensures
