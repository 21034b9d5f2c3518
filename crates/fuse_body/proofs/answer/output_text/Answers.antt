-- The text of the bytes that are read.
use Rattle.std.proofs.Common.{arith}
use Rattle.fuse_body.proofs.Texts.{read_whole, written_whole}
use Rattle.fuse_body.proofs.answer.output_text.Goals as goal

pub returns : goal.returns
returns c =
    let text = read_whole c.args.output c.args.board.now c.args.plant.now _ _ c.min.ensures c.min-2.ensures in
    written_whole _ _ _ _ _ (omega arith) text c.put_read.ensures
