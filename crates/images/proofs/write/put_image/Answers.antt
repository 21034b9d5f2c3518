-- Each return is a case of question 10.
use native.Mathlib.Omega.{arith}
use Rattle.images.proofs.Rows.{no_room, room}
use Rattle.images.proofs.write.put_image.Goals as goal

pub returns-then-buffer-words : goal.returns-then-buffer-words
returns-then-buffer-words c = no_room c.requires c.args.buffer.now c.if-buffer-words.true c.from.result c.from.ensures

pub returns : goal.returns
returns c = room c.requires c.args.buffer.now (omega (arith, c.if-buffer-words.false)) _ _ c.write_image-filled.ensures
