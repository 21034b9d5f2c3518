-- The words of all chunks are those of the bytes.
use Rattle.std.proofs.Common.{arith}
use Rattle.fuse_body.proofs.Decoding.{decoded}
use Rattle.fuse_body.proofs.file.decode.Goals as goal

pub returns : goal.returns
returns c =
    decoded _ _ _ c.loop-i.i c.as_chunks.ensures.front (omega arith) (omega (arith, c.as_chunks.ensures.front_len)) c.loop-i.invariant
