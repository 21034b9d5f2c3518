-- The words of the chunks so far.
use Rattle.std.proofs.Common.{◌≡◌, take, map, w32}
use Rattle.std.specs.Int.{from_le_bytes}
use Rattle.fuse_body.proofs.file.decode.Given as goal

abbrev pub invariant-loop-i : goal.invariant-loop-i
invariant-loop-i l = take l.i l.words ≡ map (from_le_bytes w32) (take l.i l.chunks)
