-- The head and then the rows by their indices are the image, and the cells written are counted.
use mathlib.Core.List.{flatten}
use Prim.Native.Nat.{◌+◌, ◌*◌, ◌≤◌}
use native.Mathlib.Omega.{arith}
use lib.ListN.{length}
use Rattle.lists.proofs.Pastes.{paste_behind}
use Rattle.images.specs.Writing.{chosen}
use Rattle.images.proofs.Rows.{image_rows_written}
use Rattle.images.proofs.write.write_image.Goals as goal

pub returns : goal.returns
returns c =
    let s = c.args in
    let x = c.write_head.new.buffer in
    let n = length s.column_words.now in
    let long : 1 + n ≤ length x = omega (arith, c.requires.1, c.write_head.auto.buffer) in
    image_rows_written c.requires.0 s.buffer.now x _ c.requires.1 c.write_head.ensures
    (paste_behind x (flatten (chosen s.rows.now s.order.now)) c.write_rows.new.dst (1 + n) (length s.order.now * s.rows.now.width) long c.write_rows.ensures)
    _ c.count_cells.ensures
