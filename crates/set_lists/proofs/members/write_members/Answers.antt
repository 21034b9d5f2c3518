-- `write_members` meets its contract: what is written so far, and the positions of the words that are left, are all.
use Rattle.std.proofs.Common.{refl, arith}
use Rattle.set_lists.proofs.Positions.{word_fits, word_turn, marks_end}
use Rattle.set_lists.proofs.members.write_members.Goals as goal

pub write_positions-count-requires : goal.write_positions-count-requires
write_positions-count-requires c =
    let t = c.loop-i.invariant in
    (word_fits t (omega arith) _ refl, omega (arith, c.requires.marks_len_bound))

pub loop-i-preserved : goal.loop-i-preserved
loop-i-preserved c = word_turn c.loop-i.invariant (omega arith) _ refl c.write_positions-count.ensures

pub returns : goal.returns
returns c = marks_end c.loop-i.invariant (omega arith)
