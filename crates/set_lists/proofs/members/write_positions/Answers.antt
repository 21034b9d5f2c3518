-- `write_positions` meets its contract: what is written so far, and the positions of the bits that are left, are those of the word.
use native.Mathlib.Omega.{arith}
use Rattle.set_lists.proofs.Positions.{word_start, bit_small, bit_fits, bit_turn, word_end}
use Rattle.set_lists.proofs.members.write_positions.Goals as goal

pub loop-count-init : goal.loop-count-init
loop-count-init c = rw (c.into_iter-count-iterator.ensures.into_iter_gives, c.enumerate-count-items.ensures.source, c.enumerate-count-items.ensures.count, c.of.ensures) (word_start _ _ _ _ (omega arith) c.low_bits-marks.ensures)

pub overflow_cast-out : goal.overflow_cast-out
overflow_cast-out c = omega (arith, bit_small c.loop-count.invariant.small c.in-Some.ensures.steps.0)

pub overflow_add-out : goal.overflow_add-out
overflow_add-out c = omega (arith, bit_small c.loop-count.invariant.small c.in-Some.ensures.steps.0)

pub bounds-out-count : goal.bounds-out-count
bounds-out-count c = omega (arith, bit_fits c.loop-count.invariant c.in-Some.ensures.steps.0, c.in-Some.ensures.steps.1)

pub loop-count-preserved : goal.loop-count-preserved
loop-count-preserved c =
    let steps = c.in-Some.ensures.steps in
    rw (steps.2, steps.1) (bit_turn c.loop-count.invariant steps.0)

pub returns : goal.returns
returns c = word_end c.loop-count.invariant c.in-None.ensures.steps.0 c.low_bits-marks.ensures
