-- The positions are written but for those of the bits that are left: the lowest is next, with a space behind it.
use Rattle.std.proofs.Common.{arith}
use Rattle.set_lists.proofs.Positions.{bit_small}
use Rattle.listing.proofs.SetLines.{word_start, number_fits, space_fits, bit_turn, word_end}
use Rattle.listing.proofs.sets.put_word.Goals as goal

pub loop-position-init : goal.loop-position-init
loop-position-init c =
    rw (c.into_iter-position-iterator.ensures.into_iter_gives, c.of-position-items.ensures) (word_start _ _ _ _ c.requires.room c.low_bits.ensures)

pub overflow_add-from : goal.overflow_add-from
overflow_add-from c = omega (arith, c.requires.from, bit_small c.loop-position.invariant.small c.in-Some.ensures.steps)

pub number-requires : goal.number-requires
number-requires c = number_fits c.loop-position.invariant c.in-Some.ensures.steps

pub space-requires : goal.space-requires
space-requires c = space_fits c.loop-position.invariant c.in-Some.ensures.steps c.number.ensures

pub loop-position-preserved : goal.loop-position-preserved
loop-position-preserved c = bit_turn c.loop-position.invariant c.in-Some.ensures.steps c.number.ensures c.space.ensures

pub returns : goal.returns
returns c = word_end c.loop-position.invariant c.in-None.ensures.steps
