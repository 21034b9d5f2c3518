-- The positions of the words so far are written, and those of a word behind them.
use Rattle.std.proofs.Common.{refl, arith}
use Rattle.listing.proofs.SetLines.{marks_start, word_fits, word_turn, marks_end}
use Rattle.listing.proofs.sets.put_positions.Goals as goal

pub loop-i-init : goal.loop-i-init
loop-i-init c = marks_start _ _ c.requires.room

pub put_word-requires : goal.put_word-requires
put_word-requires c =
    record {
      room = word_fits c.loop-i.invariant (omega arith) _ refl;
      from = omega (arith, c.requires.few);
    }

pub loop-i-preserved : goal.loop-i-preserved
loop-i-preserved c = word_turn c.loop-i.invariant (omega arith) _ refl c.put_word.ensures

pub returns : goal.returns
returns c = marks_end c.loop-i.invariant (omega arith)
