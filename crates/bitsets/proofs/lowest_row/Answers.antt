-- `lowest_row` gives the smallest position of a set: the trailing zeros stand below it.
use borrow.Author.Rules.{rules}
use Rattle.bitsets.proofs.Bits.{trailing_is}
use Rattle.bitsets.specs.Bits.{word_bits}
use Rattle.bitsets.proofs.lowest_row.Goals as goal

pub returns : goal.returns
returns c = trailing_is word_bits c.args.set (search rules) (search rules)
