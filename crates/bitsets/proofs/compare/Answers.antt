-- `compare` tells the order of two sets: where they differ, the trailing zeros of their exclusive or are the smallest position of one alone.
use borrow.Author.Rules.{rules}
use Rattle.bitsets.proofs.Order.{compare_same, row_below, compare_before, compare_after}
use Rattle.bitsets.specs.Bits.{word_bits}
use Rattle.bitsets.proofs.compare.Goals as goal

pub returns-then-a-b : goal.returns-then-a-b
returns-then-a-b c = compare_same c.args.a c.args.b c.if-a-b.true

pub overflow_shr-a : goal.overflow_shr-a
overflow_shr-a c = row_below word_bits c.args.a c.args.b (search rules) (search rules) c.if-a-b.false

pub returns-then-a-row-eq1 : goal.returns-then-a-row-eq1
returns-then-a-row-eq1 c =
    let s = c.args in
    compare_before word_bits s.a s.b (search rules) (search rules) c.if-a-b.false c.if-a-row-eq1.true

pub returns-else-a-row-eq1 : goal.returns-else-a-row-eq1
returns-else-a-row-eq1 c =
    let s = c.args in
    compare_after word_bits s.a s.b (search rules) (search rules) c.if-a-b.false c.if-a-row-eq1.false
