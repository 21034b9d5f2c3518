-- The digits before the last one are those of a tenth.
use Rattle.std.proofs.Common.{sym, arith}
use Rattle.definitions.proofs.Digits.{decimal_digit, decimal_last, digit_length, last_length}
use Rattle.lists.proofs.Writing.{then_written, as_written}
use Rattle.text.proofs.+put_digits.Goals as goal

pub put_byte-requires : goal.put_byte-requires
put_byte-requires t c = omega (arith, digit_length _ c.if-n-lt10.true)

pub returns-then-n-lt10 : goal.returns-then-n-lt10
returns-then-n-lt10 t c = as_written (sym (decimal_digit _ c.if-n-lt10.true)) c.put_byte.ensures

pub put_digits-last-requires : goal.put_digits-last-requires
put_digits-last-requires t c = (omega arith, omega (arith, last_length _ c.if-n-lt10.false))

pub put_byte-requires-2 : goal.put_byte-requires-2
put_byte-requires-2 t c =
    omega (arith, last_length _ c.if-n-lt10.false, c.put_digits-last.ensures.ends, c.put_digits-last.auto.bytes)

pub returns : goal.returns
returns t c = as_written (sym (decimal_last _ c.if-n-lt10.false)) (then_written c.put_digits-last.ensures c.put_byte-2.ensures)
