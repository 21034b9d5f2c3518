-- `crossing` meets its contract: a turn adds what the next column says of each row.
use borrow.Author.Rules.{rules}
use mathlib.Core.Path.{refl}
use Prim.Native.Nat.{◌-◌, ◌^◌}
use native.Mathlib.Omega.{arith}
use lib.Bits.{bit_and, bit_or, and_le_l}
use lib.ListN.{get_or}
use Rattle.bitsets.specs.Bits.{word_bits}
use Rattle.fusing.proofs.Crossing.{passed_start, passed_turn, passed_end}
use Rattle.fusing.proofs.graph.crossing.Goals as goal

pub loop-c-init : goal.loop-c-init
loop-c-init c =
    let a = c.args in
    record { above_fits = search rules; within_fits = search rules; passed = passed_start a.row.now a.columns.now a.counted.now }

pub loop-c-preserved : goal.loop-c-preserved
loop-c-preserved c =
    let a = c.args in
    let l = c.loop-c in
    let f = get_or a.columns.now l.c 0 in
    let n = get_or a.counted.now l.c 0 in
    let e = c.blank-empty.result in
    record {
      above_fits = omega (arith, and_le_l l.above (bit_or f e), l.invariant.above_fits);
      within_fits = omega (arith, and_le_l l.within (2 ^ word_bits - 1 - bit_and f e), l.invariant.within_fits);
      passed = passed_turn a.row.now a.columns.now a.counted.now l.c l.shared l.above l.within f n e (omega arith)
          (omega (arith, c.type_inv.counted l.c)) refl refl c.blank-empty.ensures l.invariant.passed;
    }

pub returns : goal.returns
returns c =
    let a = c.args in
    let l = c.loop-c in
    passed_end a.row.now a.columns.now a.counted.now l.c l.shared l.above l.within (omega arith) l.invariant.above_fits l.invariant.within_fits l.invariant.passed
