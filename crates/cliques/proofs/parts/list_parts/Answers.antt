-- `list_parts` lists the sets part by part. The invariant: what the list grows to from here on is what it grows to from the start (PartTurns).
use mathlib.Core.Path.{◌≡◌}
use Prim.Native.Nat.{suc}
use native.Mathlib.Omega.{arith}
use borrow.Author.Rules.{rules}
use lib.ListN.{length, take}
use lib.Seq.{length-take-le}
use Rattle.definitions.specs.Limits.{max_sets}
use Rattle.bitsets.specs.Bits.{word_bits}
use Rattle.cliques.specs.Graph.{adjacent}
use Rattle.cliques.specs.Search.{row_of}
use Rattle.cliques.proofs.PartTurns.{continue_full, continue_part, continue_end, part_less, left_sub}
use Rattle.cliques.proofs.parts.list_parts.Goals as goal

pub returns-then-count-gt-MAX_SETS : goal.returns-then-count-gt-MAX_SETS
returns-then-count-gt-MAX_SETS c =
    let held : length (take c.loop-rest.count c.loop-rest.list) ≡ c.loop-rest.count = length-take-le c.loop-rest.count c.loop-rest.list (omega (arith, c.loop-rest.invariant.room, c.loop-rest.invariant.few)) in
    let s = c.args in (
      c.loop-rest.invariant.few,
      continue_full (row_of s.neighbours.now) (suc max_sets) word_bits s.rows c.loop-rest.rest (take c.loop-rest.count c.loop-rest.list) c.loop-rest.invariant.continues
          (omega (arith, held, c.if-count-gt-MAX_SETS.true)),
    )

pub loop-rest-smaller : goal.loop-rest-smaller
loop-rest-smaller c =
    part_less (adjacent c.args.neighbours.now) c.loop-rest.rest c.part_of-part.result c.minus-rest.result c.part_of-part.ensures c.minus-rest.ensures

pub loop-rest-preserved : goal.loop-rest-preserved
loop-rest-preserved c =
    let held : length (take c.loop-rest.count c.loop-rest.list) ≡ c.loop-rest.count = length-take-le c.loop-rest.count c.loop-rest.list (omega (arith, c.loop-rest.invariant.room, c.loop-rest.invariant.few)) in
    let s = c.args in
    record {
      room = search rules;
      few = c.list_part-count.ensures.0;
      within = λ k h. c.loop-rest.invariant.within k (left_sub c.loop-rest.rest c.part_of-part.result c.minus-rest.result c.minus-rest.ensures k h);
      continues = continue_part (row_of s.neighbours.now) (suc max_sets) word_bits s.rows c.loop-rest.rest (take c.loop-rest.count c.loop-rest.list) c.loop-rest.invariant.continues
          (omega (arith, held, c.if-count-gt-MAX_SETS.false)) c.part_of-part.result c.minus-rest.result c.part_of-part.ensures c.minus-rest.ensures _ c.list_part-count.ensures.1;
    }

pub returns : goal.returns
returns c =
    let s = c.args in (
      c.loop-rest.invariant.few,
      continue_end (row_of s.neighbours.now) (suc max_sets) word_bits s.rows c.loop-rest.rest (take c.loop-rest.count c.loop-rest.list) c.loop-rest.invariant.continues (omega arith),
    )
