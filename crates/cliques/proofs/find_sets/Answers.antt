-- `find_sets` lists all maximal sets: they are found part by part, and then put in order.
use mathlib.Core.Path.{◌≡◌, refl, sym, ◌∙◌}
use Prim.Native.Nat.{◌<◌, ◌≤◌}
use native.Mathlib.Omega.{arith}
use borrow.Author.Rules.{rules}
use mathlib.Core.List.{◌++◌}
use borrow.Author.Tests.{eqb-true, eqb-false}
use lib.ListN.{length, take, drop, length-append, length-drop}
use lib.Seq.{length-take-le, take-append-le}
use Rattle.bitsets.specs.Bits.{rows_below, word_bits}
use Rattle.cliques.proofs.Complete.{none_found, all_rows, start_rows, many_found, all_found}
use Rattle.bitsets.proofs.Words.{in_word}
use Rattle.cliques.proofs.Found.{found_some, found_none}
use Rattle.cliques.proofs.find_sets.Goals as goal

pub returns-then-is_empty : goal.returns-then-is_empty
returns-then-is_empty c =
    let s = c.args in
    found_some (none_found s.neighbours.now (length s.neighbours.now) s.list.now (eqb-true (length s.neighbours.now) 0 (sym c.is_empty.ensures ∙ c.if-is_empty.true))) (omega arith)

pub list_parts-found-requires : goal.list_parts-found-requires
list_parts-found-requires c =
    let n = length c.args.neighbours.now in
    let some : 0 < n = omega (arith, eqb-false n 0 (sym c.is_empty.ensures ∙ c.if-is_empty.false)) in
    let all : c.with_row.result ≡ rows_below n = all_rows n _ c.below.result c.with_row.result some refl c.below.ensures c.with_row.ensures in
    start_rows c.args.neighbours.now n c.requires.0 word_bits c.with_row.result (in_word c.requires.1) all

pub returns-then-found-gt-MAX_SETS : goal.returns-then-found-gt-MAX_SETS
returns-then-found-gt-MAX_SETS c =
    let n = length c.args.neighbours.now in
    let some : 0 < n = omega (arith, eqb-false n 0 (sym c.is_empty.ensures ∙ c.if-is_empty.false)) in
    let all : c.with_row.result ≡ rows_below n = all_rows n _ c.below.result c.with_row.result some refl c.below.ensures c.with_row.ensures in
    let room : c.list_parts-found.result ≤ length c.list_parts-found.new.list = search rules in
    found_none (many_found c.args.neighbours.now n c.requires.0 word_bits (in_word c.requires.1) c.list_parts-found.new.list c.list_parts-found.result c.with_row.result
    some room c.list_parts-found.ensures.0 all c.list_parts-found.ensures.1 c.if-found-gt-MAX_SETS.true) c.if-found-gt-MAX_SETS.true

pub returns : goal.returns
returns c =
    let n = length c.args.neighbours.now in
    let some : 0 < n = omega (arith, eqb-false n 0 (sym c.is_empty.ensures ∙ c.if-is_empty.false)) in
    let all : c.with_row.result ≡ rows_below n = all_rows n _ c.below.result c.with_row.result some refl c.below.ensures c.with_row.ensures in
    let found = c.list_parts-found.result in
    let room : found ≤ length c.list_parts-found.new.list = search rules in
    let part : length (take found c.list_parts-found.new.list) ≡ found = length-take-le found c.list_parts-found.new.list room in
    let rest = drop found c.list_parts-found.new.list in
    let size : length (c.order_sets.new.list ++ rest) ≡ length c.list_parts-found.new.list =
    length-append c.order_sets.new.list rest ∙ omega (arith, c.order_sets.auto.list, part, length-drop found c.list_parts-found.new.list, room) in
    let few : c.order_sets.result ≤ found = omega (arith, c.order_sets.ensures.0, part) in
    found_some (all_found c.args.neighbours.now n c.requires.0 word_bits (in_word c.requires.1) c.list_parts-found.new.list found c.with_row.result some room
    c.list_parts-found.ensures.0 all c.list_parts-found.ensures.1 (omega (arith, c.if-found-gt-MAX_SETS.false)) (c.order_sets.new.list ++ rest) c.order_sets.result
    (omega (arith, room, size, few))
    (take-append-le c.order_sets.result c.order_sets.new.list rest (omega (arith, few, part, c.order_sets.auto.list)) ∙ c.order_sets.ensures.1))
    (omega (arith, few, c.if-found-gt-MAX_SETS.false))
