-- The widened rows of both images, ordered by their indices, are T: question 10 is put to its image.
use Rattle.std.proofs.Common.{rules}
use mathlib.Core.Path.{refl}
use mathlib.Core.List.{[]}
use native.Mathlib.Omega.{arith}
use Rattle.definitions.specs.Calls.{outer_image, outer_outcome}
use Rattle.unions.proofs.Tables.{outer_named}
use Rattle.unions.proofs.Ends.{refused_room, done_room}
use Rattle.unions.proofs.outer.unite_accepted.Goals as goal

pub put_image-requires : goal.put_image-requires
put_image-requires c =
    let o = c.order_rows-count in
    let rows = outer_named c.args.pair.now.found c.new-t.ensures c.widen_both.ensures refl refl c.column_words.ensures c.as_rows-rows.ensures _ o.new.order o.result
    (omega arith) o.auto.order o.ensures in
    rows.can

pub returns-in_err-put : goal.returns-in_err-put
unfolding outer_outcome outer_image
returns-in_err-put c =
    let o = c.order_rows-count in
    let rows = outer_named c.args.pair.now.found c.new-t.ensures c.widen_both.ensures refl refl c.column_words.ensures c.as_rows-rows.ensures _ o.new.order o.result
    (omega arith) o.auto.order o.ensures in
    refused_room c.args.pair.now.found rows c.put_image.ensures [] _ c.in_err-put.was _ _ (search rules)

pub returns : goal.returns
unfolding outer_outcome outer_image
returns c =
    let o = c.order_rows-count in
    let rows = outer_named c.args.pair.now.found c.new-t.ensures c.widen_both.ensures refl refl c.column_words.ensures c.as_rows-rows.ensures _ o.new.order o.result
    (omega arith) o.auto.order o.ensures in
    done_room c.args.pair.now.found rows c.put_image.ensures [] _ c.in_ok-put.was [] refl
