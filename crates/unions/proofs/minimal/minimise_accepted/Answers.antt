-- The rows of T that none subsumes are the minimum union: question 10 is put to its image.
use Rattle.std.proofs.Common.{rules}
use mathlib.Core.Path.{refl, ◌∙◌, ap}
use mathlib.Core.List.{[], ◌∷◌}
use Prim.Native.Nat.{ℕ}
use native.Mathlib.Omega.{arith}
use Rattle.definitions.specs.MinimumUnion.{pairs_tried}
use Rattle.definitions.specs.Calls.{minimum_image, minimum_outcome}
use Rattle.unions.proofs.Tables.{rows_are, minimum_named}
use Rattle.unions.proofs.Ends.{refused_room, done_room}
use Rattle.unions.proofs.minimal.minimise_accepted.Goals as goal

pub put_image-requires : goal.put_image-requires
put_image-requires c =
    let k = c.minimum_rows-left in
    let rows = minimum_named c.args.pair.now.found c.new-t.ensures c.union_rows.ensures refl refl c.column_words.ensures c.as_rows-rows.ensures k.new.kept _ _
    (omega (arith, k.auto.kept)) k.ensures in
    rows.can

pub returns-in_err-put : goal.returns-in_err-put
unfolding minimum_outcome minimum_image
returns-in_err-put c =
    let k = c.minimum_rows-left in
    let rows = minimum_named c.args.pair.now.found c.new-t.ensures c.union_rows.ensures refl refl c.column_words.ensures c.as_rows-rows.ensures k.new.kept _ _
    (omega (arith, k.auto.kept)) k.ensures in
    refused_room c.args.pair.now.found rows c.put_image.ensures _ _ c.in_err-put.was _ _ (search rules)

pub returns : goal.returns
unfolding minimum_outcome minimum_image
returns c =
    let k = c.minimum_rows-left in
    let rows = minimum_named c.args.pair.now.found c.new-t.ensures c.union_rows.ensures refl refl c.column_words.ensures c.as_rows-rows.ensures k.new.kept _ _
    (omega (arith, k.auto.kept)) k.ensures in
    let p = k.ensures.tried ∙ ap pairs_tried (rows_are c.args.pair.now.found c.new-t.ensures c.union_rows.ensures refl refl c.column_words.ensures c.as_rows-rows.ensures) in
    done_room c.args.pair.now.found rows c.put_image.ensures _ _ c.in_ok-put.was _ (ap (λ (x : ℕ). x ∷ []) p)
