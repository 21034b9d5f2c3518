-- The indices of the columns passed stand in the list.
use mathlib.Core.Path.{sym, ◌∙◌, ap}
use mathlib.Core.List.{map}
use Prim.Native.Nat.{ℕ}
use native.Mathlib.Omega.{arith}
use lib.ListN.{length-map}
use lib.Seq.{ext_get_or}
use Rattle.std.proofs.lemmas.List.{get_or-map}
use Rattle.definitions.specs.Word.{id_of}
use Rattle.tables.specs.UnionIds.{smaller_than, indices_in}
use Rattle.tables.proofs.widen.column_indices.Goals as goal

pub returns : goal.returns
returns c =
    let l = c.loop-j in
    let columns = c.args.columns.now in
    let union = c.args.union.now in
    let ids = map id_of columns in
    let n = length-map columns id_of in
    let m = length-map ids (λ id. smaller_than id union) in
    let size = l.auto.indices in
    let end = c.loop-j-test.false in
    ext_get_or 0 l.indices (indices_in union ids) (omega (arith, c.requires.0)) (λ k h.
    l.invariant k (omega (arith, c.requires.0)) ∙ ap (λ (id : ℕ). smaller_than id union) (sym (get_or-map id_of columns k 0 0 (omega (arith, c.requires.0))))
    ∙ sym (get_or-map (λ id. smaller_than id union) ids k 0 0 (omega (arith, c.requires.0))))
