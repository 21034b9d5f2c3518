-- The joined rows of the sets, ordered, are the fused table.
use mathlib.Core.Path.{◌≡◌, sym, ap, subst}
use mathlib.Core.List.{List, ◌++◌}
use Prim.Native.Nat.{ℕ, ◌≤◌}
use native.Mathlib.Omega.{arith}
use lib.ListN.{length, take, drop, length-append}
use lib.Seq.{length-take-le, take-append-le}
use Rattle.rows.specs.Indices.{Ordered}
use Rattle.fusing.specs.UnionRows.{rows_of}
use Rattle.fusing.specs.Fused.{FusedOf}
use Rattle.fusing.proofs.FusedTables.{fused_of}
use Rattle.fusing.proofs.fused.fuse_rows.Goals as goal

pub returns : goal.returns
returns c =
    let t = c.args.t.now in
    let count = length c.args.sets.now in
    let o = c.order_rows-m in
    let joined = c.join_sets.new.out in
    let behind = drop count c.args.order.now in
    let order = o.new.order ++ behind in
    let rest = drop count o.new.spare in
    let size : length (take count c.args.order.now) ≡ count = length-take-le count c.args.order.now c.requires.room_for.indices in
    let fewer : o.result ≤ length o.new.order = omega (arith, o.ensures.0, o.auto.order) in
    let ordered : Ordered t.rows.width count joined (take o.result order) =
    subst (Ordered t.rows.width count joined) (sym (take-append-le o.result o.new.order behind fewer))
    (subst (λ (n : ℕ). Ordered t.rows.width n joined (take o.result o.new.order)) size o.ensures.1) in
    subst (λ (w : ℕ). FusedOf t.column_words.now (rows_of t) w count joined order (c.find_positions.new.positions ++ rest) o.result) t.one_cell_each
    (fused_of t.column_words.now (rows_of t) t.rows.width count o.result joined order c.join_sets.ensures ordered (c.find_positions.new.positions ++ rest) rest
    (omega (arith, o.ensures.0, size)) (omega (arith, fewer, length-append o.new.order behind)) (ap (λ (p : List ℕ). p ++ rest) c.find_positions.ensures))
