-- `order_rows` puts the indices of all rows in order (Numbered).
use Prim.Native.Nat.{◌<◌}
use native.Mathlib.Omega.{arith}
use lib.ListN.{length, take}
use Rattle.rows.proofs.Numbered.{all_fit, all_ordered}
use Rattle.rows.proofs.named.Rows.order_rows.Goals as goal

pub sort-requires : goal.sort-requires
sort-requires c =
    let t = c.args.self.now in
    let n = length c.args.order.now in (
      all_fit t.width n t.cells.now c.number.new.order c.number.auto.order c.number.ensures
          (λ i. i < t.len) (λ k h. omega (arith, h, c.requires.0)),
      omega (arith, c.number.auto.order, c.requires.2),
    )

pub returns : goal.returns
returns c =
    let t = c.args.self.now in
    let n = length c.args.order.now in (
      omega (arith, c.sort.ensures.0, c.number.auto.order),
      all_ordered t.width n t.cells.now c.number.new.order c.number.auto.order c.number.ensures (take c.sort.result c.sort.new.list) c.sort.ensures.1,
    )
