-- `keep_rows` meets its contract. The loop's invariant: the indices written name those of the first k rows that stay. Assumes nothing.
use mathlib.Core.Path.{◌∙◌, ap}
use mathlib.Core.Bool.{not}
use native.Mathlib.Omega.{arith}
use Rattle.rows.specs.Rows.{rows_of}
use Rattle.minimum.proofs.OtherRows.{found_some}
use Rattle.minimum.proofs.Keeping.{kept_none, subsumed_left, unsubsumed_kept, kept_rows}
use Rattle.minimum.proofs.trial.Trials.keep_rows.Goals as goal
use Rattle.minimum.proofs.trial.Trials.keep_rows.Goals.{then-is_none, else-is_none}

pub loop-k-init : goal.loop-k-init
loop-k-init c =
    let t = c.args.self.now.rows in
    kept_none t.width _ t.cells.now c.args.kept.now

pub loop-k-preserved : goal.loop-k-preserved
loop-k-preserved c =
    let l = c.loop-k in
    let p = c.args.self.now.prepared in
    let tried = c.tries-pairs.ensures in
    let found = found_some (rows_of c.args.self.now.rows) l.k c.subsumer-subsumer.result c.subsumer-subsumer.ensures in
    elim c.if-is_none.branch [
      | then-is_none w ↦
          rw (w.kept-is, w.rows-is)
          (unsubsumed_kept l.invariant p.few c.loop-k-test.true tried.0 tried.1 found (omega arith) (c.is_none.ensures ∙ ap not w.if-is_none.true))
      | else-is_none w ↦
          rw (w.kept-is, w.rows-is)
          (subsumed_left l.invariant p.few c.loop-k-test.true tried.0 tried.1 found (c.is_none.ensures ∙ ap not w.if-is_none.false))
    ]

pub returns : goal.returns
returns c = kept_rows c.loop-k.invariant (omega arith)
