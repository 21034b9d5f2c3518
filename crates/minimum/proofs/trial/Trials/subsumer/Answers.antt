-- `subsumer` meets its contract. The invariants: of the candidates, all that subsume row k are left; row j covers row k as it does from column c on.
-- Assumes nothing.
use mathlib.Core.Path.{refl, ap}
use native.Mathlib.Omega.{arith}
use lib.ListN.{length}
use Rattle.minimum.proofs.Trying.{own_short, left_all, next_within, as_long, some_column, column_covered, left_next, found_lowest, found_none}
use Rattle.minimum.proofs.trial.Trials.subsumer.Goals as goal
use Rattle.minimum.proofs.trial.Trials.subsumer.Goals.{else-loop-c-test, then-loop-c-test+then-not-covered}

pub for_row-rest-requires : goal.for_row-rest-requires
for_row-rest-requires c = omega (arith, ap length c.row-row.ensures.listed, own_short c.args.self.now c.args.k c.requires)

pub rows-init : goal.rows-init
rows-init c = left_all c.args.self.now c.args.k c.requires c.for_row-rest.result (rw c.row-row.ensures.listed at c.for_row-rest.ensures)

pub row-other-requires : goal.row-other-requires
row-other-requires c = next_within c.args.self.now c.args.k c.requires c.rows.invariant c.if-rest-eq0.false c.rows.auto.rest-fits

pub loop-c-init : goal.loop-c-init
loop-c-init c =
    let some = some_column c.args.self.now c.args.k c.requires c.rows.invariant c.if-rest-eq0.false c.rows.auto.rest-fits in
    (omega (arith, ap length c.row-row.ensures.listed), refl)

pub bounds-other-c : goal.bounds-other-c
bounds-other-c c =
    let same = as_long c.args.self.now c.args.k c.requires c.rows.invariant c.if-rest-eq0.false c.rows.auto.rest-fits in
    omega (arith, ap length c.row-row.ensures.listed, ap length c.row-other.ensures.listed)

pub loop-c-preserved : goal.loop-c-preserved
loop-c-preserved c = (
  omega arith,
  column_covered c.args.self.now c.args.k c.requires c.rows.invariant c.if-rest-eq0.false c.rows.auto.rest-fits
      c.loop-c.c c.row-row.ensures.listed c.row-other.ensures.listed c.loop-c.invariant.0 c.loop-c.invariant.1 c.covered.ensures c.if-not-covered.false,
)

pub rows-preserved : goal.rows-preserved
rows-preserved c =
    elim c.loop-c-test.branch [
      | else-loop-c-test w ↦ absurd (omega (arith, w.loop-c-test.false, c.loop-c.invariant.0))
      | then-loop-c-test+then-not-covered w ↦
          left_next c.args.self.now c.args.k c.requires c.rows.invariant c.if-rest-eq0.false c.rows.auto.rest-fits
          c.loop-c.c c.row-row.ensures.listed c.row-other.ensures.listed c.loop-c.invariant.0 c.loop-c.invariant.1 w.covered.ensures w.if-not-covered.true
    ]

pub returns-then-rest-eq0 : goal.returns-then-rest-eq0
returns-then-rest-eq0 c = found_none c.args.self.now c.args.k c.requires c.rows.rest c.rows.invariant c.if-rest-eq0.true

pub returns-then-c-row : goal.returns-then-c-row
returns-then-c-row c =
    found_lowest c.args.self.now c.args.k c.requires c.rows.invariant c.if-rest-eq0.false c.rows.auto.rest-fits
    c.loop-c.c c.row-row.ensures.listed c.row-other.ensures.listed c.loop-c.invariant.0 c.loop-c.invariant.1 c.covered.ensures c.if-not-covered.false c.if-c-row.true
