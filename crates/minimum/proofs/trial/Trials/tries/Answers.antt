-- `tries` meets its contract: a return for a subsumer before row k, for one after it, and for none. Assumes nothing.
use mathlib.Core.Path.{◌≡◌, subst}
use native.Mathlib.Omega.{arith}
use Rattle.rows.specs.Rows.{rows_of}
use Rattle.minimum.specs.Trying.{FirstSubsumer}
use Rattle.minimum.proofs.OtherRows.{tries_none, tries_before, tries_after}
use Rattle.minimum.proofs.Trying.{rows_many}
use Rattle.minimum.proofs.trial.Trials.tries.Goals as goal

pub returns-in-Some : goal.returns-in-Some
returns-in-Some c =
    let t = c.args.self.now in
    let many = rows_many t in
    let p = subst (FirstSubsumer (rows_of t.rows) c.args.k) c.in-Some.is c.requires.1 in
    (tries_before (rows_of t.rows) c.args.k (omega (arith, c.requires.0)) c.in-Some.j p c.if-j-k.true, omega (arith, p.0))

pub returns-in-Some-2 : goal.returns-in-Some-2
returns-in-Some-2 c =
    let t = c.args.self.now in
    let many = rows_many t in
    let p = subst (FirstSubsumer (rows_of t.rows) c.args.k) c.in-Some-2.is c.requires.1 in
    let same : c.in-Some.j ≡ c.in-Some-2.j = cc in
    (tries_after (rows_of t.rows) c.args.k (omega (arith, c.requires.0)) c.in-Some-2.j p (omega arith), omega (arith, p.0))

pub returns-in-None : goal.returns-in-None
returns-in-None c =
    let t = c.args.self.now in
    let many = rows_many t in
    let p = subst (FirstSubsumer (rows_of t.rows) c.args.k) c.in-None.is c.requires.1 in
    (rw many at (tries_none (rows_of t.rows) c.args.k (omega (arith, c.requires.0)) p), omega arith)
