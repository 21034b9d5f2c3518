-- `pattern` meets its contract. The loop's invariant: p is the pattern of the first i cells. Assumes nothing.
use mathlib.Core.Path.{◌≡◌, refl, sym, ◌∙◌, ap, subst}
use Prim.Native.Nat.{ℕ, ◌<◌, ◌^◌}
use lib.Seq.{take_all}
use native.Mathlib.Omega.{arith}
use borrow.Author.Rules.{rules}
use Rattle.definitions.specs.SetList.{bits}
use Rattle.definitions.specs.Limits.{max_columns}
use Rattle.patterns.specs.Pattern.{pattern_of}
use Rattle.patterns.proofs.Patterns.{pattern_turn, pattern_small}
use Rattle.patterns.proofs.pattern.Goals as goal

pub loop-i-init : goal.loop-i-init
unfolding pattern_of bits
loop-i-init c = refl

pub loop-i-preserved : goal.loop-i-preserved
loop-i-preserved c =
    let l = c.loop-i in
    pattern_turn c.args.row.now l.i l.p c.from.result c.requires c.loop-i-test.true l.invariant (search rules)

pub returns : goal.returns
returns c =
    let l = c.loop-i in
    let r = c.args.row.now in
    let e : l.p ≡ pattern_of r = l.invariant ∙ ap pattern_of (take_all l.i r (omega arith)) in
    (e, subst (λ (n : ℕ). n < 2 ^ max_columns) (sym e) (pattern_small r c.requires))
