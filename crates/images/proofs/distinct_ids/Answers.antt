-- The ids passed stand nowhere later, so that the test of the rest is the test of all.
use borrow.Author.Rules.{rules}
use Prim.Native.Nat.{◌-◌, ◌+◌}
use mathlib.Core.Path.{◌≡◌, sym, ◌∙◌}
use lib.Dec.{eqb}
use lib.ListN.{length, take, drop, get_or}
use Rattle.std.proofs.lemmas.List.{take_rest}
use Rattle.definitions.specs.Lists.{any}
use Rattle.definitions.specs.Word.{id_of}
use mathlib.Core.List.{map}
use Rattle.lists.proofs.Walks.{distinct_stop, distinct_go, distinct_end}
use Rattle.images.proofs.distinct_ids.Goals as goal

pub returns-then-has_id : goal.returns-then-has_id
returns-then-has_id c =
    let tail_has : any (eqb (id_of (get_or c.args.w.now c.loop-i.i 0)))
    (map id_of (drop (c.loop-i.i + 1) c.args.w.now))
    ≡ c.has_id.result = let w = c.args.w.now in
    let i = c.loop-i.i in
    let e : c.has_id.result ≡ any (eqb c.id.result) (map id_of (take (length w - (i + 1)) (drop (i + 1) w))) = c.has_id.ensures in
    sym (rw (take_rest w (i + 1), c.id.ensures) at e) in
    let l = c.loop-i in
    let a = c.args in
    sym (distinct_stop eqb id_of a.w.now l.i l.invariant (search rules) (tail_has ∙ c.if-has_id.true))

pub loop-i-preserved : goal.loop-i-preserved
loop-i-preserved c =
    let tail_has : any (eqb (id_of (get_or c.args.w.now c.loop-i.i 0)))
    (map id_of (drop (c.loop-i.i + 1) c.args.w.now))
    ≡ c.has_id.result = let w = c.args.w.now in
    let i = c.loop-i.i in
    let e : c.has_id.result ≡ any (eqb c.id.result) (map id_of (take (length w - (i + 1)) (drop (i + 1) w))) = c.has_id.ensures in
    sym (rw (take_rest w (i + 1), c.id.ensures) at e) in
    let l = c.loop-i in
    let a = c.args in
    distinct_go eqb id_of a.w.now l.i l.invariant (search rules) (tail_has ∙ c.if-has_id.false)

pub returns : goal.returns
returns c = sym (distinct_end eqb id_of c.args.w.now c.loop-i.i c.loop-i.invariant (search rules))
