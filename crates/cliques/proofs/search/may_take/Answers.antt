-- `may_take` tells whether a row may be taken, by the two walks: a law for each return (Taking).
use native.Mathlib.Omega.{arith}
use Rattle.cliques.proofs.Taking.{kept_inside, told_blocked, told_walked}
use Rattle.cliques.proofs.search.may_take.Goals as goal

pub free_rows-free-requires : goal.free_rows-free-requires
free_rows-free-requires c = kept_inside c.requires c.meet.result c.meet.ensures

pub returns-then-meet-ne0 : goal.returns-then-meet-ne0
returns-then-meet-ne0 c =
    told_blocked c.requires c.free_rows-free.result c.meet.result c.meet.ensures c.free_rows-free.ensures c.meet-2.result c.meet-2.ensures
    (λ e. c.if-meet-ne0.true e)

pub returns : goal.returns
returns c =
    told_walked c.requires c.free_rows-free.result c.meet.result c.meet.ensures c.free_rows-free.ensures c.meet-2.result c.meet-2.ensures
    (omega arith) c.grows_back.result c.grows_back.ensures
