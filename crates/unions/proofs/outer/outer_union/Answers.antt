-- Refused by one of the questions 1 to 8, or what the accepted pair gets.
use Rattle.std.proofs.Common.{rules}
use Rattle.definitions.specs.Calls.{outer_outcome, outer_image}
use Rattle.unions.proofs.Ends.{refused_pair}
use Rattle.unions.proofs.outer.outer_union.Goals as goal

pub returns-in_err-pair : goal.returns-in_err-pair
unfolding outer_outcome
returns-in_err-pair c =
    let s = c.args in
    refused_pair c.check_pair.result c.check_pair.ensures _ (outer_image s.a.now s.b.now) s.table.now _ c.in_err-pair.was _ _ (search rules)
