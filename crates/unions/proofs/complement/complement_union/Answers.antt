-- Refused by one of the questions 1 to 8, or what the accepted pair gets.
use Rattle.std.proofs.Common.{rules}
use Rattle.unions.proofs.Fusing.{refused_complement}
use Rattle.unions.proofs.complement.complement_union.Goals as goal

pub returns-in_err-pair : goal.returns-in_err-pair
returns-in_err-pair c =
    let s = c.args in
    refused_complement s.a.now s.b.now s.table.now s.sets.now c.check_pair.result c.check_pair.ensures _ c.in_err-pair.was _ (search rules)
