-- Each return is a case of the questions 1 to 8.
use Rattle.std.proofs.Common.{rules, refl}
use Rattle.unions.proofs.Pairs.{no_first, no_second, no_columns, yes}
use Rattle.unions.proofs.questions.check_pair.Goals as goal

pub returns-in_err-first : goal.returns-in_err-first
returns-in_err-first c =
    let s = c.args in
    no_first s.a.now s.b.now _ c.accept.result c.accept.ensures.says _ _ c.in_err-first.was (search rules)

pub returns-in_err-second : goal.returns-in_err-second
returns-in_err-second c =
    let s = c.args in
    no_second s.a.now s.b.now _ _ c.accept.ensures.says _ c.in_ok-first.was c.accept-2.ensures.says _ _ c.in_err-second.was (search rules)

pub returns-then-columns-gt-MAX_COLUMNS : goal.returns-then-columns-gt-MAX_COLUMNS
returns-then-columns-gt-MAX_COLUMNS c =
    let s = c.args in
    no_columns s.a.now s.b.now _ _ c.accept.ensures.says _ c.in_ok-first.was c.accept-2.ensures.says _ c.in_ok-second.was
    c.both_ids-columns.new.all c.both_ids-columns.result (search rules) c.both_ids-columns.ensures.0
    (c.accept.ensures.lends _ c.in_ok-first.was) (c.accept-2.ensures.lends _ c.in_ok-second.was) _ c.from.result c.from.ensures
    c.if-columns-gt-MAX_COLUMNS.true refl

pub returns : goal.returns
returns c = yes _ _ refl (c.accept.ensures.lends _ c.in_ok-first.was) (c.accept-2.ensures.lends _ c.in_ok-second.was)
