-- `check_list` meets its contract: each return is a case of the number.
use Rattle.std.proofs.Common.{◌≡◌, ◌∙◌, ap, true, Err, rules}
use Rattle.std.specs.Option.{ok_or}
use Rattle.std.proofs.lemmas.Option.{MatchOption-at_some, MatchOption-at_none}
use Rattle.definitions.specs.Limits.{mark_words}
use Rattle.definitions.specs.Reading.{records_in}
use Rattle.definitions.specs.ReadBack.{is_set_list}
use Rattle.definitions.specs.declared.refusal.Question.TheVariants as question
use Rattle.set_lists.proofs.Ends.{fails_12, fails_13, fails_14, passes}
use Rattle.set_lists.proofs.read.check_list.Goals as goal
use Rattle.set_lists.proofs.read.check_list.Goals.{In_ok-records}

-- the records are those of the list
known : (c : In_ok-records) → (is_set_list mark_words c.args.rows c.args.list.now ≡ true) × (c.in_ok-records.records.now ≡ records_in mark_words c.args.list.now)
known c = MatchOption-at_some _ _ c.in_ok-records.records c.in_ok-records.ensures.ok_part c.records_in.ensures

pub returns-in_err-records : goal.returns-in_err-records
returns-in_err-records c =
    let none = c.in_err-records.ensures.ok_part in
    let value = c.ok_or.ensures.value ∙ ap (λ o. ok_or o question.ListLayout) none in
    let answer : c.from_residual.result ≡ Err question.ListLayout = search rules in
    rw answer (record { number = fails_12 c.args.rows c.args.list.now (MatchOption-at_none _ _ none c.records_in.ensures); records = tt })

pub returns-then-not-all_records : goal.returns-then-not-all_records
returns-then-not-all_records c =
    let k = known (goal.at.returns-then-not-all_records c).In_ok-records in
    record { number = fails_13 c.args.rows c.args.list.now k.0 k.1 c.all_records.ensures c.if-not-all_records.true; records = tt }

pub returns-then-not-in_order : goal.returns-then-not-in_order
returns-then-not-in_order c =
    let k = known (goal.at.returns-then-not-in_order c).In_ok-records in
    record {
      number = fails_14 c.args.rows c.args.list.now k.0 k.1 c.all_records.ensures c.if-not-all_records.false
          c.in_order.ensures c.if-not-in_order.true;
      records = tt;
    }

pub returns : goal.returns
returns c =
    let k = known (goal.at.returns c).In_ok-records in
    record {
      number = passes c.args.rows c.args.list.now k.0 k.1 c.all_records.ensures c.if-not-all_records.false
          c.in_order.ensures c.if-not-in_order.false;
      records = k.1;
    }
