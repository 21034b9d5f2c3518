-- `has_mark` meets its contract: some word has a mark.
use Rattle.std.proofs.Common.{◌∙◌, sym, not, eqb, ◌%◌, ◌^◌, rules, tests}
use Rattle.std.proofs.lemmas.Iterator.{YieldsList-from_slice}
use Rattle.std.proofs.lemmas.Iterator.Search.{any_from_yields_List}
use Rattle.set_lists.proofs.Marks.{some_words}
use Rattle.set_lists.proofs.checks.has_mark.Goals as goal

pub returns : goal.returns
returns c =
    let marks = c.args.marks.now in
    any_from_yields_List (λ w. not (eqb (w % 2 ^ 30) 0)) _ _ _ c.any.ensures.ran (YieldsList-from_slice marks cc) (λ x b q k. search (rules, tests))
    ∙ sym (some_words 0 marks)
