-- `marks_fit` meets its contract: the words that are left say of their positions what all say.
use Rattle.std.proofs.Common.{◌∙◌, ◌&&◌, ◌+◌, ◌-◌, sym, ap, ap₂, drop, arith}
use Rattle.std.proofs.lemmas.List.{drop_more, drop_all}
use Rattle.set_lists.proofs.Marks.{fits, fits_all}
use Rattle.set_lists.proofs.checks.marks_fit.Goals as goal

pub returns-then-not-is_mark_word : goal.returns-then-not-is_mark_word
unfolding fits
returns-then-not-is_mark_word c =
    let l = c.loop-w in
    let marks = c.args.marks.now in
    sym (fits_all c.args.rows marks ∙ l.invariant ∙ ap (fits l.held) (drop_more marks l.w-index 0 (omega arith))
    ∙ ap (λ b. b && fits (l.held - 30) (drop (l.w-index + 1) marks)) (sym c.is_mark_word.ensures ∙ c.if-not-is_mark_word.true))

pub loop-w-preserved : goal.loop-w-preserved
unfolding fits
loop-w-preserved c =
    let l = c.loop-w in
    let marks = c.args.marks.now in
    l.invariant ∙ ap (fits l.held) (drop_more marks l.w-index 0 (omega arith))
    ∙ ap₂ (λ b k. b && fits k (drop (l.w-index + 1) marks)) (sym c.is_mark_word.ensures ∙ c.if-not-is_mark_word.false) (sym c.saturating_sub-held.ensures)

pub returns : goal.returns
unfolding fits
returns c =
    let l = c.loop-w in
    sym (fits_all c.args.rows c.args.marks.now ∙ l.invariant ∙ ap (fits l.held) (drop_all l.w-index c.args.marks.now (omega arith)))
