-- `is_record` meets its contract: each test is a part of check 13.
use Rattle.std.proofs.Common.{◌∙◌, sym, refl, arith, take}
use Rattle.definitions.specs.Limits.{mark_words}
use Rattle.definitions.proofs.Bools.{clash}
use Rattle.set_lists.proofs.Tests.{row_fails, some_fails, marks_tell}
use Rattle.set_lists.proofs.checks.is_record.Goals as goal
use Rattle.set_lists.proofs.checks.is_record.Goals.{then-is_row_word, else-is_row_word}

pub returns-then-has_mark : goal.returns-then-has_mark
returns-then-has_mark c =
    let s = c.args in
    elim c.if-is_row_word.branch [
      | then-is_row_word w ↦ c.marks_fit.ensures
          ∙ marks_tell mark_words s.rows s.set.now (take mark_words s.set.now) refl (omega arith)
          c.is_row_word.ensures w.if-is_row_word.true w.has_mark.ensures (sym w.value-is ∙ c.if-has_mark.true)
      | else-is_row_word w ↦ absurd (clash c.if-has_mark.true (w.value-is ∙ w.if-is_row_word.false))
    ]

pub returns-else-has_mark : goal.returns-else-has_mark
returns-else-has_mark c =
    let s = c.args in
    elim c.if-is_row_word.branch [
      | then-is_row_word w ↦ c.if-has_mark.false
          ∙ some_fails mark_words s.rows s.set.now (take mark_words s.set.now) refl (omega arith)
          c.is_row_word.ensures w.if-is_row_word.true w.has_mark.ensures (sym w.value-is ∙ c.if-has_mark.false)
      | else-is_row_word w ↦ c.if-has_mark.false
          ∙ row_fails mark_words s.rows s.set.now (take mark_words s.set.now) refl (omega arith) c.is_row_word.ensures w.if-is_row_word.false
    ]
