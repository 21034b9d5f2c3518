-- `marks_fit` meets its contract: the words that are left say of their positions what all say.
use Rattle.std.proofs.Common.{◌≡◌, drop}
use Rattle.set_lists.proofs.Marks.{fits}
use Rattle.set_lists.proofs.checks.marks_fit.Given as goal

abbrev pub invariant-loop-w : goal.invariant-loop-w
invariant-loop-w l = fits l.rows l.marks ≡ fits l.held (drop l.w-index l.marks)
