-- The pages so far are written.
use Rattle.definitions.specs.Page.{page, page_count}
use Rattle.text.proofs.Writing.{Counted}
use Rattle.pages.proofs.all.put_all.Given as goal

abbrev pub invariant-loop-n : goal.invariant-loop-n
invariant-loop-n l = Counted (page l.fn.image) (page_count l.fn.image) l.initial.pages l.n l.pages
