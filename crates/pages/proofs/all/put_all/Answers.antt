-- The pages so far are written.
use Rattle.std.proofs.Common.{rules, sym, [], append-nil, ◌<◌, arith}
use Rattle.definitions.specs.Limits.{max_stored_rows}
use Rattle.definitions.specs.Page.{page_count, all_pages}
use Rattle.definitions.proofs.Questions.{passed_is}
use Rattle.text.proofs.Writing.{counted_start, counted_turn, counted_fits, counted_end, lent_written, lent_room}
use Rattle.pages.proofs.all.put_all.Goals as goal

pub invariant_of-image : goal.invariant_of-image
invariant_of-image c = record { accepted = (passed_is max_stored_rows c.args.image.now).1 c.requires.0 }

pub loop-n-init : goal.loop-n-init
loop-n-init c = counted_start _ _ _ _ (lent_room c.new-pages.ensures.found c.new-pages.ensures.nothing c.requires.1)

pub put_page-requires-clause-room : goal.put_page-requires-clause-room
unfolding all_pages
put_page-requires-clause-room c =
    let more : c.loop-n.n < page_count c.args.image.now = omega (arith, c.count_pages-n-end.ensures) in
    counted_fits c.loop-n.invariant more [] (sym (append-nil _)) (lent_room c.new-pages.ensures.found c.new-pages.ensures.nothing c.requires.1)

pub loop-n-preserved : goal.loop-n-preserved
loop-n-preserved c = counted_turn c.loop-n.invariant (omega (arith, c.count_pages-n-end.ensures)) c.put_page.ensures

pub returns : goal.returns
unfolding all_pages
returns c =
    let pages = counted_end c.loop-n.invariant (omega (arith, c.count_pages-n-end.ensures)) in
    let same = pages.same in
    lent_written c.new-pages.ensures.found c.new-pages.ensures.nothing pages (search rules) c.length.ensures
