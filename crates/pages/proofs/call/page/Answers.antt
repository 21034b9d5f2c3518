-- A refusal changes nothing, and a page that exists is written.
use Rattle.std.proofs.Common.{rules, refl}
use Rattle.text.proofs.Writing.{lent_written, lent_room}
use Rattle.pages.proofs.Pages.{image_refused, page_refused, asked_for, page_written}
use Rattle.pages.proofs.call.page.Goals as goal

pub returns-in_err-image : goal.returns-in_err-image
returns-in_err-image c =
    image_refused c.args.image.now c.args.page c.args.bytes.now c.accept.result c.accept.ensures.says _ _ c.in_err-image.was (search rules)

pub returns-in_err-pages : goal.returns-in_err-pages
returns-in_err-pages c =
    let a = c.args in
    let stored = c.accept in
    let image = c.in_ok-image in
    page_refused a.image.now a.page a.bytes.now stored.result stored.ensures.says image.image image.was _ (stored.ensures.lends _ image.was)
    c.check_page.result c.check_page.ensures _ _ c.in_err-pages.was (search rules)

pub put_page-requires-clause-room : goal.put_page-requires-clause-room
put_page-requires-clause-room c =
    let a = c.args in
    let stored = c.accept in
    let image = c.in_ok-image in
    let asked = asked_for a.image.now a.page a.bytes.now stored.result stored.ensures.says image.image image.was _ (stored.ensures.lends _ image.was)
    c.check_page.result c.check_page.ensures _ c.in_ok-pages.was in
    lent_room c.new.ensures.found c.new.ensures.nothing asked.1

pub returns : goal.returns
returns c =
    let a = c.args in
    let stored = c.accept in
    let image = c.in_ok-image in
    let same = c.put_page.ensures.same in
    page_written a.image.now a.page a.bytes.now stored.result stored.ensures.says image.image image.was _ (stored.ensures.lends _ image.was)
    c.check_page.result c.check_page.ensures _ c.in_ok-pages.was
    (lent_written c.new.ensures.found c.new.ensures.nothing c.put_page.ensures (search rules) refl)
