-- Each return is a way out.
use Rattle.std.proofs.Common.{arith}
use Rattle.pages.proofs.Pages.{no-page, no_room, a_page}
use Rattle.pages.proofs.call.check_page.Goals as goal

pub returns-then-pages-n : goal.returns-then-pages-n
returns-then-pages-n c =
    let s = c.args in
    no-page s.image.words.now s.n s.room _ c.from.ensures (omega (arith, c.count_pages-pages.ensures))

pub returns-then-room-lt-PAGE_BYTES : goal.returns-then-room-lt-PAGE_BYTES
returns-then-room-lt-PAGE_BYTES c =
    let s = c.args in
    no_room s.image.words.now s.n s.room (omega (arith, c.count_pages-pages.ensures)) _ c.from-then-room-lt-PAGE_BYTES.ensures (omega arith)

pub returns : goal.returns
returns c =
    let s = c.args in
    a_page s.image.words.now s.n s.room (omega (arith, c.count_pages-pages.ensures)) _ c.count_pages-pages.ensures (omega arith)
