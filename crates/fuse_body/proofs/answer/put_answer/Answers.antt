-- The line of a refusal, the listing, or the pages of the fused table.
use Rattle.std.proofs.Common.{sym}
use lib.Seq.{length-take-le}
use Rattle.lists.proofs.Writing.{as_written}
use Rattle.fuse_body.proofs.Parts.{refused_text, listed_text, listed_words, table_within, table_passes, paged_text}
use Rattle.fuse_body.proofs.Texts.{unions_fit}
use Rattle.fuse_body.proofs.answer.put_answer.Goals as goal

pub put_refused-requires : goal.put_refused-requires
put_refused-requires c =
    unions_fit _ c.args.out.now _ _ _ (refused_text c.requires.fused_answer c.args.output c.in-Err.is) c.requires.room

pub put_lines-requires : goal.put_lines-requires
put_lines-requires c =
    let is = c.in-Ok.is in
    let text = listed_text c.requires.fused_answer is c.in-Listing.is in
    record { fused_words = listed_words c.requires.fused_answer is; fits = unions_fit _ c.args.out.now _ _ _ text c.requires.room }

pub slice_bounds-put_all-end : goal.slice_bounds-put_all-end
slice_bounds-put_all-end c = sym (length-take-le _ _ (table_within c.requires.fused_answer c.in-Ok.is))

pub put_all-requires : goal.put_all-requires
put_all-requires c =
    let is = c.in-Ok.is in
    let text = paged_text c.requires.fused_answer is c.in-Pages.is in
    (table_passes c.requires.fused_answer is, unions_fit _ c.args.out.now _ _ _ text c.requires.room)

pub returns-in-Err : goal.returns-in-Err
returns-in-Err c = as_written (refused_text c.requires.fused_answer c.args.output c.in-Err.is) c.put_refused.ensures

pub returns-in-Listing : goal.returns-in-Listing
returns-in-Listing c = as_written (listed_text c.requires.fused_answer c.in-Ok.is c.in-Listing.is) c.put_lines.ensures

pub returns-in-Pages : goal.returns-in-Pages
returns-in-Pages c = as_written (paged_text c.requires.fused_answer c.in-Ok.is c.in-Pages.is) c.put_all.ensures
