-- The lines of the words that the call left are this section of the listing.
use Rattle.std.proofs.Common.{sym}
use Rattle.text.proofs.Writing.{wrote_as, room_as}
use Rattle.fuse_body.proofs.Parts.{table_as, minimum_words_lem, not_refused_minimum}
use Rattle.fuse_body.proofs.sections.put_minimum.Goals as goal

pub first_rows-rows-requires : goal.first_rows-rows-requires
first_rows-rows-requires c = (minimum_words_lem c.args.a.now c.args.b.now _ _ c.minimum_union.ensures c.in-Ok.is).within

pub table_lines-requires : goal.table_lines-requires
table_lines-requires c =
    let words = minimum_words_lem c.args.a.now c.args.b.now _ _ c.minimum_union.ensures c.in-Ok.is in
    room_as (sym (table_as _ c.first_rows-rows.ensures.first words.text)) c.requires.room

pub returns-in_default : goal.returns-in_default
returns-in_default c =
    not_refused_minimum c.args.a.now c.args.b.now c.requires.is_done _ c.requires.table_words c.minimum_union.ensures c.in_default.is

pub returns : goal.returns
returns c =
    let words = minimum_words_lem c.args.a.now c.args.b.now _ _ c.minimum_union.ensures c.in-Ok.is in
    wrote_as (table_as _ c.first_rows-rows.ensures.first words.text) c.table_lines.ensures
