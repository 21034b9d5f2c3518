-- The lines of the words that the call left are this section of the listing.
use Rattle.std.proofs.Common.{sym}
use Rattle.text.proofs.Writing.{wrote_as, room_as}
use Rattle.fuse_body.proofs.Parts.{union_words, union_lent, not_refused_outer}
use Rattle.fuse_body.proofs.sections.put_union.Goals as goal

pub first_rows-rows-requires : goal.first_rows-rows-requires
first_rows-rows-requires c = (union_words c.args.a.now c.args.b.now _ _ c.outer_union.ensures c.in-Ok.is).within

pub union_lines-requires : goal.union_lines-requires
union_lines-requires c =
    let words = union_words c.args.a.now c.args.b.now _ _ c.outer_union.ensures c.in-Ok.is in
    let rows = c.first_rows-rows.ensures in
    room_as (sym (union_lent _ _ _ words rows.columns rows.first)) c.requires.room

pub returns-in_default : goal.returns-in_default
returns-in_default c =
    not_refused_outer c.args.a.now c.args.b.now c.requires.is_done _ c.requires.table_words c.outer_union.ensures c.in_default.is

pub returns : goal.returns
returns c =
    let words = union_words c.args.a.now c.args.b.now _ _ c.outer_union.ensures c.in-Ok.is in
    let rows = c.first_rows-rows.ensures in
    wrote_as (union_lent _ _ _ words rows.columns rows.first) c.union_lines.ensures
