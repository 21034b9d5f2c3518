-- The four sections, one after the other.
use Rattle.std.proofs.Common.{refl, sym, ◌++◌, arith}
use Rattle.definitions.specs.Program.{sets_text, fused_text}
use Rattle.text.proofs.Writing.{wrote_as, then_wrote, room_as, first_fits, behind_fits}
use Rattle.fuse_body.proofs.Parts.{table_as, sets_as, listing_parts}
use Rattle.fuse_body.proofs.sections.put_listing.Goals as goal

pub put_union-requires : goal.put_union-requires
put_union-requires c =
    record { is_done = c.requires.fused_words.is_done; table_words = omega arith; room = first_fits _ (listing_parts _ _) c.requires.room }

pub put_minimum-requires : goal.put_minimum-requires
put_minimum-requires c =
    let rest = behind_fits (listing_parts _ _) c.requires.room c.put_union.ensures in
    record {
      is_done = c.requires.fused_words.is_done;
      table_words = omega arith;
      room = first_fits (sets_text c.args.a.now c.args.b.now ++ fused_text c.args.a.now c.args.b.now) refl rest;
    }

pub sets_lines-requires : goal.sets_lines-requires
sets_lines-requires c =
    let words = c.requires.fused_words in
    let rest = behind_fits refl (behind_fits (listing_parts _ _) c.requires.room c.put_union.ensures) c.put_minimum.ensures in
    let text = sets_as _ _ words.list_within _ c.as_chunks.ensures.front words.list_text in
    room_as (sym text) (first_fits (fused_text c.args.a.now c.args.b.now) refl rest)

pub table_lines-requires : goal.table_lines-requires
table_lines-requires c =
    let words = c.requires.fused_words in
    let rest = behind_fits refl (behind_fits (listing_parts _ _) c.requires.room c.put_union.ensures) c.put_minimum.ensures in
    let text = sets_as _ _ words.list_within _ c.as_chunks.ensures.front words.list_text in
    room_as (sym (table_as _ c.first_rows-rows.ensures.first words.table_text)) (behind_fits refl rest (wrote_as text c.sets_lines.ensures))

pub returns : goal.returns
returns c =
    let words = c.requires.fused_words in
    let text = sets_as _ _ words.list_within _ c.as_chunks.ensures.front words.list_text in
    wrote_as (sym (listing_parts _ _))
    (then_wrote c.put_union.ensures (then_wrote c.put_minimum.ensures
    (then_wrote (wrote_as text c.sets_lines.ensures)
    (wrote_as (table_as _ c.first_rows-rows.ensures.first words.table_text) c.table_lines.ensures))))
