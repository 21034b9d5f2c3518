-- The ids of the band, and line after line.
use Rattle.std.proofs.Common.{refl, sym, [], append-nil, arith}
use Rattle.definitions.specs.Page.{band_page}
use Rattle.text.proofs.Writing.{wrote_as, then_wrote, room_as, first_fits, behind_fits, counted_start, counted_turn, counted_fits, counted_end}
use Rattle.pages.proofs.Bands.{ids_shown}
use Rattle.pages.proofs.layout.Band.put_part.Goals as goal

pub id_line-requires-clause-room : goal.id_line-requires-clause-room
unfolding band_page
id_line-requires-clause-room c =
    room_as (sym (ids_shown c.args.self.now.image.words.now c.args.self.now.number _ _ c.in_band.ensures c.column_words.ensures.words))
    (first_fits _ refl c.requires.room)

pub loop-i-init : goal.loop-i-init
unfolding band_page
loop-i-init c =
    let ids = ids_shown c.args.self.now.image.words.now c.args.self.now.number _ _ c.in_band.ensures c.column_words.ensures.words in
    counted_start _ _ _ _ (behind_fits refl c.requires.room (wrote_as ids c.id_line.ensures))

pub put_line-requires : goal.put_line-requires
unfolding band_page
put_line-requires c =
    let ids = ids_shown c.args.self.now.image.words.now c.args.self.now.number _ _ c.in_band.ensures c.column_words.ensures.words in
    counted_fits c.loop-i.invariant (omega arith) [] (sym (append-nil _)) (behind_fits refl c.requires.room (wrote_as ids c.id_line.ensures))

pub loop-i-preserved : goal.loop-i-preserved
loop-i-preserved c = counted_turn c.loop-i.invariant (omega arith) c.put_line.ensures

pub returns : goal.returns
unfolding band_page
returns c =
    let ids = ids_shown c.args.self.now.image.words.now c.args.self.now.number _ _ c.in_band.ensures c.column_words.ensures.words in
    then_wrote (wrote_as ids c.id_line.ensures) (counted_end c.loop-i.invariant (omega arith))
