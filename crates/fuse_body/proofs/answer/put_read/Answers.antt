-- A ragged file, board first, or the text of the images.
use Rattle.std.proofs.Common.{◌∙◌, ap₂}
use Rattle.definitions.specs.Program.{unions_text}
use Rattle.definitions.specs.Outputs.{printed}
use Rattle.lists.proofs.Writing.{as_written}
use Rattle.fuse_body.proofs.Texts.{ragged_board, ragged_plant, whole_words, read_fits}
use Rattle.fuse_body.proofs.answer.put_read.Goals as goal

pub put_ragged-requires : goal.put_ragged-requires
put_ragged-requires c =
    let s = c.args in
    read_fits _ s.out.now _ _ _ (ragged_board s.output s.board.now s.plant.now c.if-board-ne0.true) c.requires.room

pub returns-then-board-ne0 : goal.returns-then-board-ne0
returns-then-board-ne0 c =
    let s = c.args in
    as_written (ragged_board s.output s.board.now s.plant.now c.if-board-ne0.true) c.put_ragged.ensures

pub put_ragged-requires-then-plant-ne0 : goal.put_ragged-requires-then-plant-ne0
put_ragged-requires-then-plant-ne0 c =
    let s = c.args in
    read_fits _ s.out.now _ _ _ (ragged_plant s.output s.board.now s.plant.now c.if-board-ne0.false c.if-plant-ne0.true) c.requires.room

pub returns-then-plant-ne0 : goal.returns-then-plant-ne0
returns-then-plant-ne0 c =
    let s = c.args in
    as_written (ragged_plant s.output s.board.now s.plant.now c.if-board-ne0.false c.if-plant-ne0.true)
    c.put_ragged-then-plant-ne0.ensures

pub returns : goal.returns
returns c =
    let s = c.args in
    let words = ap₂ (unions_text (printed s.output)) c.decode-a.ensures.holds c.decode-b.ensures.holds in
    as_written (words ∙ whole_words s.output s.board.now s.plant.now c.if-board-ne0.false c.if-plant-ne0.false)
    c.put_images.ensures
