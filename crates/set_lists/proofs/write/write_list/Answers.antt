-- `write_list` meets its contract: the header and the records of the sets so far are written.
use Rattle.std.proofs.Common.{◌∙◌, arith}
use Rattle.std.proofs.lemmas.List.{length_push}
use Rattle.std.proofs.lemmas.Slice.Zip.{zip_turn, zip_end}
use Rattle.definitions.specs.Limits.{mark_words, set_width}
use Rattle.definitions.proofs.Counts.{record_length}
use Rattle.set_lists.proofs.Parts.{copied_over}
use Rattle.set_lists.proofs.Records.{list_start, record_room, record_turn, list_end}
use Rattle.set_lists.proofs.write.write_list.Goals as goal

pub loop-set-init : goal.loop-set-init
loop-set-init c = ((tt, tt), tt, list_start c.args.sets.now c.args.positions.now c.args.buffer.now c.requires.0 c.requires.1 c.header_word.ensures)

pub loop-set-preserved : goal.loop-set-preserved
loop-set-preserved c =
    let s = c.args in
    let l = c.loop-set in
    let t = zip_turn s.sets.now s.positions.now l.yielded _ _ c.next.new.self _ (cc) (cc) l.yielded_by _ c.in-Some.is c.next.ensures.steps in
    let w = l.invariant.2 in
    let set = c.in-Some.set.now in
    let position = c.in-Some.position.now in
    let room = record_room s.sets.now s.positions.now s.buffer.now c.requires.0 c.requires.1 w t.0 set position (t.2 0) (t.3 0) in
    let written = copied_over l.buffer l.at set_width room (record_length mark_words set position) (c.copy_from_slice.ensures.after ∙ c.record_of.ensures) in (
      (tt, tt),
      tt,
      record_turn s.sets.now s.positions.now s.buffer.now c.requires.0 c.requires.1 w t.0 set position (t.2 0) (t.3 0)
          (length_push l.yielded (c.in-Some.set, c.in-Some.position)) written,
    )

pub returns : goal.returns
returns c =
    let s = c.args in
    let l = c.loop-set in
    let count = zip_end s.sets.now s.positions.now l.yielded _ _ c.next.new.self _ (cc) (cc) l.yielded_by c.in-None.is c.next.ensures.steps in
    list_end s.sets.now s.positions.now s.buffer.now c.requires.0 c.requires.1 l.invariant.2 (omega (arith, count, c.requires.0.paired))
