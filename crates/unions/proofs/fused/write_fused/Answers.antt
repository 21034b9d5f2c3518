-- Each return is a case of the questions 10 and 11: a refusal with both buffers as they were, or done with the fused table and the set list.
use Rattle.std.proofs.Common.{rules}
use Rattle.unions.proofs.Fusing.{fused_writable, fused_listable, refused_fused, fused_done}
use Rattle.unions.proofs.fused.write_fused.Goals as goal

pub returns-in_err-check_room : goal.returns-in_err-check_room
returns-in_err-check_room c =
    let r = c.requires in
    refused_fused c.args.fused.now.joined r.listed r.fused_rows r.joined c.args.table.now c.args.sets.now _ c.check_room.ensures _ c.in_err-check_room.was _ (search rules)

pub write_image-filled-requires : goal.write_image-filled-requires
write_image-filled-requires c =
    let r = c.requires in
    (fused_writable c.args.fused.now.joined r.listed r.fused_rows r.joined, (c.check_room.ensures.fits _ c.in_ok-check_room.was).0)

pub write_list-requires : goal.write_list-requires
write_list-requires c =
    let r = c.requires in
    (fused_listable c.args.fused.now.joined r.listed r.fused_rows r.joined r.room, (c.check_room.ensures.fits _ c.in_ok-check_room.was).1)

pub returns : goal.returns
returns c =
    let r = c.requires in
    fused_done c.args.fused.now.joined r.listed r.fused_rows r.joined c.args.table.now c.args.sets.now _ c.check_room.ensures _ c.in_ok-check_room.was _ _ _ c.write_image-filled.ensures
    c.write_list.ensures
