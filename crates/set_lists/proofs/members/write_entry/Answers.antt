-- `write_entry` meets its contract: the members, their number before them, and the position of the joined row behind them.
use Rattle.std.proofs.Common.{arith}
use Rattle.definitions.specs.Limits.{mark_words}
use Rattle.set_lists.proofs.Entries.{members_fit, members_small, row_room, entry_written}
use Rattle.set_lists.proofs.members.write_entry.Goals as goal

pub write_members-members-requires-clause-fits : goal.write_members-members-requires-clause-fits
write_members-members-requires-clause-fits c = members_fit mark_words c.args.set.now c.args.out.now (omega arith) c.requires

pub overflow_cast-out : goal.overflow_cast-out
overflow_cast-out c =
    omega (arith, members_small mark_words c.args.set.now c.args.out.now (omega arith) c.requires c.write_members-members.ensures)

pub bounds-out-members : goal.bounds-out-members
bounds-out-members c = row_room mark_words c.args.set.now c.args.out.now (omega arith) c.requires c.write_members-members.ensures _

pub returns : goal.returns
returns c = entry_written mark_words c.args.set.now c.args.out.now (omega arith) c.requires c.write_members-members.ensures c.low_bits.ensures
