-- `count_entry` meets its contract: the number of members and the position of the joined row beside the members.
use Rattle.std.proofs.Common.{arith}
use Rattle.definitions.specs.Limits.{mark_words}
use Rattle.set_lists.proofs.Entries.{entry_count}
use Rattle.set_lists.proofs.members.count_entry.Goals as goal

pub returns : goal.returns
returns c = entry_count mark_words c.args.set.now (omega arith) c.count_members.ensures
