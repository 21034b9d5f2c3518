-- `write_entries` meets its contract: the words of the records so far, and the records that are left.
use Rattle.std.proofs.Common.{rules, arith}
use Rattle.set_lists.proofs.Parts.{each_fits, each_turn, each_end}
use Rattle.set_lists.proofs.members.write_entries.Goals as goal

pub write_entry-count-requires : goal.write_entry-count-requires
write_entry-count-requires c = each_fits c.loop-set.invariant (omega arith) _ (search rules)

pub loop-set-preserved : goal.loop-set-preserved
loop-set-preserved c = each_turn c.loop-set.invariant (omega arith) _ (search rules) c.write_entry-count.ensures

pub returns : goal.returns
returns c = each_end c.loop-set.invariant (omega arith)
