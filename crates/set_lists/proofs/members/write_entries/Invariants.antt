-- `write_entries` meets its contract: the words of the records so far, and the records that are left.
use Rattle.definitions.specs.ReadBack.{read_record}
use Rattle.definitions.specs.Limits.{mark_words}
use Rattle.set_lists.proofs.Parts.{Each}
use Rattle.set_lists.proofs.members.write_entries.Given as goal

abbrev pub invariant-loop-set : goal.invariant-loop-set
invariant-loop-set l = Each (read_record mark_words) l.records l.initial.out l.set-index l.out l.count
