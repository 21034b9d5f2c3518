-- `record_of` meets its contract: three mark words and the row word.
use Rattle.std.proofs.Common.{rules}
use Rattle.set_lists.proofs.Records.{record_words}
use Rattle.set_lists.proofs.write.record_of.Goals as goal

pub returns : goal.returns
returns c = search (rules, record_words)
