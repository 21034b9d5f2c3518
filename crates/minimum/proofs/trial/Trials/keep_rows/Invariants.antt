-- `keep_rows` meets its contract. The loop's invariant: the indices written name those of the first k rows that stay. Assumes nothing.
use Rattle.minimum.proofs.Keeping.{KeptTo}
use Rattle.minimum.proofs.trial.Trials.keep_rows.Given as goal

abbrev pub invariant-loop-k : goal.invariant-loop-k
invariant-loop-k l = KeptTo l.self.rows.width l.self.rows.len l.self.rows.cells.now l.kept l.rows l.pairs l.k
