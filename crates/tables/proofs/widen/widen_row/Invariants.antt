-- The cells passed stand at their indices.
use Rattle.tables.proofs.Scatter.{Scattering}
use Rattle.tables.proofs.widen.widen_row.Given as goal

abbrev pub invariant-loop-j : goal.invariant-loop-j
invariant-loop-j l = Scattering l.initial.cells l.indices l.row l.j l.cells
