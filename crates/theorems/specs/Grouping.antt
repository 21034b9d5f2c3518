-- Three tables whose complement unions depend on the grouping.
use Rattle.std.specs.Prelude.{List, ℕ}
use Rattle.definitions.specs.Promise.{CallsNotAssociative}

-- there are three tables whose complement unions in either grouping are done, and wrote other words
abbrev pub ComplementDependsOnGrouping : Type 0
ComplementDependsOnGrouping = (x : List ℕ) × (y : List ℕ) × (z : List ℕ) × CallsNotAssociative x y z
