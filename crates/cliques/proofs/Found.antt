-- From a count that goes one past those that are listed to what `find_sets` answers. Assumes nothing.
use mathlib.Core.List.{List}
use Prim.Native.Nat.{ℕ, ◌≤◌, ◌<◌}
use native.Mathlib.Omega.{arith}
use Rattle.std.specs.Prelude.{Some, None}
use Rattle.definitions.specs.Limits.{max_sets}
use Rattle.cliques.specs.Graph.{AllSets, FoundSets}

module _ {neighbours : List ℕ} {n : ℕ} {list : List ℕ} where
  pub found_some : {r : ℕ} → AllSets neighbours n list r → r ≤ max_sets → FoundSets neighbours n list (Some r)
  found_some a few = (few, omega (arith, a.counts), a.lists few)

  pub found_none : {r : ℕ} → AllSets neighbours n list r → max_sets < r → FoundSets neighbours n list None
  found_none a many = omega (arith, a.counts)
