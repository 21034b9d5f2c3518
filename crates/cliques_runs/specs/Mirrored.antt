-- A row of a graph: what it says of the others they say of it, and it does not complement itself.
use Rattle.std.specs.Prelude.{◌≡◌, false, List, ℕ, ◌<◌}
use Rattle.cliques.specs.Graph.{adjacent}

pub record Mirrored (neighbours : List ℕ) (n j : ℕ) : Type 0 where
  pub symmetric : (k : ℕ) → k < n → adjacent neighbours j k ≡ adjacent neighbours k j
  pub apart : adjacent neighbours j j ≡ false
