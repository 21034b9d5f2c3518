-- What `find_sets` asks of its graph, and what it promises.
use Rattle.std.specs.Prelude.{◌≡◌, Bool, false, List, map, ℕ, suc, ◌≤◌, ◌<◌, min, length, take, get_or, Option, Some, None}
use Rattle.definitions.specs.Limits.{max_sets}
use Rattle.definitions.specs.ComplementUnion.{maximal_sets}
use Rattle.definitions.specs.SetList.{bits}
use Rattle.bitsets.specs.Bits.{has}

-- bit k of word j says that the rows j and k complement each other
abbrev pub adjacent : List ℕ → ℕ → ℕ → Bool
adjacent neighbours j k = has (get_or neighbours j 0) k

-- the first n words are such a relation of n rows; what stands past them, or in their bits from n on, is free
pub record Graph (neighbours : List ℕ) (n : ℕ) : Type 0 where
  pub rows : n ≤ length neighbours
  pub symmetric : (j k : ℕ) → j < n → k < n → adjacent neighbours j k ≡ adjacent neighbours k j
  pub apart : (j : ℕ) → j < n → adjacent neighbours j j ≡ false

-- r counts the maximal sets, up to one more than are listed; where there are no more, the list begins with them, in set order
pub record AllSets (neighbours : List ℕ) (n : ℕ) (list : List ℕ) (r : ℕ) : Type 0 where
  pub counts : r ≡ min (suc max_sets) (length (maximal_sets (adjacent neighbours) n))
  pub lists : r ≤ max_sets → take r list ≡ map bits (maximal_sets (adjacent neighbours) n)

-- what the search answers: that there are more maximal sets than are listed, or how many there are, with which the list begins, in set order
abbrev pub FoundSets : List ℕ → ℕ → List ℕ → Option ℕ → Type 0
FoundSets neighbours n list None = max_sets < length (maximal_sets (adjacent neighbours) n)
FoundSets neighbours n list (Some r) =
    (r ≤ max_sets) × (r ≡ length (maximal_sets (adjacent neighbours) n)) × (take r list ≡ map bits (maximal_sets (adjacent neighbours) n))
