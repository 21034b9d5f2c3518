-- Maximal sets as numbers, of any set of rows, and what it means that they are put into a list.
use Rattle.std.specs.Prelude.{◌≡◌, Bool, true, List, [], ◌∷◌, ◌++◌, ℕ, ◌<◌, length}
use Rattle.definitions.specs.Statements.{Member}
use Rattle.bitsets.specs.Bits.{has, Sub}

-- no element stands in the list twice
abbrev pub Once : {A : Type 0} → List A → Type 0
Once [] = Unit {0}
Once (x ∷ rest) = (Member x rest → ⊥) × Once rest

module _ (adjacent : ℕ → ℕ → Bool) where
  -- row j complements each row of the set
  abbrev pub AdjacentToAll : ℕ → ℕ → Type 0
  AdjacentToAll set j = (k : ℕ) → has set k ≡ true → adjacent j k ≡ true

  -- every two different rows of the set complement each other
  abbrev pub Clique : ℕ → Type 0
  Clique set = (j k : ℕ) → has set j ≡ true → has set k ≡ true → (j ≡ k → ⊥) → adjacent j k ≡ true

  -- a set of rows that complement each other, all of which none of the rows complements. Of no rows it is the empty set.
  pub record Max (rows set : ℕ) : Type 0 where
    pub inside : Sub set rows
    pub clique : Clique set
    pub full : (j : ℕ) → has rows j ≡ true → AdjacentToAll set j → ⊥

-- sets with P are put after the old ones, none of them twice: all of them, if the list has fewer than `cap` sets then
pub record Adds (P : ℕ → Type 0) (cap : ℕ) (old list : List ℕ) : Type 0 where
  pub new : List ℕ
  pub adds : list ≡ old ++ new
  pub only : (x : ℕ) → Member x new → P x
  pub once : Once new
  pub all : length list < cap → (x : ℕ) → P x → Member x new
