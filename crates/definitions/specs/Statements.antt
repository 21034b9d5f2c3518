-- The words in which theorems over the definitions are stated: an element is a member of a list, a list is strictly ascending, a comparison
-- is a strict total order.
use Rattle.std.specs.Prelude.{◌≡◌, ◌⊎◌, List, [], ◌∷◌}
use Rattle.std.specs.declared.cmp.Ordering.{Ordering}
use Rattle.std.specs.declared.cmp.Ordering.TheVariants.{Less, Equal, Greater}

-- a is a member of the list
abbrev pub Member : {A : Type 0} → A → List A → Type 0
Member a [] = ⊥
Member a (b ∷ rest) = (a ≡ b) ⊎ Member a rest

-- a strict total order: of two elements one comes before the other, or they are equal
pub record Orders {A : Type 0} (compare : A → A → Ordering) : Type 0 where
  pub same : (a b : A) → compare a b ≡ Equal → a ≡ b
  pub self : (a : A) → compare a a ≡ Equal
  pub flip : (a b : A) → compare a b ≡ Greater → compare b a ≡ Less
  pub trans : (a b c : A) → compare a b ≡ Less → compare b c ≡ Less → compare a c ≡ Less

module _ {A : Type 0} (compare : A → A → Ordering) where
  -- a comes before every element of the list
  abbrev pub BeforeAll : A → List A → Type 0
  BeforeAll a [] = Unit {0}
  BeforeAll a (b ∷ rest) = (compare a b ≡ Less) × BeforeAll a rest

  -- strictly ascending: each element comes before all that follow it
  abbrev pub StrictlyAscending : List A → Type 0
  StrictlyAscending [] = Unit {0}
  StrictlyAscending (a ∷ rest) = BeforeAll a rest × StrictlyAscending rest
