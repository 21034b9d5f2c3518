-- The bytes of a line that no field holds.
use Rattle.std.specs.Prelude.{ℕ, List, ◌∷◌, map}
use mathlib.Core.List.{flatten}

-- the bytes between two fields, and at the end of a line
abbrev pub space : ℕ
space = 32

abbrev pub newline : ℕ
newline = 10

-- for each of some values a space, and then how it is shown
abbrev pub spaced : {A : Type 0} → (A → List ℕ) → List A → List ℕ
spaced shown values = flatten (map (λ v. space ∷ shown v) values)
