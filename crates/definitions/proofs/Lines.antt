-- Laws of lines: what follows the first field, and how long lines are. Assumes nothing.
use mathlib.Core.Path.{◌≡◌, refl, ap}
use mathlib.Core.Logic.{inl, inr}
use mathlib.Core.List.{List, [], ◌∷◌, ◌++◌, map, flatten}
use Prim.Native.Nat.{ℕ, suc, ◌+◌, ◌*◌, ◌^◌, ◌≤◌, ◌<◌}
use native.Mathlib.Nat.{suc-mul, zero-mul}
use native.Mathlib.Omega.{arith}
use lib.ListN.{length, length-append, length-map}
use Rattle.definitions.specs.Text.{ascii, decimal, cell_text}
use Rattle.definitions.specs.Listing.{line, title_line, row_line, set_line, refused_line}
use Rattle.definitions.specs.Statements.{Member}
use Rattle.definitions.proofs.Lists.{map-member}
use Rattle.definitions.proofs.Digits.{decimal-length}
use Rattle.definitions.proofs.Cells.{cell_length}

-- what follows the first field of a line: the other fields, a space before each, and byte 10
abbrev pub later : List (List ℕ) → List ℕ
later [] = 10 ∷ []
later (f ∷ fields) = 32 ∷ (f ++ later fields)

pub line_first : (f : List ℕ) (fields : List (List ℕ)) → line (f ∷ fields) ≡ f ++ later fields
unfolding line
line_first f [] = refl
line_first f (g ∷ fields) = ap (λ (r : List ℕ). f ++ (32 ∷ r)) (line_first g fields)

-- every list is at most so long
abbrev pub AtMost : ℕ → List (List ℕ) → Type 0
AtMost most l = (f : List ℕ) → Member f l → length f ≤ most

pub at_most_map : {A : Type 0} (most : ℕ) (f : A → List ℕ) (l : List A) → ((x : A) → Member x l → length (f x) ≤ most)
    → AtMost most (map f l)
at_most_map most f l h g s =
    let i = map-member f g l s in
    omega (arith, ap length i.2, h i.0 i.1)

pub flatten_bound : (most : ℕ) (l : List (List ℕ)) → AtMost most l → length (flatten l) ≤ length l * most
unfolding flatten
flatten_bound most [] h = omega (arith, zero-mul most)
flatten_bound most (f ∷ l) h =
    omega (
      arith,
      length-append f (flatten l),
      suc-mul (length l) most,
      h f (inl refl),
      flatten_bound most l (λ g s. h g (inr s)),
    )

later_bound : (most : ℕ) (fields : List (List ℕ)) → AtMost most fields → length (later fields) ≤ 1 + length fields * suc most
later_bound most [] h = omega (arith, zero-mul (suc most))
later_bound most (f ∷ fields) h =
    omega (
      arith,
      length-append f (later fields),
      suc-mul (length fields) (suc most),
      h f (inl refl),
      later_bound most fields (λ g s. h g (inr s)),
    )

-- numbers of at most five digits
pub title_bound : (title numbers : List ℕ) → ((n : ℕ) → Member n numbers → n < 10 ^ 5)
    → length (title_line title numbers) ≤ length title + 1 + 6 * length numbers
title_bound title numbers h =
    omega (
      arith,
      ap length (line_first title (map decimal numbers)),
      length-append title (later (map decimal numbers)),
      later_bound 5 (map decimal numbers) (at_most_map 5 decimal numbers (λ n s. decimal-length 4 n (h n s))),
      length-map numbers decimal,
    )

pub row_bound : (cells : List ℕ) → length (row_line cells) ≤ 11 * length cells + 1
unfolding line
row_bound [] = omega arith
row_bound (c ∷ cells) =
    omega (
      arith,
      ap length (line_first (cell_text c) (map cell_text cells)),
      length-append (cell_text c) (later (map cell_text cells)),
      cell_length c,
      later_bound 10 (map cell_text cells) (at_most_map 10 cell_text cells (λ x s. cell_length x)),
      length-map cells cell_text,
    )

-- ---- a set line

-- positions of at most two digits before other fields
positions_front : (ps : List ℕ) (f : List ℕ) (fields : List (List ℕ)) → ((p : ℕ) → Member p ps → p < 10 ^ 2)
    → length (line (map decimal ps ++ (f ∷ fields))) ≤ 3 * length ps + length (line (f ∷ fields))
positions_front [] f fields h = omega arith
positions_front (p ∷ []) f fields h =
    omega (
      arith,
      ap length (line_first (decimal p) (f ∷ fields)),
      length-append (decimal p) (later (f ∷ fields)),
      decimal-length 1 p (h p (inl refl)),
      ap length (line_first f fields),
    )
positions_front (p ∷ q ∷ ps) f fields h =
    let rest : List (List ℕ) = map decimal ps ++ (f ∷ fields) in
    omega (
      arith,
      ap length (line_first (decimal p) (decimal q ∷ rest)),
      length-append (decimal p) (later (decimal q ∷ rest)),
      ap length (line_first (decimal q) rest),
      decimal-length 1 p (h p (inl refl)),
      positions_front (q ∷ ps) f fields (λ r s. h r (inr s)),
    )

pub set_bound : (ps : List ℕ) (place : ℕ) → ((p : ℕ) → Member p ps → p < 10 ^ 2) → place < 10 ^ 4
    → length (set_line ps place) ≤ 3 * length ps + 7
set_bound ps place h k =
    omega (
      arith,
      positions_front ps (ascii ">") (decimal place ∷ []) h,
      ap length (line_first (ascii ">") (decimal place ∷ [])),
      length-append (decimal place) (10 ∷ []),
      decimal-length 3 place k,
    )

-- ---- a refusal's line

pub refused_bound : (number table : ℕ) → number < 10 ^ 2 → table < 10 ^ 2 → length (refused_line number table) ≤ 20
refused_bound number table h k =
    omega (
      arith,
      ap length (line_first (ascii "refused") (decimal number ∷ ascii "table" ∷ decimal table ∷ [])),
      length-append (decimal number) (later (ascii "table" ∷ decimal table ∷ [])),
      length-append (decimal table) (10 ∷ []),
      decimal-length 1 number h,
      decimal-length 1 table k,
    )
