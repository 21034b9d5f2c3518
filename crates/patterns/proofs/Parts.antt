-- The rows of a flat list of words: one more, and that each stands within the words. Assumes nothing.
use mathlib.Core.Path.{◌≡◌, sym, ◌∙◌, ap₂}
use mathlib.Core.List.{List, [], ◌∷◌, ◌++◌}
use Prim.Native.Nat.{ℕ, suc, ◌+◌, ◌*◌, ◌<◌, ◌≤◌}
use native.Mathlib.Omega.{arith}
use lib.ListN.{length, take, drop, length-drop}
use lib.Seq.{length-take-le, take-suc, take_all}
use Rattle.definitions.proofs.Images.{rows_length}
use Rattle.definitions.specs.Image.{rows_in}
use Rattle.lists.proofs.Flat.{rows_take, rows_at_lem, row_fits}

-- the rows with the next one
pub rows_snoc : (c n : ℕ) (w : List ℕ) → rows_in c (n + 1) w ≡ rows_in c n w ++ (take c (drop (n * c) w) ∷ [])
rows_snoc c n w =
    let r = rows_in c (n + 1) w in
    let l : length r ≡ n + 1 = rows_length c (n + 1) w in
    sym (take_all (suc n) r (omega arith))
    ∙ take-suc r n [] (omega arith)
    ∙ ap₂ (λ (t : List (List ℕ)) (u : List ℕ). t ++ (u ∷ [])) (rows_take c n (n + 1) w (omega arith)) (rows_at_lem c (n + 1) n w (omega arith))

module _ (c n i : ℕ) (w : List ℕ) (fits : n * c ≤ length w) (more : i < n) where
  pub row_within : i * c + c ≤ length w
  row_within = omega (arith, row_fits c n i more)

  pub row_length : length (take c (drop (i * c) w)) ≡ c
  row_length = length-take-le c (drop (i * c) w) (omega (arith, length-drop (i * c) w, row_within))
