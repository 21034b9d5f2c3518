-- Document 01, "Subsumption and minimum union": filled cells, subsumption, the rows that stay, and the pairs tried.
use Rattle.std.specs.Prelude.{ℕ, suc, ◌+◌, Bool, true, cond, not, ◌&&◌, ◌||◌, List, [], ◌∷◌, eqb, ltb, length, get_or}
use Rattle.definitions.specs.Lists.{any, filter, without, sum_below}
use Rattle.definitions.specs.Word.{is_filled}

-- how many cells are filled
unfoldable pub filled : List ℕ → ℕ
filled [] = 0
filled (x ∷ s) = cond (is_filled x) 1 0 + filled s

-- every filled cell of t equals that of s; a cell past the end of a row is empty
unfoldable pub covers : List ℕ → List ℕ → Bool
covers s [] = true
covers [] (y ∷ t) = not (is_filled y) && covers [] t
covers (x ∷ s) (y ∷ t) = (not (is_filled y) || eqb x y) && covers s t

-- "Row s subsumes row t if t has more empty cells than s and every filled cell of t equals that of s."
-- Rows of one table are equally long, so that more empty cells are fewer filled ones.
unfoldable pub subsumes : List ℕ → List ℕ → Bool
subsumes s t = ltb (filled t) (filled s) && covers s t

-- "The minimum union is T without the rows that some row of T subsumes, still ascending."
unfoldable pub minimum_rows : List (List ℕ) → List (List ℕ)
minimum_rows rows = filter (λ t. not (any (λ s. subsumes s t) rows)) rows

-- "the other rows are tried in ascending position, and the trying stops at the first row that subsumes it"
unfoldable pub tries : List ℕ → List (List ℕ) → ℕ
tries t [] = 0
tries t (s ∷ others) = suc (cond (subsumes s t) 0 (tries t others))

-- the pairs tried, a term of document 01: "the number of pairs tried", for each row of T
unfoldable pub pairs_tried : List (List ℕ) → ℕ
pairs_tried rows = sum_below (length rows) (λ k. tries (get_or rows k []) (without k rows))
