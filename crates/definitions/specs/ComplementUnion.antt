-- Document 01, "Complementation and complement union", with request A2's condition (3): complementing rows, maximal
-- complementing sets in set order, and the fused table. `columns` are the union's column words.
use Rattle.std.specs.Prelude.{ℕ, zero, suc, Bool, true, false, cond, not, ◌&&◌, ◌||◌, List, [], ◌∷◌, ◌++◌, map, eqb, length, get_or}
use Rattle.std.specs.declared.cmp.Ordering.{Ordering}
use Rattle.std.specs.declared.cmp.Ordering.TheVariants.{Less, Equal, Greater}
use Rattle.definitions.specs.Lists.{any, filter, all_below}
use Rattle.definitions.specs.Word.{mark_of, is_filled}
use Rattle.definitions.specs.Ascending.{ascending}
use Rattle.definitions.specs.OuterUnion.{compare_row}
use Rattle.definitions.specs.MinimumUnion.{subsumes}

unfoldable pub same_row : List ℕ → List ℕ → Bool
same_row [] [] = true
same_row [] (y ∷ t) = false
same_row (x ∷ s) [] = false
same_row (x ∷ s) (y ∷ t) = eqb x y && same_row s t

-- "(1) in each column they are equal or one is empty"
unfoldable pub agree : List ℕ → List ℕ → Bool
agree [] t = true
agree (x ∷ s) [] = true
agree (x ∷ s) (y ∷ t) = (eqb x y || not (is_filled x) || not (is_filled y)) && agree s t

-- "(3) some column is filled in both with the same number", or by request A4 with `none`
unfoldable pub share : List ℕ → List ℕ → Bool
share [] t = false
share (x ∷ s) [] = false
share (x ∷ s) (y ∷ t) = (is_filled x && eqb x y) || share s t

-- a row with its cells in unmarked columns emptied; it has no more cells than there are columns
unfoldable pub marked_cells : List ℕ → List ℕ → List ℕ
marked_cells [] row = []
marked_cells (w ∷ columns) [] = []
marked_cells (w ∷ columns) (x ∷ row) = cond (mark_of w) x 0 ∷ marked_cells columns row

-- the cells of a row that condition (3) counts, by request A2: "If any is marked, condition (3) of complementing counts
-- marked columns only; if none is, any column counts as before."
unfoldable pub counted_cells : List ℕ → List ℕ → List ℕ
counted_cells columns row = cond (any mark_of columns) (marked_cells columns row) row

-- "Rows s and t complement each other if (1), (2) they aren't equal and neither subsumes the other, (3)", which is put to the
-- cells that it counts
unfoldable pub complement : List ℕ → List ℕ → List ℕ → Bool
complement columns s t =
    agree s t
    && (not (same_row s t) && not (subsumes s t) && not (subsumes t s))
    && share (counted_cells columns s) (counted_cells columns t)

-- A set of positions below n is a list of n truth values, that of position 0 first: whether a position is in it.
unfoldable pub contains : List Bool → ℕ → Bool
contains [] k = false
contains (b ∷ s) zero = b
contains (b ∷ s) (suc k) = contains s k

-- set order, a term of document 01: "Of two sets, look at the smallest position that only one of them holds: the set with
-- it comes first."
unfoldable pub compare_set : List Bool → List Bool → Ordering
compare_set [] [] = Equal
compare_set [] (m ∷ t) = Less
compare_set (m ∷ s) [] = Greater
compare_set (true ∷ s) (true ∷ t) = compare_set s t
compare_set (true ∷ s) (false ∷ t) = Less
compare_set (false ∷ s) (true ∷ t) = Greater
compare_set (false ∷ s) (false ∷ t) = compare_set s t

-- all sets of positions below n, in set order
unfoldable pub subsets : ℕ → List (List Bool)
subsets zero = [] ∷ []
subsets (suc n) = map (λ s. true ∷ s) (subsets n) ++ map (λ s. false ∷ s) (subsets n)

-- over n positions, of which j and k complement each other where `adjacent j k`
module _ (adjacent : ℕ → ℕ → Bool) (n : ℕ) where
  -- the position j complements every member of s
  unfoldable pub adjacent_to_all : List Bool → ℕ → Bool
  adjacent_to_all s j = all_below n (λ k. not (contains s k) || adjacent j k)

  -- complementing set, a term of document 01: "A complementing set is a non-empty set of positions in which every two
  -- different rows complement each other."
  unfoldable pub is_complementing : List Bool → Bool
  is_complementing s =
      not (all_below n (λ k. not (contains s k)))
      && all_below n (λ j. all_below n (λ k. not (contains s j && contains s k && not (eqb j k)) || adjacent j k))

  -- "It is maximal if no position outside complements all its members."
  unfoldable pub is_maximal : List Bool → Bool
  is_maximal s = all_below n (λ j. contains s j || not (adjacent_to_all s j))

  -- the maximal complementing sets, in set order
  unfoldable pub maximal_sets : List (List Bool)
  maximal_sets = filter (λ s. is_complementing s && is_maximal s) (subsets n)

-- the rows at two positions complement each other
abbrev pub complement_at : List ℕ → List (List ℕ) → ℕ → ℕ → Bool
complement_at columns rows j k = complement columns (get_or rows j []) (get_or rows k [])

-- the rows at the positions of a set
unfoldable pub members : List (List ℕ) → List Bool → List (List ℕ)
members rows [] = []
members [] (m ∷ s) = []
members (r ∷ rows) (m ∷ s) = cond m (r ∷ members rows s) (members rows s)

-- in each column the cell that s has there, else that of t
unfoldable pub join : List ℕ → List ℕ → List ℕ
join [] t = t
join (x ∷ s) [] = x ∷ s
join (x ∷ s) (y ∷ t) = cond (is_filled x) x y ∷ join s t

-- joined row, a term of document 01: "The joined row of a set has, in each column, the number that some member has there,
-- or empty." Request A4: "takes it from a member as it takes a number"
unfoldable pub join_all : List (List ℕ) → List ℕ
join_all [] = []
join_all (r ∷ rows) = join r (join_all rows)

unfoldable pub joined : List (List ℕ) → List Bool → List ℕ
joined rows s = join_all (members rows s)

-- the maximal complementing sets of T
unfoldable pub union_sets : List ℕ → List (List ℕ) → List (List Bool)
union_sets columns rows = maximal_sets (complement_at columns rows) (length rows)

-- fused table, a term of document 01: "The fused table holds the distinct joined rows, ascending. Subsumed joined rows stay
-- in it."
unfoldable pub fused_rows : List ℕ → List (List ℕ) → List (List ℕ)
fused_rows columns rows = ascending compare_row (map (joined rows) (union_sets columns rows))
