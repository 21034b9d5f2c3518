-- The search for the maximal sets of a part of the rows (Tsukiyama, Ide, Ariyoshi, Shirakawa 1977): when a row may be taken, and what a run
-- of the search is, with the count of its calls. `N j` is the set of the rows that complement row j. No width and no limit stands here.
use Rattle.std.specs.Prelude.{◌≡◌, Bool, true, false, List, [], ◌∷◌, ◌++◌, ℕ, suc, ◌≤◌, ◌<◌, ◌+◌, length, get_or}
use Rattle.bitsets.specs.Bits.{has, both, is_sub, with_row, Inside, Sub, lowest, without_lowest, size_below}
use Rattle.cliques.specs.Graph.{adjacent, Graph}
use Rattle.cliques.specs.Maximal.{AdjacentToAll, Max}

-- the rows that complement row j, of the words of a graph
abbrev pub row_of : List ℕ → ℕ → ℕ
row_of neighbours j = get_or neighbours j 0

-- what a number for each row says
abbrev pub adjacent_by : (ℕ → ℕ) → ℕ → ℕ → Bool
adjacent_by N j k = has (N j) k

-- n rows, each with a bit of a word of `width` bits, fall into decided and undecided ones, `rest`, which are counted
pub record Split (n width decided rest undecided : ℕ) : Type 0 where
  pub fits : n ≤ width
  pub past : Inside decided n
  pub ahead : Inside rest n
  pub apart : (k : ℕ) → has rest k ≡ true → has decided k ≡ false
  pub counted : size_below width rest ≡ undecided

module _ (N : ℕ → ℕ) where
  -- what row i leaves of a set
  abbrev pub kept : ℕ → ℕ → ℕ
  kept set i = both set (N i)

  -- and the row
  abbrev pub taken : ℕ → ℕ → ℕ
  taken set i = with_row (kept set i) i

  -- Row i may be taken.
  pub record MayTake (decided set i : ℕ) : Type 0 where
    -- what is taken is maximal among the decided rows and row i: no decided row complements what is kept and row i,
    pub maximal : (j : ℕ) → has decided j ≡ true → AdjacentToAll (adjacent_by N) (kept set i) j → has (N i) j ≡ true → ⊥
    -- and of the sets that leave the same beside row i it is taken from the first in set order: no row that is not in the set complements
    -- what is kept and the rows of the set before it
    pub first : (j : ℕ) → has decided j ≡ true → has set j ≡ false → AdjacentToAll (adjacent_by N) (kept set i) j
        → ((k : ℕ) → has set k ≡ true → k < j → adjacent_by N j k ≡ true) → ⊥

  -- A run of the search: so many undecided rows, the decided ones, the undecided ones, a set that is maximal among the decided rows, the list
  -- before and after, and the count of calls, with the first.
  pub data Run (cap : ℕ) : ℕ → ℕ → ℕ → ℕ → List ℕ → List ℕ → ℕ → Type 0 where
    -- the list is full
    stops : {f d rest set : ℕ} {l : List ℕ} → cap ≤ length l → Run cap f d rest set l l 1
    -- no row is undecided
    lists : {d rest set : ℕ} {l : List ℕ} → length l < cap → Run cap 0 d rest set l (l ++ (set ∷ [])) 1
    -- the first undecided row complements all of the set, and is taken
    joins : {f d rest set calls : ℕ} {l out : List ℕ} → length l < cap → is_sub set (N (lowest rest)) ≡ true
        → Run cap f (with_row d (lowest rest)) (without_lowest rest) (with_row set (lowest rest)) l out calls
        → Run cap (suc f) d rest set l out (suc calls)
    -- it may not be taken, and is left
    leaves : {f d rest set calls : ℕ} {l out : List ℕ} → length l < cap → is_sub set (N (lowest rest)) ≡ false
        → (MayTake d set (lowest rest) → ⊥)
        → Run cap f (with_row d (lowest rest)) (without_lowest rest) set l out calls
        → Run cap (suc f) d rest set l out (suc calls)
    -- it is taken, and then left
    takes : {f d rest set calls more : ℕ} {l mid out : List ℕ} → length l < cap → is_sub set (N (lowest rest)) ≡ false
        → MayTake d set (lowest rest)
        → Run cap f (with_row d (lowest rest)) (without_lowest rest) (taken set (lowest rest)) l mid calls
        → Run cap f (with_row d (lowest rest)) (without_lowest rest) set mid out more
        → Run cap (suc f) d rest set l out (suc (calls + more))

-- a run with some count of calls
abbrev pub Ran : (ℕ → ℕ) → ℕ → ℕ → ℕ → ℕ → ℕ → List ℕ → List ℕ → Type 0
Ran N cap undecided decided rest set list out = (calls : ℕ) × Run N cap undecided decided rest set list out calls

-- The search may go on: the words are a graph of n rows, the set is maximal among the decided rows, and no more than `cap` sets are found yet.
pub record Ready (width cap : ℕ) (neighbours : List ℕ) (decided rest undecided set count : ℕ) : Type 0 where
  pub n : ℕ
  pub graph : Graph neighbours n
  pub split : Split n width decided rest undecided
  pub maximal : Max (adjacent neighbours) decided set
  pub few : count ≤ cap

-- the same without a count: row i is undecided, and may be taken or not
pub record Asked (width : ℕ) (neighbours : List ℕ) (decided set i : ℕ) : Type 0 where
  pub n : ℕ
  pub graph : Graph neighbours n
  pub bits : n ≤ width
  pub past : Inside decided n
  pub maximal : Max (adjacent neighbours) decided set
  pub row : i < n

-- r holds the rows of `start` that complement each row of the set
pub record FreeRows (adjacent : ℕ → ℕ → Bool) (set start r : ℕ) : Type 0 where
  pub within : Sub r start
  pub each : (j k : ℕ) → has set j ≡ true → has r k ≡ true → adjacent j k ≡ true
  pub all : (k : ℕ) → has start k ≡ true → ((j : ℕ) → has set j ≡ true → adjacent j k ≡ true) → has r k ≡ true

-- a free row that is not in the set
pub record Met (adjacent : ℕ → ℕ → Bool) (free set : ℕ) : Type 0 where
  pub row : ℕ
  pub there : has free row ≡ true
  pub outside : has set row ≡ false
  pub before : (k : ℕ) → has free k ≡ true → has set k ≡ true → k < row → adjacent k row ≡ true

-- The free rows are walked in ascending order, and those that a member of the set among them does not complement are passed over. Yes: no row
-- outside the set is met. No: the row that is met complements each member among the free rows before it.
pub record GrowsBack (adjacent : ℕ → ℕ → Bool) (free set : ℕ) (r : Bool) : Type 0 where
  pub yes : r ≡ true → (j : ℕ) → has free j ≡ true → has set j ≡ false
      → ((k : ℕ) → has free k ≡ true → has set k ≡ true → k < j → adjacent k j ≡ true) → ⊥
  pub no : r ≡ false → Met adjacent free set

-- a test says yes where P holds, and no where it does not
pub record Decides (P : Type 0) (r : Bool) : Type 0 where
  pub yes : r ≡ true → P
  pub no : r ≡ false → P → ⊥
