-- The rows part by part: parts that no row outside complements, the rows of a part that complement all others of it, and what it means to
-- list the sets of all parts, with the count of the search's calls.
use Rattle.std.specs.Prelude.{◌≡◌, Bool, true, List, ◌++◌, map, ℕ, ◌≤◌, ◌<◌, ◌+◌, ◌-◌, length, take, drop}
use Rattle.bitsets.specs.Bits.{has, but_not, either, Inside, Sub, size_below}
use Rattle.cliques.specs.Graph.{Graph}
use Rattle.cliques.specs.Search.{adjacent_by, Run}

module _ (adjacent : ℕ → ℕ → Bool) where
  -- a part of the rows is not empty, and holds each of the rows that complements one of its own
  pub record Part (rows part : ℕ) : Type 0 where
    pub within : Sub part rows
    pub row : ℕ
    pub there : has part row ≡ true
    pub closed : (j k : ℕ) → has part j ≡ true → has rows k ≡ true → adjacent j k ≡ true → has part k ≡ true

  -- rows of a part that complement all its other rows
  pub record Common (part common : ℕ) : Type 0 where
    pub within : Sub common part
    pub all : (j k : ℕ) → has common j ≡ true → has part k ≡ true → (j ≡ k → ⊥) → adjacent j k ≡ true

-- The sets of the rows are listed part by part: the search lists those of what a part has beside its common rows, and these are put into each.
pub data Parts (N : ℕ → ℕ) (cap width : ℕ) : ℕ → List ℕ → List ℕ → ℕ → Type 0 where
  -- no row is left
  ends : {rows : ℕ} {l : List ℕ} → rows ≡ 0 → Parts N cap width rows l l 0
  -- the list is full
  fills : {rows : ℕ} {l : List ℕ} → cap ≤ length l → Parts N cap width rows l l 0
  -- a part, and then the rows that are left
  next : {rows part calls more : ℕ} {l out : List ℕ} (common : ℕ) (new : List ℕ) → length l < cap → Part (adjacent_by N) rows part → Common (adjacent_by N) part common
      → Run N cap (size_below width (but_not part common)) 0 (but_not part common) 0 l (l ++ new) calls
      → Parts N cap width (but_not rows part) (l ++ map (λ s. either s common) new) out more → Parts N cap width rows l out (calls + more)

-- the sets of the rows are listed, with some count of calls
abbrev pub RanParts : (ℕ → ℕ) → ℕ → ℕ → ℕ → List ℕ → List ℕ → Type 0
RanParts N cap width rows l out = (calls : ℕ) × Parts N cap width rows l out calls

-- a list whose elements from one index to another are changed by f
abbrev pub changed : ℕ → ℕ → (ℕ → ℕ) → List ℕ → List ℕ
changed from to f l = take from l ++ (map f (take (to - from) (drop from l)) ++ drop (to - from) (drop from l))

-- rows of a graph in which each row has a bit of a word
pub record RowsOf (width : ℕ) (neighbours : List ℕ) (rows : ℕ) : Type 0 where
  pub n : ℕ
  pub graph : Graph neighbours n
  pub bits : n ≤ width
  pub inside : Inside rows n

-- the sets of a part are put after those of the list
pub record Searched (N : ℕ → ℕ) (cap width part : ℕ) (l out : List ℕ) : Type 0 where
  pub common : ℕ
  pub new : List ℕ
  pub calls : ℕ
  pub rows : Common (adjacent_by N) part common
  pub run : Run N cap (size_below width (but_not part common)) 0 (but_not part common) 0 l (l ++ new) calls
  pub sets : out ≡ l ++ map (λ s. either s common) new
