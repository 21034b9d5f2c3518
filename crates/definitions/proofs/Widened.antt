-- A widened row in words: in each column of the union the cell that its row has there, or the empty cell where its table lacks the
-- column; widened twice is widened once, and a row that covers another one covers it widened. Assumes nothing.
use mathlib.Core.Path.{◌≡◌, refl, sym, ◌∙◌, ap, subst}
use mathlib.Core.Bool.{true, false}
use mathlib.Core.Logic.{inl}
use mathlib.Core.List.{List}
use Prim.Native.Nat.{ℕ, ◌<◌}
use native.Mathlib.Omega.{arith}
use lib.Dec.{eqb, ltb}
use lib.ListN.{length, get_or, get_or-eq_default, length-map}
use borrow.Author.Tests.{eqb-true, eqb-false, eq-eqb, ne_eqb, ltb-true, ltb-false}
use Rattle.std.proofs.lemmas.List.{get_or-map}
use Rattle.std.proofs.lemmas.Grind.{same_number_lists}
use Rattle.definitions.specs.Lists.{any, find_index, distinct}
use Rattle.definitions.specs.OuterUnion.{cell_in, widened}
use Rattle.definitions.specs.MinimumUnion.{covers}
use Rattle.definitions.specs.Statements.{Member}
use Rattle.definitions.specs.Claims.{Filled}
use Rattle.definitions.proofs.Bools.{bool_cases, clash}
use Rattle.definitions.proofs.Rows.{covers_at, covers_of}
use Rattle.definitions.proofs.Lists.{map_ext, any_true, any_of, any_none, find_index_found, find_index_at, find_index_of, find_index_none, distinct_true}

-- an id is one of a table's, or the table lacks it
known_cases : {A : Type 0} (id : ℕ) (ids : List ℕ) → (Member id ids → A) → ((Member id ids → ⊥) → A) → A
known_cases id ids known lacking =
    bool_cases (any (eqb id) ids)
    (λ q. let i = any_true (eqb id) ids q in known (subst (λ (x : ℕ). Member x ids) (sym (eqb-true id i.0 i.2)) i.1))
    (λ q. lacking (λ m. clash (any_of (eqb id) id ids m (eq-eqb id id refl)) q))

module _ (union ids row : List ℕ) where
  pub widened_at : (k : ℕ) → k < length union → get_or (widened union ids row) k 0 ≡ cell_in ids row (get_or union k 0)
  unfolding widened
  widened_at k h = get_or-map (cell_in ids row) union k 0 0 h

  -- an id has one index among distinct ids
  pub cell_own : distinct eqb ids ≡ true → (j : ℕ) → j < length ids → cell_in ids row (get_or ids j 0) ≡ get_or row j 0
  cell_own d j h =
      ap (λ (k : ℕ). get_or row k 0)
      (find_index_of (eqb (get_or ids j 0)) 0 ids j h (eq-eqb (get_or ids j 0) (get_or ids j 0) refl)
      (λ i g. ne_eqb (get_or ids j 0) (get_or ids i 0) (λ e. eqb-false (get_or ids i 0) (get_or ids j 0) (distinct_true eqb 0 ids d i j g h) (sym e))))

  pub cell_lacking : length row ≡ length ids → (id : ℕ) → (Member id ids → ⊥) → cell_in ids row id ≡ 0
  cell_lacking e id h =
      let none : any (eqb id) ids ≡ false = any_none (eqb id) ids (λ x g. ne_eqb id x (λ q. h (rw q g))) in
      let p = find_index_none (eqb id) ids none in
      get_or-eq_default row 0 {n = find_index (eqb id) ids} (omega arith)

  -- an id whose cell is filled in a row is one of the row's
  pub cell_known : length row ≡ length ids → (id w : ℕ) → Filled w → cell_in ids row id ≡ w → Member id ids
  cell_known size id w filled e = known_cases id ids (λ m. m) (λ lacking. absurd (filled (sym e ∙ cell_lacking size id lacking)))

  -- a widened row has in the union's columns what it had
  pub widened_has : (id : ℕ) → Member id union → cell_in union (widened union ids row) id ≡ cell_in ids row id
  widened_has id m =
      let k = find_index (eqb id) union in
      let within = find_index_found (eqb id) id union m (eq-eqb id id refl) in
      widened_at k within ∙ ap (cell_in ids row) (sym (eqb-true id (get_or union k 0) (find_index_at (eqb id) 0 union within)))

  -- the cell of its own column
  pub widened_own : distinct eqb ids ≡ true → (k j : ℕ) → k < length union → j < length ids → get_or union k 0 ≡ get_or ids j 0 → get_or (widened union ids row) k 0 ≡ get_or row j 0
  widened_own d k j h g e = widened_at k h ∙ ap (cell_in ids row) e ∙ cell_own d j g

  -- "Each row gets empty cells in columns that its table lacks."
  pub widened_lacking : length row ≡ length ids → (k : ℕ) → k < length union → (Member (get_or union k 0) ids → ⊥) → get_or (widened union ids row) k 0 ≡ 0
  widened_lacking e k h g = widened_at k h ∙ cell_lacking e (get_or union k 0) g

  pub widened_size : length (widened union ids row) ≡ length union
  unfolding widened
  widened_size = length-map union (cell_in ids row)

-- a union that has all columns of the row's table
module _ (union ids row : List ℕ) (size : length row ≡ length ids) (known : (id : ℕ) → Member id ids → Member id union) where
  -- a column that the union lacks, the row's table lacks too
  cell_kept : (id : ℕ) → cell_in union (widened union ids row) id ≡ cell_in ids row id
  cell_kept id =
      known_cases id union (widened_has union ids row id)
      (λ lacking.
      cell_lacking union union (widened union ids row) (widened_size union ids row) id lacking
      ∙ sym (cell_lacking union ids row size id (λ m. lacking (known id m))))

  -- widened twice is widened once
  pub widened_twice : (wider : List ℕ) → widened wider union (widened union ids row) ≡ widened wider ids row
  unfolding widened
  widened_twice wider = map_ext (cell_in union (widened union ids row)) (cell_in ids row) wider (λ id m. cell_kept id)

-- a row with the union's columns gets no cell
pub widened_same : (ids row : List ℕ) → length row ≡ length ids → distinct eqb ids ≡ true → widened ids ids row ≡ row
widened_same ids row size d =
    same_number_lists (widened ids ids row) row (widened_size ids ids row ∙ sym size)
    (λ k h. let within : k < length ids = omega (arith, widened_size ids ids row) in widened_own ids ids row d k k within within refl)

-- a row that covers another one covers it widened
pub widened_covers : (union ids s t : List ℕ) → covers s t ≡ true → covers (widened union ids s) (widened union ids t) ≡ true
widened_covers union ids s t e =
    covers_of (widened union ids s) (widened union ids t) (λ k.
    bool_cases (ltb k (length union))
    (λ q.
    let h = ltb-true k (length union) q in
    let at = covers_at s t e (find_index (eqb (get_or union k 0)) ids) in
    rw (widened_at union ids s k h, widened_at union ids t k h) at)
    (λ q. inl (get_or-eq_default (widened union ids t) 0 {n = k} (omega (arith, ltb-false k (length union) q, widened_size union ids t)))))
