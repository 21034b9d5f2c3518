-- Where a row stands among rows that are named by indices in ascending order. What `order_rows` gives is what `position_of` asks: their rows ascend,
-- and the row of each index below n stands among them. Assumes nothing.
use mathlib.Core.Path.{◌≡◌, sym, ◌∙◌, ap, subst}
use mathlib.Core.List.{List, [], ◌++◌}
use Prim.Native.Nat.{ℕ, ◌+◌, ◌*◌, ◌<◌, ◌≤◌}
use native.Mathlib.Omega.{arith}
use lib.Dec.{ltb}
use lib.ListN.{length, get_or, take, drop, length-map}
use lib.Seq.{take-append-le, length-take-le}
use borrow.Author.Tests.{ltb-true, ltb-false}
use Rattle.std.proofs.lemmas.List.{get_or-map as map_at}
use Rattle.std.specs.declared.cmp.Ordering.{Ordering}
use Rattle.std.specs.declared.cmp.Ordering.TheVariants.{Less, Equal, Greater}
use Rattle.definitions.specs.Image.{rows_in}
use Rattle.definitions.specs.Lists.{find_index}
use Rattle.definitions.specs.OuterUnion.{compare_row}
use Rattle.definitions.specs.ComplementUnion.{same_row}
use Rattle.definitions.specs.Statements.{Member}
use Rattle.definitions.proofs.Bools.{bool_cases}
use Rattle.definitions.proofs.Images.{rows_length}
use Rattle.definitions.proofs.Lists.{member-get, member_at, find_index-strict}
use Rattle.definitions.proofs.Ascending.{ascending-has, before≢same}
use Rattle.definitions.proofs.Orders.{rows}
use Rattle.definitions.proofs.Rows.{same_is}
use Rattle.lists.proofs.Flat.{rows_at_lem}
use Rattle.lists.proofs.Search.{Between, search_up, search_down}
use Rattle.rows.specs.Indices.{row_at, rows_at, AscendingIndices, Ordered}
use Rattle.rows.proofs.Indices.{indices_ascending}

module _ (c n : ℕ) (w l : List ℕ) (o : Ordered c n w l) where
  pub ordered_ascending : n * c ≤ length w → AscendingIndices c w l
  ordered_ascending h = indices_ascending c n w l (rows_in c n w) h o.below o.rows

  pub ordered_member : (i : ℕ) → i < n → Member (row_at c w i) (rows_at c w l)
  ordered_member i h =
      subst (Member (row_at c w i)) (sym o.rows)
      (ascending-has rows (row_at c w i) (rows_in c n w)
      (subst (λ (r : List ℕ). Member r (rows_in c n w)) (rows_at_lem c n i w h) (member-get [] (rows_in c n w) i (omega (arith, rows_length c n w)))))

-- the first m indices of a list name the distinct rows
pub record Front (c n m : ℕ) (w order : List ℕ) : Type 0 where
  pub named : Ordered c n w (take m order)
  pub count : length (take m order) ≡ m
  pub fewer : m ≤ n

-- `order_rows` put them in the first n places of a list
pub ordered_within : (c n m : ℕ) (w old x : List ℕ) → n ≤ length old → length x ≡ length (take n old)
    → (m ≤ length (take n old)) × Ordered c (length (take n old)) w (take m x) → Front c n m w (x ++ drop n old)
ordered_within c n m w old x room size o =
    let all : length (take n old) ≡ n = length-take-le n old room in
    let front : take m (x ++ drop n old) ≡ take m x = take-append-le m x (drop n old) (omega (arith, size, o.0)) in
    record {
      named = subst (Ordered c n w) (sym front) (subst (λ (k : ℕ). Ordered c k w (take m x)) all o.1);
      count = ap length front ∙ length-take-le m x (omega (arith, size, o.0));
      fewer = omega (arith, all, o.0);
    }

-- ---- a row is sought among the rows at indices

-- it lies between two of them
abbrev pub Sought : ℕ → List ℕ → List ℕ → List ℕ → ℕ → ℕ → Type 0
Sought c w l row lo hi = Between compare_row row row (rows_at c w l) lo hi

module _ (c : ℕ) (w l row : List ℕ) (a : AscendingIndices c w l) where
  pub sought_all : Sought c w l row 0 (length l)
  sought_all = record { order = omega arith; within = omega (arith, length-map l (row_at c w)); low = λ j k. absurd (omega arith); high = λ j k m. absurd (omega (arith, length-map l (row_at c w))) }

  -- o is what the comparison with the row of the index at mid told
  module _ (lo hi mid : ℕ) (b : Sought c w l row lo hi) (above : lo ≤ mid) (below : mid < hi) (o : Ordering) (told : o ≡ compare_row row (row_at c w (get_or l mid 0))) where
    within : mid < length l
    within = omega (arith, b.within, length-map l (row_at c w))

    compared : compare_row row (get_or (rows_at c w l) mid row) ≡ o
    compared = ap (compare_row row) (map_at (row_at c w) l mid 0 row within) ∙ sym told

    pub before_mid : o ≡ Less → Sought c w l row lo mid
    before_mid e = search_down rows row row (rows_at c w l) a.strict lo hi mid b above below (compared ∙ e)

    pub behind_mid : o ≡ Greater → Sought c w l row (mid + 1) hi
    behind_mid e = search_up rows row row (rows_at c w l) a.strict lo hi mid b above below (compared ∙ e)

    pub at_mid : o ≡ Equal → (mid ≡ find_index (same_row row) (rows_at c w l)) × (mid < length l)
    at_mid e =
        let t = rows_at c w l in
        let is : row ≡ get_or t mid row = rows.same row (get_or t mid row) (compared ∙ e) in (
          sym (ap (λ (r : List ℕ). find_index (same_row r) t) is ∙ find_index-strict rows same_row same_is row t mid a.strict (omega (arith, within, length-map l (row_at c w)))),
          within,
        )

  -- a row that stands among them is found
  pub found_between : Member row (rows_at c w l) → (lo hi : ℕ) → Sought c w l row lo hi → hi ≤ lo → ⊥
  found_between h lo hi b none =
      let t = rows_at c w l in
      let at = member_at row row t h in
      let j : ℕ = at.0 in
      let self : compare_row row (get_or t j row) ≡ Equal = ap (compare_row row) at.2 ∙ rows.self row in
      bool_cases (ltb j lo)
      (λ p. before≢same (sym (rows.flip row (get_or t j row) (b.low j (ltb-true j lo p))) ∙ ap (λ (r : List ℕ). compare_row r row) at.2 ∙ rows.self row))
      (λ p. before≢same (sym (b.high j (omega (arith, ltb-false j lo p)) at.1) ∙ self))
