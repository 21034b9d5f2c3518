-- Demand 3, sentence by sentence, over the sets and the fused rows of T. T is `union_rows a b`, its column words are `union_columns a b`. Assumes nothing.
use mathlib.Core.Path.{◌≡◌, refl, sym, ◌∙◌}
use mathlib.Core.Bool.{Bool}
use mathlib.Core.Logic.{◌↔◌}
use mathlib.Core.List.{List, []}
use Prim.Native.Nat.{ℕ, ◌<◌}
use lib.ListN.{length, get_or}
use Rattle.definitions.specs.OuterUnion.{compare_row, union_columns, union_rows}
use Rattle.definitions.specs.MinimumUnion.{minimum_rows}
use Rattle.definitions.specs.ComplementUnion.{compare_set, complement_at, joined, union_sets, fused_rows}
use Rattle.definitions.specs.SetList.{fused_position}
use Rattle.definitions.specs.Statements.{Member, StrictlyAscending}
use Rattle.definitions.specs.Demand3.{MaximalRows}
use Rattle.definitions.specs.Claims.{Covered, JoinedOf}
use Rattle.definitions.proofs.Lists.{member_at}
use Rattle.definitions.proofs.Complementing.{complement_sym}
use Rattle.definitions.proofs.Sets.{listed_is, listed_rise}
use Rattle.definitions.proofs.Completion.{every_position}
use Rattle.definitions.proofs.MaximalRows.{maximal_rows, rows_maximal}
use Rattle.definitions.proofs.Joined.{members_are, member_covered}
use Rattle.definitions.proofs.Minimum.{minimum_is}
use Rattle.definitions.proofs.Unions.{rows_rise, rows_even, fused_rise, fused_are}
use Rattle.definitions.proofs.SetWords.{fused_position_within, fused_position_at}

module _ (a b : List ℕ) where
  abbrev columns : List ℕ
  columns = union_columns a b

  abbrev T : List (List ℕ)
  T = union_rows a b

  -- "lists a set of rows of T exactly when the set isn't empty, every two different rows in it complement each other, and no row of T
  -- outside it complements all its rows"
  pub listed_exactly : (s : List Bool) → Member s (union_sets columns T) ↔ MaximalRows columns T s
  unfolding union_sets
  listed_exactly s =
      let l = listed_is (complement_at columns T) (length T) s in
      (λ h. maximal_rows columns T (rows_rise a b) s (l.0 h), λ m. l.1 (rows_maximal columns T (rows_rise a b) s m))

  -- "Each such set stands in the set list once, in document 01's set order,"
  pub listed_once : StrictlyAscending compare_set (union_sets columns T)
  unfolding union_sets
  listed_once = listed_rise (complement_at columns T) (length T)

  -- "with the position of its joined row in the fused table."
  pub listed_with_row : (s : List Bool) → Member s (union_sets columns T)
      → (fused_position columns T s < length (fused_rows columns T)) × (get_or (fused_rows columns T) (fused_position columns T s) [] ≡ joined T s)
  listed_with_row s h = (fused_position_within columns T s h, fused_position_at columns T s h)

  -- "That table holds these joined rows and no others, each once, ascending."
  pub fused_exactly : (r : List ℕ) → Member r (fused_rows columns T) ↔ JoinedOf columns T r
  fused_exactly = fused_are columns T

  pub fused_once : StrictlyAscending compare_row (fused_rows columns T)
  fused_once = fused_rise columns T

  -- "Every row of T, and so every row of the minimum union, is equal to or subsumed by a fused row."
  pub every_row : (t : List ℕ) → Member t T → Covered (fused_rows columns T) t
  unfolding union_sets
  every_row t h =
      let i = member_at [] t T h in
      let s = every_position (complement_at columns T) (length T) (λ j k p q e. complement_sym columns (get_or T k []) (get_or T j []) ∙ e) i.0 i.1 in
      let c = ((listed_is (complement_at columns T) (length T) s.0).0 s.1).complementing in (
        joined T s.0,
        (fused_are columns T (joined T s.0)).1 (s.0, s.1, refl),
        member_covered columns T s.0 c (length columns) (rows_even a b) t ((members_are T s.0 t).1 (i.0, i.1, s.2, sym i.2)),
      )

  pub every_minimum_row : (t : List ℕ) → Member t (minimum_rows T) → Covered (fused_rows columns T) t
  every_minimum_row t h = every_row t ((minimum_is T t).0 h).0
