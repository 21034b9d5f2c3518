-- The fused table that a done complement union writes is itself an image that passes the questions 1 to 7, with at most 1,024 rows, and so has
-- pages: every cell of a joined row is a cell of T. Assumes nothing.
use mathlib.Core.Path.{◌≡◌, refl, ◌∙◌, ap, subst}
use mathlib.Core.Bool.{Bool, true}
use mathlib.Core.Logic.{inl, inr}
use mathlib.Core.List.{List, [], ◌∷◌}
use Prim.Native.Nat.{ℕ}
use native.Mathlib.Omega.{arith}
use lib.ListN.{length, get_or}
use Rattle.definitions.specs.Limits.{max_stored_rows}
use Rattle.definitions.specs.Lists.{all}
use Rattle.definitions.specs.Word.{is_filled, is_cell}
use Rattle.definitions.specs.OuterUnion.{union_columns, union_rows}
use Rattle.definitions.specs.ComplementUnion.{members, join, join_all, joined, fused_rows}
use Rattle.definitions.specs.Calls.{fused_image}
use Rattle.definitions.specs.Promise.{PagePromise, FusedHasPages}
use Rattle.definitions.specs.Statements.{Member}
use Rattle.definitions.specs.Claims.{Passed, ComplementDone}
use Rattle.std.proofs.lemmas.Bool.{and_from, and_parts}
use Rattle.definitions.proofs.Bools.{bool_cases}
use Rattle.definitions.proofs.Lists.{member-get}
use Rattle.definitions.proofs.Joined.{members_are}
use Rattle.definitions.proofs.Counts.{fused_count}
use Rattle.definitions.proofs.Unions.{rows_even, fused_are, fused_even}
use Rattle.definitions.proofs.TablePasses.{union_passes, accepted_cells}
use Rattle.definitions.proofs.Promise.{table_front, complement_complete}
use Rattle.definitions.proofs.Pages.{some_page, page_written}

-- ---- the cells of the fused table, by any test of a word

module _ (p : ℕ → Bool) where
  -- a cell of a joined row is a cell of one of its rows
  join_cells : (s t : List ℕ) → all p s ≡ true → all p t ≡ true → all p (join s t) ≡ true
  unfolding all join
  join_cells [] t e f = f
  join_cells (x ∷ s) [] e f = e
  join_cells (x ∷ s) (y ∷ t) e f =
      let rest = join_cells s t (and_parts (p x) (all p s) e).1 (and_parts (p y) (all p t) f).1 in
      bool_cases (is_filled x)
      (λ q. rw q (and_from _ _ (and_parts (p x) (all p s) e).0 rest))
      (λ q. rw q (and_from _ _ (and_parts (p y) (all p t) f).0 rest))

  joined_cells : (rows : List (List ℕ)) → ((r : List ℕ) → Member r rows → all p r ≡ true) → (s : List Bool) → all p (joined rows s) ≡ true
  unfolding all join_all joined
  joined_cells rows f s =
      each (members rows s) (λ r h.
      let i = (members_are rows s r).0 h in
      ap (all p) i.3 ∙ f (get_or rows i.0 []) (member-get [] rows i.0 i.1))
    where
      each : (l : List (List ℕ)) → ((r : List ℕ) → Member r l → all p r ≡ true) → all p (join_all l) ≡ true
      each [] g = refl
      each (r ∷ l) g = join_cells r (join_all l) (g r (inl refl)) (each l (λ s h. g s (inr h)))

  pub fused_cells : (columns : List ℕ) (t : List (List ℕ)) → ((r : List ℕ) → Member r t → all p r ≡ true)
      → (r : List ℕ) → Member r (fused_rows columns t) → all p r ≡ true
  fused_cells columns t f r h = let i = (fused_are columns t r).0 h in ap (all p) i.2 ∙ joined_cells t f i.0

-- ---- the fused table

pub fused_passes : (a b : List ℕ) (room sets_room : ℕ) (values : List ℕ) → ComplementDone a b room sets_room values
    → Passed max_stored_rows (fused_image a b)
unfolding fused_image
fused_passes a b room sets_room values d =
    let c = d.accepted in
    let columns = union_columns a b in
    let t = union_rows a b in
    union_passes a b max_stored_rows (fused_rows columns t) c (omega arith) (omega (arith, fused_count columns t, d.few_sets))
    (fused_even columns t (length columns) (rows_even a b))
    (fused_cells is_cell columns t (accepted_cells a b c))

-- ---- its pages

pub fused_has_pages : FusedHasPages
fused_has_pages a b table sets values table_after sets_after call =
    let d = complement_complete call in
    let p = fused_passes a b (length table) (length sets) values d in (
      some_page (fused_image a b) p,
      λ n bytes answer bytes_after exists room shown.
          page_written (subst (λ (image : List ℕ). PagePromise image n bytes answer bytes_after) (table_front call) shown) p exists room,
    )
