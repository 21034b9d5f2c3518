-- Request A4, "Every union reads it so": a filled word, a number or `none`, stands in a column of each union's result exactly if it stands
-- in that column of either table. Assumes nothing.
use mathlib.Core.Path.{◌≡◌, refl, sym, ◌∙◌, ap, subst}
use mathlib.Core.Logic.{◌⊎◌, ◌↔◌, inl, inr, ⊎_elim}
use mathlib.Core.List.{List, [], ◌++◌, map}
use Prim.Native.Nat.{ℕ, ◌^◌, ◌<◌}
use native.Mathlib.Omega.{arith}
use lib.Dec.{eqb}
use lib.ListN.{length, get_or}
use Rattle.definitions.specs.Limits.{max_rows}
use Rattle.definitions.specs.Lists.{find_index}
use Rattle.definitions.specs.Word.{id_of}
use Rattle.definitions.specs.Image.{image_ids, image_rows, image_of}
use Rattle.definitions.specs.OuterUnion.{union_ids, union_columns, cell_in, widened, union_rows}
use Rattle.definitions.specs.MinimumUnion.{minimum_rows}
use Rattle.definitions.specs.ComplementUnion.{joined, fused_rows}
use Rattle.definitions.specs.Calls.{Accepted, outer_image, minimum_image, fused_image}
use Rattle.definitions.specs.Statements.{Member}
use Rattle.definitions.specs.Claims.{Filled, Covered, WidenedOf}
use Rattle.definitions.specs.NoneClaims.{StandsIn}
use Rattle.definitions.specs.Promise.{UnionsKeepCells}
use Rattle.definitions.proofs.Lists.{member-get}
use Rattle.definitions.proofs.Subsumption.{subsumes_keeps}
use Rattle.definitions.proofs.Widened.{cell_known, widened_has}
use Rattle.definitions.proofs.Joined.{joined_some, members_are}
use Rattle.definitions.proofs.Minimum.{minimum_is, every_row_stays}
use Rattle.definitions.proofs.Counts.{fused_count}
use Rattle.definitions.proofs.Unions.{rows_are, columns_count, rows_even, minimum_even, fused_are, fused_even}
use Rattle.definitions.proofs.UnionColumns.{columns_ids, columns_narrow}
use Rattle.definitions.proofs.Promise.{outer_complete, minimum_complete, complement_complete}
use Rattle.definitions.proofs.Images.{words_front, image_rows_front, row_size, PartOf, first_part, second_part, accepted_rows, minimum_short}
use Rattle.definitions.proofs.Demand3.{every_row}

-- some row has the word in the column with an id
abbrev RowsHave : List ℕ → List (List ℕ) → ℕ → ℕ → Type 0
RowsHave ids rows id w = (row : List ℕ) × Member row rows × (cell_in ids row id ≡ w)

module _ (a b : List ℕ) where
  abbrev ids : List ℕ
  ids = union_ids a b

  abbrev columns : List ℕ
  columns = union_columns a b

  abbrev T : List (List ℕ)
  T = union_rows a b

  module _ (id w : ℕ) (filled : Filled w) where
    abbrev Given : Type 0
    Given = StandsIn a id w ⊎ StandsIn b id w

    -- ---- T

    to_union : (image : List ℕ) → PartOf a b image → StandsIn image id w → RowsHave ids T id w
    to_union image p i =
        let own = cell_known [] (image_ids image) i.0 (row_size max_rows image p.passed i.0 i.1) id w filled i.2 in
        (widened ids (image_ids image) i.0, p.rows _ (i.0, i.1, refl), widened_has ids (image_ids image) i.0 id (p.ids id own) ∙ i.2)

    in_union : Accepted a b → Given → RowsHave ids T id w
    in_union c = ⊎_elim (to_union a (first_part a b c)) (to_union b (second_part a b c))

    from_union : RowsHave ids T id w → Given
    from_union i =
        let m = cell_known [] ids i.0 (rows_even a b i.0 i.1 ∙ columns_count a b) id w filled i.2 in
        let back : (image : List ℕ) → WidenedOf a b image i.0 → StandsIn image id w =
        λ image v. (v.0, v.1, sym (widened_has ids (image_ids image) v.0 id m) ∙ ap (λ (r : List ℕ). cell_in ids r id) (sym v.2) ∙ i.2) in
        ⊎_elim (λ v. inl (back a v)) (λ v. inr (back b v)) ((rows_are a b i.0).0 i.1)

  -- ---- rows that keep the cells of T: they cover its rows, and each filled cell of theirs is one of its rows'

  pub record Keeps (rows : List (List ℕ)) : Type 0 where
    covering : (t : List ℕ) → Member t T → Covered rows t
    taken : (f : List ℕ) → Member f rows → (k : ℕ) → Filled (get_or f k 0) → (t : List ℕ) × Member t T × (get_or f k 0 ≡ get_or t k 0)
    even : (f : List ℕ) → Member f rows → length f ≡ length columns
    few : length rows < 2 ^ 12

  module _ (c : Accepted a b) where
    union_keeps : Keeps T
    union_keeps = record {
      covering = λ t m. (t, m, inl refl);
      taken = λ f m k filled. (f, m, refl);
      even = rows_even a b;
      few = omega (arith, accepted_rows a b c);
    }

    minimum_keeps : Keeps (minimum_rows T)
    minimum_keeps = record {
      covering = every_row_stays T;
      taken = λ f m k filled. (f, ((minimum_is T f).0 m).0, refl);
      even = minimum_even a b;
      few = minimum_short a b c;
    }

    fused_keeps : length (fused_rows columns T) < 2 ^ 12 → Keeps (fused_rows columns T)
    fused_keeps few = record {
      covering = every_row a b;
      taken = λ f m k filled.
          let j = (fused_are columns T f).0 m in
          let own : get_or f k 0 ≡ get_or (joined T j.0) k 0 = ap (λ (r : List ℕ). get_or r k 0) j.2 in
          let i = joined_some T j.0 k (λ z. filled (own ∙ z)) in
          let at = (members_are T j.0 i.0).0 i.1 in
          (i.0, subst (λ (r : List ℕ). Member r T) (sym at.3) (member-get [] T at.0 at.1), own ∙ i.2);
      even = fused_even columns T (length columns) (rows_even a b);
      few = few;
    }

    module _ (rows : List (List ℕ)) (keeps : Keeps rows) (id w : ℕ) (filled : Filled w) where
      kept : RowsHave ids rows id w ↔ Given id w filled
      kept =
          let k = find_index (eqb id) ids in (
            λ i.
                let t = keeps.taken i.0 i.1 k (λ z. filled (sym i.2 ∙ z)) in
                from_union id w filled (t.0, t.1, sym t.2 ∙ i.2),
            λ h.
                let t = in_union id w filled c h in
                let f = keeps.covering t.0 t.1 in
                let same : f.0 ≡ t.0 → get_or f.0 k 0 ≡ w = λ e. ap (λ (r : List ℕ). get_or r k 0) e ∙ t.2 in
                (f.0, f.1, ⊎_elim same (λ e. subsumes_keeps f.0 t.0 k w filled e t.2) f.2),
          )

      -- the image of the rows at the front of a buffer
      pub front_keeps : (after rest : List ℕ) → after ≡ image_of columns rows ++ rest → StandsIn after id w ↔ (StandsIn a id w ⊎ StandsIn b id w)
      front_keeps after rest e =
          let front = image_of columns rows ++ rest in
          let narrow = columns_narrow a b c in
          let words = ap (map id_of) (words_front columns rows narrow rest) ∙ columns_ids a b in
          let read = image_rows_front columns rows narrow rest keeps.few keeps.even in
          subst (λ (x : List ℕ). StandsIn x id w ↔ Given id w filled) (sym e)
          (subst (λ (x : List ℕ). RowsHave x (image_rows front) id w ↔ Given id w filled) (sym words)
          (subst (λ (x : List (List ℕ)). RowsHave ids x id w ↔ Given id w filled) (sym read) kept))

-- ---- the three calls

pub unions_keep_cells : UnionsKeepCells
unfolding outer_image minimum_image fused_image
unions_keep_cells a b table sets values table_after sets_after call id w filled =
    let columns = union_columns a b in
    let T = union_rows a b in
    ⊎_elim
    (λ p.
    let c = (outer_complete a b table table_after values p).accepted in
    front_keeps a b c T (union_keeps a b c) id w filled table_after _ p.writes)
    (⊎_elim
    (λ p.
    let c = (minimum_complete a b table table_after values p).accepted in
    front_keeps a b c (minimum_rows T) (minimum_keeps a b c) id w filled table_after _ p.writes)
    (λ p.
    let d = complement_complete p in
    let keeps = fused_keeps a b d.accepted (omega (arith, d.few_sets, fused_count columns T)) in
    front_keeps a b d.accepted (fused_rows columns T) keeps id w filled table_after _ p.writes))
    call
