-- Request A4: `none` is a cell, filled, after every number, equal to itself alone; rows share it, and a joined row takes it from a member;
-- pages show it; and tables without it are as before. Assumes nothing.
use mathlib.Core.Path.{◌≡◌, refl, sym, ◌∙◌, ap, subst}
use mathlib.Core.Bool.{Bool, true, false, not, ◌||◌}
use mathlib.Core.Logic.{◌⊎◌, ◌↔◌, inl, inr, ⊎_elim}
use mathlib.Core.List.{List, [], ◌∷◌, ◌++◌}
use Prim.Native.Nat.{ℕ, ◌<◌}
use native.Mathlib.Omega.{arith}
use lib.Dec.{eqb}
use lib.ListN.{length, get_or, take, length-map}
use borrow.Author.Tests.{eqb-true, eq-eqb, ne_eqb, not-true}
use Rattle.std.specs.declared.cmp.Ordering.TheVariants.{Less}
use Rattle.std.proofs.lemmas.Bool.{or_cases, or_left, or_right}
use Rattle.definitions.specs.Limits.{mark_words}
use Rattle.definitions.specs.Word.{kind_of, none, is_filled, is_cell}
use Rattle.definitions.specs.Image.{cell_words}
use Rattle.definitions.specs.OuterUnion.{compare_word, compare_row, union_columns, union_rows}
use Rattle.definitions.specs.MinimumUnion.{subsumes}
use Rattle.definitions.specs.ComplementUnion.{agree, complement, members}
use Rattle.definitions.specs.Questions.{cells_right}
use Rattle.definitions.specs.Reading.{records_in, set_in}
use Rattle.definitions.specs.Text.{cell_text}
use Rattle.definitions.specs.Page.{flush_right, cell_width}
use Rattle.definitions.specs.Statements.{Member}
use Rattle.definitions.specs.Claims.{Filled, Counts}
use Rattle.definitions.specs.NoneClaims.{WithoutNone, cell_before, cells_before, text_before, CellsAsBefore}
use Rattle.definitions.specs.Demand3.{listed_sets, Demand3, MeetsDemand3}
use Rattle.definitions.specs.Promise.{JoinedRowsTake, NoneIsShown}
use Rattle.definitions.proofs.Bools.{or_none}
use Rattle.definitions.proofs.Lists.{member-get, all_true, all_ext}
use Rattle.definitions.proofs.Orders.{word_before, word_self}
use Rattle.definitions.proofs.Rows.{filled_cell, agree_at}
use Rattle.definitions.proofs.Subsumption.{subsumes_keeps}
use Rattle.definitions.proofs.Complementing.{complement_is}
use Rattle.definitions.proofs.Joined.{joined_takes}
use Rattle.definitions.proofs.Minimum.{minimum_is}
use Rattle.definitions.proofs.Unions.{rows_rise}
use Rattle.definitions.proofs.Reading.{records_count}
use Rattle.definitions.proofs.MaximalRows.{rows_maximal}
use Rattle.definitions.proofs.Cells.{none_text}
use Rattle.definitions.proofs.Pages.{no_cell_is_lost}
use Rattle.definitions.proofs.TablePasses.{union_cells}
use Rattle.definitions.proofs.FusedPasses.{fused_cells}

-- ---- the word

-- "number 7 is given for a cell that is neither zero, nor of kind 1, nor this word"
pub cell_is : (w : ℕ) → (is_cell w ≡ true) ↔ ((w ≡ 0) ⊎ ((kind_of w ≡ 1) ⊎ (w ≡ none)))
cell_is w = (
  λ e. ⊎_elim
      (λ p. ⊎_elim (λ q. inl (eqb-true w 0 q)) (λ q. inr (inl (eqb-true (kind_of w) 1 q))) (or_cases (eqb w 0) (eqb (kind_of w) 1) p))
      (λ p. inr (inr (eqb-true w none p)))
      (or_cases (eqb w 0 || eqb (kind_of w) 1) (eqb w none) e),
  λ h. ⊎_elim
      (λ q. or_left (eqb w 0 || eqb (kind_of w) 1) (eqb w none) (or_left (eqb w 0) (eqb (kind_of w) 1) (eq-eqb w 0 q)))
      (λ p. ⊎_elim
      (λ q. or_left (eqb w 0 || eqb (kind_of w) 1) (eqb w none) (or_right (eqb w 0) (eqb (kind_of w) 1) (eq-eqb (kind_of w) 1 q)))
      (λ q. or_right (eqb w 0 || eqb (kind_of w) 1) (eqb w none) (eq-eqb w none q)) p)
      h,
)

pub none_is_cell : is_cell none ≡ true
none_is_cell = (cell_is none).1 (inr (inr refl))

-- "It is filled"
pub none_is_filled : is_filled none ≡ true
none_is_filled = refl

none_filled : Filled none
none_filled = filled_cell none none_is_filled

-- "sorts after every number", and after the empty cell: it is the last of the cells
pub none_last : (w : ℕ) → is_cell w ≡ true → (w ≡ none → ⊥) → compare_word w none ≡ Less
none_last w e other =
    word_before w none (⊎_elim (λ q. omega (arith, q)) (λ p. ⊎_elim (λ q. omega (arith, q)) (λ q. absurd (other q)) p) ((cell_is w).0 e))

-- and so of two rows, in the first column in which they differ
pub none_last_row : (front s t : List ℕ) (w : ℕ) → is_cell w ≡ true → (w ≡ none → ⊥) → compare_row (front ++ (w ∷ s)) (front ++ (none ∷ t)) ≡ Less
unfolding compare_row
none_last_row [] s t w e other = rw (none_last w e other) refl
none_last_row (x ∷ front) s t w e other = rw (word_self x) (none_last_row front s t w e other)

-- ---- "equals only itself"

-- of two rows that agree, the other has `none` too, or is empty there
pub none_agrees : (s t : List ℕ) (k : ℕ) → agree s t ≡ true → get_or s k 0 ≡ none → (get_or t k 0 ≡ none) ⊎ (get_or t k 0 ≡ 0)
none_agrees s t k e h =
    ⊎_elim (λ q. inl (sym q ∙ h)) (λ p. ⊎_elim (λ q. absurd (none_filled (sym h ∙ q))) (λ q. inr q) p) (agree_at s t e k)

-- a row that subsumes another has `none` where that has it
pub none_subsumed : (s t : List ℕ) (k : ℕ) → subsumes s t ≡ true → get_or t k 0 ≡ none → get_or s k 0 ≡ none
none_subsumed s t k = subsumes_keeps s t k none none_filled

-- ---- "It can be the shared cell of two complementing rows"

pub none_shared : (columns s t : List ℕ) (k : ℕ) → Counts columns k → get_or s k 0 ≡ none → get_or t k 0 ≡ none
    → agree s t ≡ true → (s ≡ t → ⊥) → subsumes s t ≡ false → subsumes t s ≡ false → complement columns s t ≡ true
none_shared columns s t k counts h g agreeing different first second =
    (complement_is columns s t).1 record {
      agreeing = agree_at s t agreeing;
      different = different;
      not_subsuming = first;
      not_subsumed = second;
      sharing = (k, counts, (λ e. none_filled (sym h ∙ e)), h ∙ sym g);
    }

-- ---- "a joined row takes it from a member as it takes a number"

-- the fused row of a listed set, of a done call
pub joined_rows_take : JoinedRowsTake
unfolding MeetsDemand3
joined_rows_take a b table sets values table_after sets_after call k column w h filled =
    let columns = union_columns a b in
    let T = union_rows a b in
    let d : Demand3 columns T table_after sets_after = call.demand values refl in
    let s : List Bool = get_or (listed_sets T sets_after) k [] in
    let within : k < length (listed_sets T sets_after) =
    omega (
      arith,
      h,
      length-map (records_in mark_words sets_after) (λ words. take (length T) (set_in mark_words words)),
      records_count mark_words sets_after,
    ) in
    let listed = (d.exactly s).0 (member-get [] (listed_sets T sets_after) k within) in
    let c = (rows_maximal columns T (rows_rise a b) s listed).complementing in
    subst (λ (row : List ℕ). (get_or row column 0 ≡ w) ↔ ((r : List ℕ) × Member r (members T s) × (get_or r column 0 ≡ w)))
    (sym (d.with_its_row k h).1) (joined_takes columns T s c column w filled)

-- ---- "Listings and pages show `none`"

pub none_is_shown : NoneIsShown
none_is_shown image p row column r c e =
    let i = no_cell_is_lost image p row column r c in (
      i.0,
      λ bytes answer bytes_after room promise.
          let s = i.1 bytes answer bytes_after room promise in
          (s.0, s.1, s.1.cell ∙ ap (flush_right cell_width) (none_text _ e)),
    )

-- ---- tables without `none`

question_as_before : (image : List ℕ) → WithoutNone (cell_words image) → cells_right image ≡ cells_before image
question_as_before image h =
    all_ext is_cell cell_before (cell_words image)
    (λ w m. or_none (cell_before w) (eqb w none) (not-true (eqb w none) (all_true (λ w. not (eqb w none)) (cell_words image) h w m)))

text_as_before : (w : ℕ) → (w ≡ none → ⊥) → cell_text w ≡ text_before w
unfolding cell_text
text_as_before w h = rw (ne_eqb w none h) refl

pub cells_as_before : (a b : List ℕ) → WithoutNone (cell_words a) → WithoutNone (cell_words b) → CellsAsBefore a b
cells_as_before a b first second =
    let other : ℕ → Bool = λ w. not (eqb w none) in
    let union : (r : List ℕ) → Member r (union_rows a b) → WithoutNone r = union_cells other refl a b first second in
    record {
      first_cells = question_as_before a first;
      second_cells = question_as_before b second;
      outer = union;
      minimum = λ r m. union r ((minimum_is (union_rows a b) r).0 m).0;
      fused = fused_cells other (union_columns a b) (union_rows a b) union;
      text = text_as_before;
    }
