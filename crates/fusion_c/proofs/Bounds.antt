-- The counts of a done answer fit words of 32 bits: by the limits on columns, rows and sets. Assumes nothing.
use mathlib.Core.Path.{◌≡◌, refl, sym, subst}
use mathlib.Core.List.{List, [], ◌∷◌, flatten}
use Prim.Native.Nat.{ℕ, ◌+◌, ◌-◌, ◌*◌, ◌^◌, ◌≤◌, ◌<◌}
use native.Mathlib.Nat.{mul-le-mul}
use native.Mathlib.Omega.{arith}
use lib.ListN.{length, length-append}
use Rattle.definitions.specs.Limits.{max_columns, max_union_rows, max_sets}
use Rattle.definitions.specs.Word.{is_filled}
use Rattle.definitions.specs.Image.{image_of}
use Rattle.definitions.specs.OuterUnion.{union_columns, union_rows}
use Rattle.definitions.specs.MinimumUnion.{filled, minimum_rows}
use Rattle.definitions.specs.ComplementUnion.{fused_rows}
use Rattle.definitions.specs.Answer.{Outcome, done, refused}
use Rattle.definitions.specs.Calls.{outer_image, minimum_image, fused_image, outer_outcome, minimum_outcome, complement_outcome}
use Rattle.definitions.specs.ReadBack.{read_outcome}
use Rattle.definitions.specs.Page.{page_outcome}
use Rattle.definitions.proofs.Bools.{bool_cases}
use Rattle.definitions.proofs.Counts.{fused_count, minimum_count, pairs_bound, set_list-length}
use Rattle.definitions.proofs.Images.{accepted_rows}
use Rattle.definitions.proofs.Outcomes.{outer_done, minimum_done, complement_done}
use Rattle.definitions.proofs.ReadOutcome.{read_done}
use Rattle.definitions.proofs.WrittenAgain.{accepted_form}
use Rattle.definitions.proofs.ReadBound.{read_words_bound}
use Rattle.definitions.proofs.UnionColumns.{columns_few}
use Rattle.definitions.proofs.Unions.{outer_length, minimum_length, fused_length}
use Rattle.definitions.proofs.Pages.{few_pages, page_done}
use Rattle.fusion_c.specs.Words.{FitWords, CountsFit}

filled_few : (s : List ℕ) → filled s ≤ length s
unfolding filled
filled_few [] = omega arith
filled_few (x ∷ s) =
    let i = filled_few s in
    bool_cases (is_filled x) (λ e. rw e (omega arith)) (λ e. rw e (omega arith))

-- no more filled cells than words
image_filled : (columns : List ℕ) (rows : List (List ℕ)) → filled (flatten rows) ≤ length (image_of columns rows)
unfolding image_of
image_filled columns rows =
    let i = filled_few (flatten rows) in
    let w = length-append columns (flatten rows) in
    omega arith

-- an image of at most 16 columns and 1,024 rows
few_words : (columns rows words : ℕ) → columns ≤ max_columns → rows ≤ max_sets → words ≡ 1 + columns + rows * columns → words < 2 ^ 32
few_words columns rows words h k e =
    let p = mul-le-mul k h in
    omega arith

-- the counts of an answer fit if its values do, where it is done
fits : (answer : Outcome) → ((values : List ℕ) → answer ≡ done values → FitWords values) → CountsFit answer
fits (done values) carried = carried values refl
fits (refused number table) carried = tt

module _ (a b : List ℕ) where
  pub outer_fits : (room : ℕ) → CountsFit (outer_outcome a b room)
  unfolding outer_image
  outer_fits room = fits _ λ values e.
      let d = (outer_done a b room values).0 e in
      let n = accepted_rows a b d.accepted in
      let w = few_words (length (union_columns a b)) (length (union_rows a b)) _ (columns_few a b d.accepted) (omega arith) (outer_length a b) in
      let f = image_filled (union_columns a b) (union_rows a b) in
      subst FitWords (sym d.carries) (omega arith, (w, (omega arith, tt)))

  pub minimum_fits : (room : ℕ) → CountsFit (minimum_outcome a b room)
  unfolding minimum_image
  minimum_fits room = fits _ λ values e.
      let d = (minimum_done a b room values).0 e in
      let n = accepted_rows a b d.accepted in
      let m = minimum_count (union_rows a b) in
      let w = few_words (length (union_columns a b)) (length (minimum_rows (union_rows a b))) _ (columns_few a b d.accepted) (omega arith) (minimum_length a b) in
      let f = image_filled (union_columns a b) (minimum_rows (union_rows a b)) in
      let p = pairs_bound (union_rows a b) in
      let o : length (union_rows a b) - 1 ≤ max_union_rows = omega arith in
      let q = mul-le-mul n o in
      subst FitWords (sym d.carries) (omega arith, (w, (omega arith, (omega arith, tt))))

  pub complement_fits : (room sets_room : ℕ) → CountsFit (complement_outcome a b room sets_room)
  unfolding fused_image
  complement_fits room sets_room = fits _ λ values e.
      let d = (complement_done a b room sets_room values).0 e in
      let s = d.few_sets in
      let n = fused_count (union_columns a b) (union_rows a b) in
      let w = few_words (length (union_columns a b)) (length (fused_rows (union_columns a b) (union_rows a b))) _ (columns_few a b d.accepted) (omega arith) (fused_length a b) in
      let f = image_filled (union_columns a b) (fused_rows (union_columns a b) (union_rows a b)) in
      let l = set_list-length (union_columns a b) (union_rows a b) in
      subst FitWords (sym d.carries) (omega arith, (w, (omega arith, (omega arith, (omega arith, tt)))))

pub read_fits : (list : List ℕ) (rows room : ℕ) → CountsFit (read_outcome list rows room)
read_fits list rows room = fits _ λ values e.
    let d = (read_done list rows room values).0 e in
    let n = (accepted_form d.accepted).few_sets in
    let w = read_words_bound d.accepted in
    subst FitWords (sym d.carries) (omega arith, (omega arith, tt))

pub page_fits : (image : List ℕ) (n room : ℕ) → CountsFit (page_outcome image n room)
page_fits image n room = fits _ λ values e.
    let d = (page_done image n room values).0 e in
    let w = few_pages image d.accepted in
    subst FitWords (sym d.carries) (omega arith, tt)

-- of the five calls
pub ruleset counts_fit = (outer_fits, minimum_fits, complement_fits, read_fits, page_fits)
