-- The text of `fuse` and of `fuse_pages` is never longer than a number over the limits, so that a buffer of that length takes every output whole. Assumes
-- nothing.
use mathlib.Core.Path.{◌≡◌, refl, ◌∙◌, ap}
use mathlib.Core.Bool.{Bool, true, false}
use mathlib.Core.Logic.{⊎_elim}
use mathlib.Core.List.{List, [], ◌∷◌, ◌++◌, map, flatten}
use Prim.Native.Nat.{ℕ, zero, suc, ◌+◌, ◌*◌, ◌-◌, ◌%◌, ◌^◌, ◌≤◌, ◌<◌}
use native.Mathlib.Nat.{mul-le-mul}
use native.Mathlib.Omega.{arith}
use lib.Dec.{eqb, leb}
use lib.ListN.{length, take, length-append, length-map}
use Rattle.definitions.specs.Limits.{max_columns, max_rows, max_union_rows, max_sets, max_stored_rows}
use Rattle.definitions.specs.Lists.{tabulate}
use Rattle.definitions.specs.OuterUnion.{union_ids, union_columns, union_rows}
use Rattle.definitions.specs.MinimumUnion.{filled, minimum_rows, pairs_tried}
use Rattle.definitions.specs.ComplementUnion.{union_sets, fused_rows}
use Rattle.definitions.specs.SetList.{fused_position, set_list}
use Rattle.definitions.specs.Questions.{ask, has_header, columns_fit, rows_fit, length_fits}
use Rattle.definitions.specs.Questions.{columns_right, ids_distinct, cells_right, image_number}
use Rattle.definitions.specs.Answer.{Outcome, done, refused, unless, no}
use Rattle.definitions.specs.Calls.{pair_outcome, fused_image, complement_outcome}
use Rattle.definitions.specs.Reading.{positions_of}
use Rattle.definitions.specs.Text.{ascii}
use Rattle.definitions.specs.Listing.{line, columns_line, union_title, minimum_title, sets_title, fused_title}
use Rattle.definitions.specs.Listing.{row_line, set_line}
use Rattle.definitions.specs.Program.{row_lines, set_lines, union_text, minimum_text, sets_text, fused_text, listing}
use Rattle.definitions.specs.Program.{max_bytes, words_of, lent_table, lent_sets, unless_refused, unions_text, read_text, whole_text}
use Rattle.definitions.specs.Outputs.{printed, whole_output}
use Rattle.definitions.specs.Program.{row_bytes, set_bytes, max_text}
use Rattle.definitions.specs.Statements.{Member}
use Rattle.definitions.specs.Claims.{Passed, ComplementDone}
use Rattle.definitions.specs.Page.{page_count, page, all_pages, page_bytes}
use Rattle.definitions.specs.declared.Output.{Output}
use Rattle.definitions.specs.declared.Output.TheVariants.{Listing, Pages}
use Rattle.definitions.proofs.Bools.{bool_cases}
use Rattle.definitions.proofs.Subsumption.{filled-empties}
use Rattle.definitions.proofs.Counts.{flatten-length, fused_count, minimum_count, pairs_bound}
use Rattle.definitions.proofs.Unions.{columns_count, rows_even, minimum_even, fused_even}
use Rattle.definitions.proofs.Outcomes.{complement_done}
use Rattle.definitions.proofs.Images.{accepted_rows}
use Rattle.definitions.proofs.Reading.{listed_length, listed_position}
use Rattle.definitions.proofs.UnionColumns.{small_ids, columns_few}
use Rattle.definitions.proofs.Lines.{at_most_map, flatten_bound, title_bound, row_bound, refused_bound}
use Rattle.definitions.proofs.Lines.{set_bound}
use Rattle.definitions.proofs.Positions.{positions_within, positions_count}
use Rattle.definitions.proofs.Tabulate.{tabulate-length, tabulate-member}
use Rattle.definitions.proofs.FusedPasses.{fused_passes}
use Rattle.definitions.proofs.Pages.{page-length, few_pages}

-- ---- the listing of an accepted pair

-- the rows of a table of c columns
module _ (c : ℕ) (rows : List (List ℕ)) (even : (r : List ℕ) → Member r rows → length r ≡ c) (few : c ≤ max_columns) where
  rows_bound : length (row_lines rows) ≤ row_bytes * length rows
  rows_bound =
      let short = at_most_map row_bytes row_line rows (λ r s. omega (arith, row_bound r, even r s)) in
      omega (arith, flatten_bound row_bytes (map row_line rows) short, length-map rows row_line)

  -- the number of filled cells is one of at most five digits
  filled_small : length rows ≤ max_sets → filled (flatten rows) < 10 ^ 5
  filled_small most = omega (arith, filled-empties (flatten rows), flatten-length c rows even, mul-le-mul most few)

two : (x y : ℕ) → x < 10 ^ 5 → y < 10 ^ 5 → (z : ℕ) → Member z (x ∷ y ∷ []) → z < 10 ^ 5
two x y p q z h = ⊎_elim (λ e. omega arith) (λ k. ⊎_elim (λ e. omega arith) (λ n. absurd n) k) h

module _ (a b : List ℕ) (room sets_room : ℕ) (values : List ℕ) (d : ComplementDone a b room sets_room values) where
  abbrev columns : List ℕ
  columns = union_columns a b

  abbrev T : List (List ℕ)
  T = union_rows a b

  abbrev c : ℕ
  c = length columns

  union_bound : length (union_text a b) ≤ 104 + 18 + row_bytes * max_union_rows
  unfolding union_text
  union_bound =
      let few = columns_few a b d.accepted in
      let rows = accepted_rows a b d.accepted in
      let count = columns_count a b in
      let ids = title_bound (ascii "columns") (union_ids a b) (λ id s. omega (arith, small_ids a b id s)) in
      let title = title_bound (ascii "union") (length T ∷ filled (flatten T) ∷ [])
      (two (length T) (filled (flatten T)) (omega arith) (filled_small c T (rows_even a b) few (omega arith))) in
      omega (
        arith,
        length-append (columns_line (union_ids a b)) (union_title (length T) (filled (flatten T)) ++ row_lines T),
        length-append (union_title (length T) (filled (flatten T))) (row_lines T),
        rows_bound c T (rows_even a b) few,
      )

  minimum_bound : length (minimum_text a b) ≤ 26 + row_bytes * max_union_rows
  unfolding minimum_text
  minimum_bound =
      let few = columns_few a b d.accepted in
      let most = accepted_rows a b d.accepted in
      let M = minimum_rows T in
      let fewer = minimum_count T in
      let less : length T - 1 ≤ max_union_rows = omega arith in
      let pairs : pairs_tried T < 10 ^ 5 = omega (arith, pairs_bound T, mul-le-mul most less) in
      let numbers : (n : ℕ) → Member n (length M ∷ filled (flatten M) ∷ pairs_tried T ∷ []) → n < 10 ^ 5 =
      λ n h. ⊎_elim (λ e. omega arith)
      (two (filled (flatten M)) (pairs_tried T) (filled_small c M (minimum_even a b) few (omega arith)) pairs n) h in
      let title = title_bound (ascii "minimum") (length M ∷ filled (flatten M) ∷ pairs_tried T ∷ []) numbers in
      omega (arith, length-append (minimum_title (length M) (filled (flatten M)) (pairs_tried T)) (row_lines M), rows_bound c M (minimum_even a b) few)

  sets_bound : length (sets_text a b) ≤ 11 + set_bytes * max_sets
  unfolding sets_text
  sets_bound =
      let rows = accepted_rows a b d.accepted in
      let few = d.few_sets in
      let sets = union_sets columns T in
      let title = title_bound (ascii "sets") (length sets ∷ []) (λ n h. ⊎_elim (λ e. omega arith) (λ k. absurd k) h) in
      let one : (s : List Bool) → Member s sets → length (set_line (positions_of 0 s) (fused_position columns T s)) ≤ set_bytes =
      λ s h.
      let size = listed_length columns T [] s h in
      let small : (p : ℕ) → Member p (positions_of 0 s) → p < 10 ^ 2 = λ p k. omega (arith, (positions_within 0 s p k).1) in
      let place = set_bound (positions_of 0 s) (fused_position columns T s) small (omega (arith, listed_position columns T [] few s h)) in
      omega (arith, place, positions_count 0 s) in
      let line_of : List Bool → List ℕ = λ s. set_line (positions_of 0 s) (fused_position columns T s) in
      let lines = flatten_bound set_bytes (map line_of sets) (at_most_map set_bytes line_of sets one) in
      omega (arith, length-append (sets_title (length sets)) (set_lines columns T sets), lines, length-map sets line_of)

  fused_bound : length (fused_text a b) ≤ 18 + row_bytes * max_sets
  unfolding fused_text
  fused_bound =
      let few = columns_few a b d.accepted in
      let F = fused_rows columns T in
      let even = fused_even columns T c (rows_even a b) in
      let most : length F ≤ max_sets = omega (arith, fused_count columns T, d.few_sets) in
      let title = title_bound (ascii "fused") (length F ∷ filled (flatten F) ∷ [])
      (two (length F) (filled (flatten F)) (omega arith) (filled_small c F even few most)) in
      omega (arith, length-append (fused_title (length F) (filled (flatten F))) (row_lines F), rows_bound c F even few)

  pub listing_bound : length (listing a b) ≤ max_text
  unfolding listing
  listing_bound =
      omega (
        arith,
        union_bound,
        minimum_bound,
        sets_bound,
        fused_bound,
        length-append (union_text a b) (minimum_text a b ++ (sets_text a b ++ fused_text a b)),
        length-append (minimum_text a b) (sets_text a b ++ fused_text a b),
        length-append (sets_text a b) (fused_text a b),
      )

-- ---- the pages of a table

pub pages_length : (image : List ℕ) → length (all_pages image) ≡ page_count image * page_bytes
unfolding all_pages
pages_length image =
    flatten-length page_bytes (tabulate (page_count image) (page image))
    (λ r h. let i = tabulate-member (page_count image) (page image) r h in ap length i.1 ∙ page-length image i.0)
    ∙ ap (λ (k : ℕ). k * page_bytes) (tabulate-length (page_count image) (page image))

pages_bound : (image : List ℕ) → Passed max_stored_rows image → length (all_pages image) ≤ max_text
pages_bound image p = omega (arith, pages_length image, few_pages image p)

-- ---- a refusal has a number and a table of one or two digits

abbrev pub SmallRefusal : Outcome → Type 0
SmallRefusal (done values) = Unit {0}
SmallRefusal (refused number table) = (number ≤ 11) × (table ≤ 2)

small_unless : (number table : ℕ) (rest : Outcome) → number ≤ 11 → table ≤ 2 → SmallRefusal rest → SmallRefusal (unless number table rest)
small_unless zero table rest h k s = s
small_unless (suc number) table rest h k s = (h, k)

small_no : (yes : Bool) (number : ℕ) → number ≤ 11 → no yes number ≤ 11
small_no true number h = omega arith
small_no false number h = h

small_ask : (yes : Bool) (number rest : ℕ) → number ≤ 11 → rest ≤ 11 → ask yes number rest ≤ 11
small_ask true number rest h k = k
small_ask false number rest h k = h

small_image : (limit : ℕ) (image : List ℕ) → image_number limit image ≤ 11
unfolding image_number
small_image limit image =
    small_ask (has_header image) 1 _ (omega arith)
    (small_ask (columns_fit image) 2 _ (omega arith)
    (small_ask (rows_fit limit image) 3 _ (omega arith)
    (small_ask (length_fits image) 4 _ (omega arith)
    (small_ask (columns_right image) 5 _ (omega arith)
    (small_ask (ids_distinct image) 6 _ (omega arith)
    (small_ask (cells_right image) 7 0 (omega arith) (omega arith)))))))

pub small_refusal : (a b : List ℕ) (room sets_room : ℕ) → SmallRefusal (complement_outcome a b room sets_room)
unfolding complement_outcome fused_image pair_outcome
small_refusal a b room sets_room =
    small_unless (image_number max_rows a) 0 _ (small_image max_rows a) (omega arith)
    (small_unless (image_number max_rows b) 1 _ (small_image max_rows b) (omega arith)
    (small_unless _ 2 _ (small_no (leb (length (union_ids a b)) max_columns) 8 (omega arith)) (omega arith)
    (small_unless _ 2 _ (small_no (leb (length (union_sets (union_columns a b) (union_rows a b))) max_sets) 9 (omega arith)) (omega arith)
    (small_unless _ 2 _ (small_no (leb (length (fused_image a b)) room) 10 (omega arith)) (omega arith)
    (small_unless _ 2 _ (small_no (leb (length (set_list (union_columns a b) (union_rows a b))) sets_room) 11 (omega arith)) (omega arith) tt)))))

-- ---- the whole text

answered_bound : (output : Output) (a b : List ℕ) (o : Outcome) → complement_outcome a b lent_table lent_sets ≡ o → SmallRefusal o
    → length (unless_refused o (printed output a b)) ≤ max_text
answered_bound Listing a b (done values) e s = listing_bound a b lent_table lent_sets values ((complement_done a b lent_table lent_sets values).0 e)
answered_bound Pages a b (done values) e s =
    pages_bound (fused_image a b) (fused_passes a b lent_table lent_sets values ((complement_done a b lent_table lent_sets values).0 e))
answered_bound output a b (refused number table) e s = omega (arith, refused_bound number table (omega (arith, s.0)) (omega (arith, s.1)))

pub unions_bound : (output : Output) (a b : List ℕ) → length (unions_text (printed output) a b) ≤ max_text
unfolding unions_text
unions_bound output a b = answered_bound output a b (complement_outcome a b lent_table lent_sets) refl (small_refusal a b lent_table lent_sets)

pub read_bound : (output : Output) (board plant : List ℕ) → length (read_text (printed output) board plant) ≤ max_text
unfolding read_text line
read_bound output board plant =
    bool_cases (eqb (length board % 4) 0)
    (λ e. rw e
    (bool_cases (eqb (length plant % 4) 0)
    (λ f. rw f (unions_bound output (words_of board) (words_of plant)))
    (λ f. rw f (omega arith))))
    (λ e. rw e (omega arith))

-- no output is longer
pub output_bound : (output : Output) (board plant : List ℕ) → length (whole_output output board plant) ≤ max_text
unfolding whole_text
output_bound output board plant = read_bound output (take max_bytes board) (take max_bytes plant)
