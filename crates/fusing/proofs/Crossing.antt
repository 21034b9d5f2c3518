-- The rows that cross a row, column by column: what the words hold of each row. Assumes nothing.
use mathlib.Core.Path.{◌≡◌, refl, sym, ◌∙◌, ap, ap₂, subst}
use mathlib.Core.Bool.{Bool, true, false, cond, not, ◌&&◌, ◌||◌, or-false}
use mathlib.Core.List.{List, []}
use Prim.Native.Nat.{ℕ, ◌+◌, ◌-◌, ◌^◌, ◌<◌, ◌≤◌}
use native.Mathlib.Omega.{arith}
use lib.Bits.{bit_and, bit_or, and_le_l}
use lib.ListN.{length, get_or, drop, set as replace}
use lib.Seq.{get_or-set_same, get_or-set_other}
use borrow.Author.Count.{below_more}
use Rattle.std.proofs.lemmas.List.{drop_more, drop_all}
use Rattle.definitions.specs.Word.{is_filled}
use Rattle.definitions.specs.ComplementUnion.{agree, counted_cells, complement}
use Rattle.definitions.proofs.Patterns.{only}
use Rattle.definitions.specs.Claims.{counts_column}
use Rattle.definitions.proofs.Counted.{counted_at, counted_length}
use Rattle.definitions.proofs.Images.{rows_length}
use Rattle.lists.proofs.Flat.{rows_at_lem}
use Rattle.bitsets.specs.Bits.{word_bits, has, both, rows_below}
use Rattle.bitsets.proofs.Bits.{has_both, has-or, has_none, below_in}
use Rattle.patterns.specs.Columns.{blank_of, filled_in, ColumnsOf}
use Rattle.patterns.proofs.FilledRows.{filled-has, has_blank, blank_fits}
use Rattle.patterns.proofs.Parts.{row_length}
use Rattle.fusing.specs.declared.union_rows.UnionRows.{UnionRows}
use Rattle.fusing.specs.UnionRows.{rows_of}
use Rattle.fusing.specs.Graph.{CountedColumns, Seen, CrossingOf, Crossing}
use Rattle.fusing.proofs.Words.{has_lacked}
use Rattle.fusing.proofs.Apart.{both_in, complement-filled}

-- ---- one row t, of index k, and the row s: i columns are passed

-- in `shared` only the cells are looked at that condition (3) counts
pub record Passed (words s t : List ℕ) (k i shared above within : ℕ) : Type 0 where
  pub shares : (has shared k || both_in (drop i (counted_cells words s)) (drop i (counted_cells words t))) ≡ both_in (counted_cells words s) (counted_cells words t)
  pub first : (not (has above k) || only (drop i s) (drop i t)) ≡ only s t
  pub second : (not (has within k) || only (drop i t) (drop i s)) ≡ only t s

-- n: the column counts
share_case : (a n x y b : Bool) → ((a || ((n && y) && not (not x))) || b) ≡ (a || (((n && x) && (n && y)) || b))
share_case true n x y b = refl
share_case false false x y b = refl
share_case false true true true b = refl
share_case false true true false b = refl
share_case false true false true b = refl
share_case false true false false b = refl

first_case : (a x y b : Bool) → (not (a && (y || not x)) || b) ≡ (not a || ((x && not y) || b))
first_case false x y b = refl
first_case true true true b = refl
first_case true true false b = refl
first_case true false true b = refl
first_case true false false b = refl

second_case : (a x y b : Bool) → (not (a && not (y && not x)) || b) ≡ (not a || ((y && not x) || b))
second_case false x y b = refl
second_case true true true b = refl
second_case true true false b = refl
second_case true false true b = refl
second_case true false false b = refl

told_case : (b x y g : Bool) → (x && (y && (b && g))) ≡ (((b && x) && y) && g)
told_case true true true g = refl
told_case true true false g = refl
told_case true false y g = refl
told_case false true true g = refl
told_case false true false g = refl
told_case false false y g = refl

-- a word, and a cell, that is left out where the column does not count
has_counted : (n : Bool) (w k : ℕ) → has (cond n w 0) k ≡ (n && has w k)
has_counted true w k = refl
has_counted false w k = has_none k

filled_counted : (n : Bool) (x : ℕ) → is_filled (cond n x 0) ≡ (n && is_filled x)
filled_counted true x = refl
filled_counted false x = refl

module _ (words s t : List ℕ) (k : ℕ) (same : length s ≡ length t) (wide : length s ≡ length words) (small : k < word_bits) where
  -- the cells that count
  abbrev u : List ℕ
  u = counted_cells words s

  abbrev v : List ℕ
  v = counted_cells words t

  u_length : length u ≡ length s
  u_length = counted_length words s (omega arith)

  v_length : length v ≡ length t
  v_length = counted_length words t (omega arith)

  pub passed_none : Passed words s t k 0 0 18446744073709551615 18446744073709551615
  unfolding rows_below
  passed_none =
      let all : has (rows_below word_bits) k ≡ true = below_in word_bits k small in
      record {
        shares = ap (λ (b : Bool). b || both_in u v) (has_none k);
        first = ap (λ (b : Bool). not b || only s t) all;
        second = ap (λ (b : Bool). not b || only t s) all;
      }

  -- the next column, whose words hold what the cells say
  module _ (i shared above within : ℕ) (p : Passed words s t k i shared above within) (filled counted empty : ℕ) (more : i < length s)
      (fits : filled < 2 ^ word_bits) (fits_empty : empty < 2 ^ word_bits) (f : has filled k ≡ is_filled (get_or t i 0))
      (n : has counted k ≡ (counts_column words i && is_filled (get_or t i 0))) (e : has empty k ≡ not (is_filled (get_or s i 0))) where
    shared_more : (has (bit_or shared (bit_and counted (2 ^ word_bits - 1 - empty))) k || both_in (drop (i + 1) u) (drop (i + 1) v)) ≡ both_in u v
    unfolding both both_in
    shared_more =
        let rest = both_in (drop (i + 1) u) (drop (i + 1) v) in
        let x : is_filled (get_or u i 0) ≡ (counts_column words i && is_filled (get_or s i 0)) =
        ap is_filled (counted_at words s i) ∙ filled_counted (counts_column words i) (get_or s i 0) in
        let y : is_filled (get_or v i 0) ≡ (counts_column words i && is_filled (get_or t i 0)) =
        ap is_filled (counted_at words t i) ∙ filled_counted (counts_column words i) (get_or t i 0) in
        ap (λ (b : Bool). b || rest)
        (has-or shared (bit_and counted (2 ^ word_bits - 1 - empty)) k
        ∙ ap (λ (b : Bool). has shared k || b)
        (has_both counted (2 ^ word_bits - 1 - empty) k ∙ ap₂ (λ (a b : Bool). a && b) n (has_lacked word_bits empty k fits_empty small ∙ ap not e)))
        ∙ share_case (has shared k) (counts_column words i) (is_filled (get_or s i 0)) (is_filled (get_or t i 0)) rest
        ∙ ap₂ (λ (a b : Bool). has shared k || ((a && b) || rest)) (sym x) (sym y)
        ∙ ap (λ (b : Bool). has shared k || b)
        (sym (ap₂ both_in (drop_more u i 0 (omega (arith, u_length))) (drop_more v i 0 (omega (arith, v_length)))))
        ∙ p.shares

    first_more : (not (has (bit_and above (bit_or filled empty)) k) || only (drop (i + 1) s) (drop (i + 1) t)) ≡ only s t
    unfolding both only
    first_more =
        let rest = only (drop (i + 1) s) (drop (i + 1) t) in
        ap (λ (b : Bool). not b || rest)
        (has_both above (bit_or filled empty) k
        ∙ ap (λ (b : Bool). has above k && b) (has-or filled empty k ∙ ap₂ (λ (a b : Bool). a || b) f e))
        ∙ first_case (has above k) (is_filled (get_or s i 0)) (is_filled (get_or t i 0)) rest
        ∙ ap (λ (b : Bool). not (has above k) || b) (sym (ap₂ only (drop_more s i 0 more) (drop_more t i 0 (omega arith))))
        ∙ p.first

    second_more : (not (has (bit_and within (2 ^ word_bits - 1 - bit_and filled empty)) k) || only (drop (i + 1) t) (drop (i + 1) s)) ≡ only t s
    unfolding both only
    second_more =
        let rest = only (drop (i + 1) t) (drop (i + 1) s) in
        let fit : bit_and filled empty < 2 ^ word_bits = omega (arith, and_le_l filled empty) in
        ap (λ (b : Bool). not b || rest)
        (has_both within (2 ^ word_bits - 1 - bit_and filled empty) k
        ∙ ap (λ (b : Bool). has within k && b)
        (has_lacked word_bits (bit_and filled empty) k fit small ∙ ap not (has_both filled empty k ∙ ap₂ (λ (a b : Bool). a && b) f e)))
        ∙ second_case (has within k) (is_filled (get_or s i 0)) (is_filled (get_or t i 0)) rest
        ∙ ap (λ (b : Bool). not (has within k) || b) (sym (ap₂ only (drop_more t i 0 (omega arith)) (drop_more s i 0 more)))
        ∙ p.second

    pub passed_more : Passed words s t k (i + 1) (bit_or shared (bit_and counted (2 ^ word_bits - 1 - empty))) (bit_and above (bit_or filled empty))
        (bit_and within (2 ^ word_bits - 1 - bit_and filled empty))
    passed_more = record { shares = shared_more; first = first_more; second = second_more }

  -- all columns are passed
  passed_told : (i shared above within : ℕ) → length s ≤ i → above < 2 ^ word_bits → within < 2 ^ word_bits → Passed words s t k i shared above within
      → complement words s t ≡ (has (bit_and (bit_and shared (2 ^ word_bits - 1 - above)) (2 ^ word_bits - 1 - within)) k && agree s t)
  unfolding both both_in only
  passed_told i shared above within all fa fw p =
      let es : drop i s ≡ [] = drop_all i s all in
      let et : drop i t ≡ [] = drop_all i t (omega arith) in
      let eu : drop i u ≡ [] = drop_all i u (omega (arith, u_length)) in
      let ev : drop i v ≡ [] = drop_all i v (omega (arith, v_length)) in
      let sh : has shared k ≡ both_in u v = sym (ap₂ (λ (x y : List ℕ). has shared k || both_in x y) eu ev ∙ or-false (has shared k)) ∙ p.shares in
      let fi : not (has above k) ≡ only s t = sym (ap₂ (λ (x y : List ℕ). not (has above k) || only x y) es et ∙ or-false (not (has above k))) ∙ p.first in
      let se : not (has within k) ≡ only t s = sym (ap₂ (λ (x y : List ℕ). not (has within k) || only x y) et es ∙ or-false (not (has within k))) ∙ p.second in
      let two : has (bit_and shared (2 ^ word_bits - 1 - above)) k ≡ (both_in u v && only s t) =
      has_both shared (2 ^ word_bits - 1 - above) k ∙ ap₂ (λ (a b : Bool). a && b) sh (has_lacked word_bits above k fa small ∙ fi) in
      let three : has (bit_and (bit_and shared (2 ^ word_bits - 1 - above)) (2 ^ word_bits - 1 - within)) k ≡ ((both_in u v && only s t) && only t s) =
      has_both (bit_and shared (2 ^ word_bits - 1 - above)) (2 ^ word_bits - 1 - within) k ∙ ap₂ (λ (a b : Bool). a && b) two (has_lacked word_bits within k fw small ∙ se) in
      complement-filled words s t same
      ∙ told_case (both_in u v) (only s t) (only t s) (agree s t)
      ∙ ap (λ (b : Bool). b && agree s t) (sym three)

-- ---- all rows with these columns at once

-- i columns of the row are passed
abbrev pub PassedTo : List ℕ → List ℕ → List ℕ → ℕ → ℕ → ℕ → ℕ → Type 0
PassedTo row columns counted i shared above within =
    (words : List ℕ) (rows : List (List ℕ)) → length words ≡ length row → Seen words rows columns counted → (k : ℕ) → k < length rows
    → Passed words row (get_or rows k []) k i shared above within

-- the loop over the columns: i are passed, and the two words that are inverted at the end fit a word
pub record PassedColumns (row columns counted : List ℕ) (shared above within i : ℕ) : Type 0 where
  pub above_fits : above < 2 ^ word_bits
  pub within_fits : within < 2 ^ word_bits
  pub passed : PassedTo row columns counted i shared above within

module _ (row columns counted : List ℕ) where
  pub passed_start : PassedTo row columns counted 0 0 18446744073709551615 18446744073709551615
  passed_start words rows wide seen k h =
      passed_none words row (get_or rows k []) k (sym (seen.wide k h ∙ wide)) (sym wide) (omega (arith, seen.few))

  module _ (i shared above within : ℕ) where
    pub passed_turn : (filled counts_filled empty : ℕ) → i < length row → filled < 2 ^ word_bits → filled ≡ get_or columns i 0
        → counts_filled ≡ get_or counted i 0 → empty ≡ blank_of (get_or row i 0)
        → PassedTo row columns counted i shared above within
        → PassedTo row columns counted (i + 1) (bit_or shared (bit_and counts_filled (2 ^ word_bits - 1 - empty))) (bit_and above (bit_or filled empty))
        (bit_and within (2 ^ word_bits - 1 - bit_and filled empty))
    passed_turn filled counts_filled empty more fits ef ec ee inv words rows wide seen k h =
        let x = get_or row i 0 in
        let small : k < word_bits = omega (arith, seen.few) in
        let here : i < length words = omega arith in
        let column : get_or columns i 0 ≡ filled_in rows i = seen.filled.words i here in
        let fe : empty < 2 ^ word_bits = rw ee (blank_fits x) in
        let held : has (get_or columns i 0) k ≡ is_filled (get_or (get_or rows k []) i 0) = ap (λ (w : ℕ). has w k) column ∙ filled-has rows i k h in
        passed_more words row (get_or rows k []) k (sym (seen.wide k h ∙ wide)) (sym wide) small i shared above within
        (inv words rows wide seen k h) filled counts_filled empty more fits fe
        (ap (λ (w : ℕ). has w k) ef ∙ held)
        (ap (λ (w : ℕ). has w k) (ec ∙ seen.counting.each i here) ∙ has_counted (counts_column words i) (get_or columns i 0) k
        ∙ ap (λ (b : Bool). counts_column words i && b) held)
        (ap (λ (w : ℕ). has w k) ee ∙ has_blank x k small)

    pub passed_end : length row ≤ i → above < 2 ^ word_bits → within < 2 ^ word_bits → PassedTo row columns counted i shared above within
        → Crossing row columns counted (bit_and (bit_and shared (2 ^ word_bits - 1 - above)) (2 ^ word_bits - 1 - within))
    passed_end all fa fw inv words rows wide seen k h =
        passed_told words row (get_or rows k []) k (sym (seen.wide k h ∙ wide)) (sym wide) (omega (arith, seen.few)) i shared above within all fa fw
        (inv words rows wide seen k h)

-- ---- the rows one after the other, with a cell for each column word

pub rows_seen : (t : UnionRows) (counted : List ℕ) → CountedColumns t.column_words.now t.columns.now counted
    → Seen t.column_words.now (rows_of t) t.columns.now counted
rows_seen t counted m =
    let c = t.rows.width in
    let n = t.rows.len in
    let w = t.rows.cells.now in
    record {
      few = omega (arith, t.few, rows_length c n w);
      wide = λ k h.
          let l : k < n = omega (arith, rows_length c n w) in
          ap length (rows_at_lem c n k w l) ∙ row_length c n k w t.rows.fits l ∙ t.one_cell_each;
      filled = subst (λ (k : ℕ). ColumnsOf (rows_of t) k t.columns.now) t.one_cell_each t.filled;
      counting = m;
    }

-- the words of the first j rows hold the rows that cross them
abbrev pub CrossingTo : List ℕ → List (List ℕ) → List ℕ → ℕ → Type 0
CrossingTo words rows neighbours j = (i : ℕ) → i < j → CrossingOf words rows (get_or rows i []) (get_or neighbours i 0)

module _ (words : List ℕ) (rows : List (List ℕ)) (j : ℕ) (columns counted neighbours row : List ℕ) (set : ℕ) where
  -- the row j is the next
  pub crossing_turn : Seen words rows columns counted → j < length rows → j < length neighbours → row ≡ get_or rows j []
      → Crossing row columns counted set → CrossingTo words rows neighbours j → CrossingTo words rows (replace neighbours j set) (j + 1)
  crossing_turn seen more room e f inv =
      let own : CrossingOf words rows (get_or rows j []) set =
      subst (λ (r : List ℕ). CrossingOf words rows r set) e (f words rows (sym (ap length e ∙ seen.wide j more)) seen) in
      below_more (λ (i : ℕ). CrossingOf words rows (get_or rows i []) (get_or (replace neighbours j set) i 0)) j
      (λ i h. subst (CrossingOf words rows (get_or rows i [])) (sym (get_or-set_other neighbours j i set 0 (λ q. omega arith))) (inv i h))
      (subst (CrossingOf words rows (get_or rows j [])) (sym (get_or-set_same neighbours j set 0 room)) own)
