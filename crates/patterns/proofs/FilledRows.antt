-- The columns' filled rows, row by row and column by column, and the blank word of a cell. Assumes nothing.
use mathlib.Core.Path.{◌≡◌, refl, sym, ◌∙◌, ap, subst}
use mathlib.Core.Bool.{Bool, true, false, not, cond}
use mathlib.Core.List.{List, [], ◌∷◌, ◌++◌, map, map-append}
use Prim.Native.Nat.{ℕ, ◌+◌, ◌*◌, ◌%◌, ◌^◌, ◌<◌, ◌≤◌}
use native.Mathlib.Omega.{arith}
use lib.Bits.{bit_or}
use lib.ListN.{length, get_or, replicate, take, drop, length-map, length-replicate, get_or-replicate}
use Rattle.std.proofs.lemmas.List.{get_or-map}
use Rattle.definitions.proofs.Images.{rows_length}
use Rattle.definitions.specs.Limits.{max_columns}
use Rattle.definitions.specs.Word.{is_filled}
use Rattle.definitions.specs.Image.{rows_in}
use Rattle.definitions.specs.ComplementUnion.{contains}
use Rattle.definitions.specs.SetList.{bits}
use Rattle.definitions.proofs.Bools.{bool_cases}
use Rattle.definitions.proofs.Sets.{contains-get, holds_within}
use Rattle.bitsets.specs.Bits.{has, rows_below, word_bits}
use Rattle.bitsets.proofs.Bits.{has-bits, has_none, below_in}
use Rattle.patterns.specs.Columns.{blank_of, filled_in, ColumnsOf, FilledRow}
use Rattle.patterns.proofs.Digits.{digit_next}
use Rattle.patterns.proofs.Parts.{rows_snoc, row_length}

-- ---- the rows that are filled in a column

filled_none : (column : ℕ) → filled_in [] column ≡ 0
unfolding filled_in bits
filled_none column = refl

-- one row more
filled_snoc : (rows : List (List ℕ)) (row : List ℕ) (column j word b : ℕ) → length rows ≡ j → j < word_bits → word ≡ filled_in rows column
    → b ≡ cond (is_filled (get_or row column 0)) 1 0 → bit_or word (b * 2 ^ j % 2 ^ word_bits) ≡ filled_in (rows ++ (row ∷ [])) column
unfolding filled_in
filled_snoc rows row column j word b size h e eb =
    let f : List ℕ → Bool = λ r. is_filled (get_or r column 0) in
    digit_next word_bits (map f rows) (f row) word b j h (length-map rows f ∙ size) e eb
    ∙ ap bits (sym (map-append f rows (row ∷ [])))

-- a row that is filled in a column
pub filled-has : (rows : List (List ℕ)) (column k : ℕ) → k < length rows → has (filled_in rows column) k ≡ is_filled (get_or (get_or rows k []) column 0)
unfolding filled_in
filled-has rows column k h =
    let f : List ℕ → Bool = λ r. is_filled (get_or r column 0) in
    has-bits (map f rows) k ∙ contains-get (map f rows) k ∙ get_or-map f rows k [] (is_filled 0) h

pub filled_within : (rows : List (List ℕ)) (column k : ℕ) → has (filled_in rows column) k ≡ true → k < length rows
unfolding filled_in
filled_within rows column k h =
    let f : List ℕ → Bool = λ r. is_filled (get_or r column 0) in
    let m : contains (map f rows) k ≡ true = sym (has-bits (map f rows) k) ∙ h in
    omega (arith, holds_within (map f rows) k m, length-map rows f)

-- ---- one row more in the columns' filled rows

-- the first c columns hold row j
pub record FilledTo (row : List ℕ) (j : ℕ) (found : List ℕ) (c : ℕ) (columns : List ℕ) : Type 0 where
  pub size : length columns ≡ length found
  pub done : (i : ℕ) → i < c → get_or columns i 0 ≡ bit_or (get_or found i 0) (cond (is_filled (get_or row i 0)) 1 0 * 2 ^ j % 2 ^ word_bits)
  pub left : (i : ℕ) → c ≤ i → get_or columns i 0 ≡ get_or found i 0

module _ (row : List ℕ) (j : ℕ) (found : List ℕ) where
  pub filled_to_end : (c : ℕ) (columns : List ℕ) → length row ≤ c → j < word_bits → FilledTo row j found c columns → FilledRow row j found columns
  filled_to_end c columns all small inv = record {
    more = λ rows size o.
        let same : length columns ≡ length found = inv.size in
        record {
          size = omega (arith, o.size);
          words = λ i h.
              inv.done i (omega arith)
              ∙ filled_snoc rows row i j (get_or found i 0) (cond (is_filled (get_or row i 0)) 1 0) size small (o.words i h) refl;
        };
  }

-- ---- the rows one after the other

pub columns_none : (width : ℕ) → width ≤ max_columns → ColumnsOf [] width (replicate max_columns 0)
columns_none width h = record {
  size = omega (arith, length-replicate {A = ℕ} max_columns 0);
  words = λ c g. get_or-replicate max_columns c 0 0 (omega arith) ∙ sym (filled_none c);
}

-- n rows of c cells stand in w, and row j is the next
pub columns_more : (c n j : ℕ) (w r : List ℕ) → n * c ≤ length w → j < n → r ≡ take c (drop (j * c) w) → (found columns : List ℕ)
    → ColumnsOf (rows_in c j w) c found → FilledRow r j found columns → ColumnsOf (rows_in c (j + 1) w) c columns
columns_more c n j w r fits more e found columns o f =
    let long : length r ≡ c = ap length e ∙ row_length c n j w fits more in
    subst (λ (t : List (List ℕ)). ColumnsOf t c columns)
    (ap (λ (u : List ℕ). rows_in c j w ++ (u ∷ [])) e ∙ sym (rows_snoc c j w))
    (subst (λ (k : ℕ). ColumnsOf (rows_in c j w ++ (r ∷ [])) k columns) long
    (f.more (rows_in c j w) (rows_length c j w) (subst (λ (k : ℕ). ColumnsOf (rows_in c j w) k found) (sym long) o)))

-- ---- the blank word of a cell

pub blank_empty : (x : ℕ) → is_filled x ≡ false → 18446744073709551615 ≡ blank_of x
unfolding rows_below
blank_empty x e = rw e refl

pub has_blank : (x k : ℕ) → k < word_bits → has (blank_of x) k ≡ not (is_filled x)
has_blank x k h =
    bool_cases (is_filled x)
    (λ e. rw e (has_none k))
    (λ e. rw e (below_in word_bits k h))

pub blank_fits : (x : ℕ) → blank_of x < 2 ^ word_bits
unfolding rows_below
blank_fits x = bool_cases (is_filled x) (λ e. rw e (omega arith)) (λ e. rw e (omega arith))
