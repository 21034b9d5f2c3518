-- The joined row of a set, a step a column: a member that is filled in a column has the joined cell there. Assumes nothing.
use mathlib.Core.Path.{◌≡◌, refl, sym, ◌∙◌, ap}
use mathlib.Core.Bool.{Bool, true, ◌&&◌}
use mathlib.Core.List.{List, [], ◌∷◌}
use Prim.Native.Nat.{ℕ, zero, suc, ◌+◌, ◌*◌, ◌^◌, ◌<◌, ◌≤◌}
use native.Mathlib.Nat.{le_of_suc-le-suc, not-suc-le-zero, add-zero, zero-add}
use native.Mathlib.Omega.{arith}
use lib.Bits.{bit_and}
use lib.Count.{count_trailing_zeros}
use lib.Dec.{eqb}
use lib.ListN.{length, get_or, set as replace}
use lib.Seq.{ext_get_or, get_or-set_same, get_or-set_other}
use borrow.Author.Count.{below_more}
use borrow.Author.Tests.{eqb-true, eqb-false, eq-eqb, ne_eqb}
use Rattle.definitions.proofs.Images.{rows_length, rows_wide}
use Rattle.definitions.specs.Word.{is_filled}
use Rattle.definitions.specs.Image.{rows_in}
use Rattle.definitions.specs.ComplementUnion.{complement_at, members, joined, union_sets}
use Rattle.definitions.specs.SetList.{bits}
use Rattle.definitions.specs.Statements.{Member}
use Rattle.definitions.specs.Claims.{Filled, Holds, Complementing}
use Rattle.std.proofs.lemmas.Bool.{and_parts}
use Rattle.definitions.proofs.Bools.{bool_cases}
use Rattle.definitions.proofs.Rows.{filled_cell, empty_cell, agree_at}
use Rattle.definitions.proofs.Sets.{holds_within, listed_is}
use Rattle.definitions.proofs.Joined.{members_are, members-agree, filled-agree, joined_some, joined_empty, joined_length}
use Rattle.lists.proofs.Flat.{rows_at_lem}
use Rattle.bitsets.specs.Bits.{word_bits, has, both, lowest}
use Rattle.bitsets.proofs.Bits.{Lowest, has_both, has_none, has-bits, lowest_one, trailing_lowest, is_lowest}
use Rattle.patterns.specs.Columns.{filled_in, ColumnsOf}
use Rattle.patterns.proofs.FilledRows.{filled-has}
use Rattle.fusing.specs.Join.{pick_cell, pick_from}
use Rattle.fusing.proofs.FilledRows.{cell_at_lem}

-- ---- the cell of the first row of a set

module _ (width : ℕ) (cells : List ℕ) (column set : ℕ) where
  pub pick_none : set ≡ 0 → 0 ≡ pick_cell width cells column set
  unfolding pick_cell
  pick_none e = sym (rw (eq-eqb set 0 e))

  module _ (some : set ≡ 0 → ⊥) (fits : set < 2 ^ word_bits) where
    pub first_row_lem : Lowest set (count_trailing_zeros word_bits set)
    first_row_lem = trailing_lowest word_bits set some fits

    pub pick_first : get_or cells (count_trailing_zeros word_bits set * width + column) 0 ≡ pick_cell width cells column set
    unfolding pick_cell
    pick_first =
        ap (λ (k : ℕ). get_or cells (k * width + column) 0) (lowest_one set (count_trailing_zeros word_bits set) (lowest set) first_row_lem (is_lowest set some))
        ∙ sym (rw (ne_eqb set 0 some))

-- ---- a row of such cells

module _ (width : ℕ) (cells : List ℕ) (set : ℕ) where
  pub picks_length : (column : ℕ) (columns : List ℕ) → length (pick_from width cells set column columns) ≡ length columns
  unfolding pick_from
  picks_length column [] = refl
  picks_length column (f ∷ columns) = ap suc (picks_length (suc column) columns)

  picks_from : (column : ℕ) (columns : List ℕ) (i : ℕ) → i < length columns
      → get_or (pick_from width cells set column columns) i 0 ≡ pick_cell width cells (column + i) (bit_and set (get_or columns i 0))
  unfolding pick_from
  picks_from column [] i h = absurd (not-suc-le-zero h)
  picks_from column (f ∷ columns) zero h = ap (λ (k : ℕ). pick_cell width cells k (bit_and set f)) (sym (add-zero column))
  picks_from column (f ∷ columns) (suc i) h =
      picks_from (suc column) columns i (le_of_suc-le-suc h)
      ∙ ap (λ (k : ℕ). pick_cell width cells k (bit_and set (get_or columns i 0))) (omega arith)

  pub picks_at : (columns : List ℕ) (i : ℕ) → i < length columns
      → get_or (pick_from width cells set 0 columns) i 0 ≡ pick_cell width cells i (bit_and set (get_or columns i 0))
  picks_at columns i h = picks_from 0 columns i h ∙ ap (λ (k : ℕ). pick_cell width cells k (bit_and set (get_or columns i 0))) (zero-add i)

  -- the cells are written one after the other
  pub picks_turn : (columns out : List ℕ) (i x : ℕ) → i < length columns → i < length out → x ≡ pick_cell width cells i (bit_and set (get_or columns i 0))
      → ((k : ℕ) → k < i → get_or out k 0 ≡ get_or (pick_from width cells set 0 columns) k 0)
      → (k : ℕ) → k < i + 1 → get_or (replace out i x) k 0 ≡ get_or (pick_from width cells set 0 columns) k 0
  picks_turn columns out i x h room e inv =
      below_more (λ (k : ℕ). get_or (replace out i x) k 0 ≡ get_or (pick_from width cells set 0 columns) k 0) i
      (λ k l. get_or-set_other out i k x 0 (λ q. omega arith) ∙ inv k l)
      (get_or-set_same out i x 0 room ∙ e ∙ sym (picks_at columns i h))

  pub picks_end : (columns out : List ℕ) (i : ℕ) → length out ≡ length columns → length columns ≤ i
      → ((k : ℕ) → k < i → get_or out k 0 ≡ get_or (pick_from width cells set 0 columns) k 0) → out ≡ pick_from width cells set 0 columns
  picks_end columns out i e all inv =
      ext_get_or 0 out (pick_from width cells set 0 columns) (e ∙ sym (picks_length 0 columns)) (λ k h. inv k (omega arith))

-- ---- the joined row of a complementing set

module _ (words : List ℕ) (rows : List (List ℕ)) (s : List Bool) (comp : Complementing (complement_at words rows) (length rows) s) (column : ℕ) where
  abbrev cell : ℕ → ℕ
  cell k = get_or (get_or rows k []) column 0

  pub member_cell : (k : ℕ) → Holds s k → Filled (cell k) → get_or (joined rows s) column 0 ≡ cell k
  member_cell k h f =
      let l : k < length rows = omega (arith, holds_within s k h, comp.size) in
      let here : Member (get_or rows k []) (members rows s) = (members_are rows s (get_or rows k [])).1 (k, l, h, refl) in
      bool_cases (eqb (get_or (joined rows s) column 0) 0)
      (λ e. absurd (f ((joined_empty rows s column).0 (eqb-true (get_or (joined rows s) column 0) 0 e) (get_or rows k []) here)))
      (λ e.
      let m = joined_some rows s column (eqb-false (get_or (joined rows s) column 0) 0 e) in
      m.2 ∙ filled-agree (get_or m.0 column 0) (cell k) (λ z. eqb-false (get_or (joined rows s) column 0) 0 e (m.2 ∙ z)) f
      (agree_at m.0 (get_or rows k []) (members-agree words rows s comp m.0 (get_or rows k []) m.1 here) column))

  pub no-member_cell : ((k : ℕ) → Holds s k → cell k ≡ 0) → get_or (joined rows s) column 0 ≡ 0
  no-member_cell f =
      (joined_empty rows s column).1
      (λ r h. let m = (members_are rows s r).0 h in ap (λ (t : List ℕ). get_or t column 0) m.3 ∙ f m.0 m.2)

-- ---- the rows stand in w, and `columns` holds each column's filled rows

module _ (words : List ℕ) (c n : ℕ) (w columns : List ℕ) (fits : n * c ≤ length w) (o : ColumnsOf (rows_in c n w) c columns) (s : List Bool)
    (listed : Member s (union_sets words (rows_in c n w))) where
  abbrev rows : List (List ℕ)
  rows = rows_in c n w

  comp : Complementing (complement_at words rows) (length rows) s
  unfolding union_sets
  comp = ((listed_is (complement_at words rows) (length rows) s).0 listed).complementing

  pub joined_wide : length (joined rows s) ≡ c
  joined_wide = joined_length rows c (rows_wide c n w fits) s comp.size comp.some.0 comp.some.1

  module _ (i : ℕ) (h : i < c) where
    -- the members that are filled in the column
    abbrev held : ℕ
    held = bit_and (bits s) (filled_in rows i)

    held_has : (k : ℕ) → k < length rows → has held k ≡ (has (bits s) k && is_filled (get_or (get_or rows k []) i 0))
    unfolding both
    held_has k l = has_both (bits s) (filled_in rows i) k ∙ ap (λ (b : Bool). has (bits s) k && b) (filled-has rows i k l)

    none_held : held ≡ 0 → get_or (joined rows s) i 0 ≡ 0
    none_held e =
        no-member_cell words rows s comp i
        (λ k g.
        let l : k < length rows = omega (arith, holds_within s k g, comp.size) in
        empty_cell (get_or (get_or rows k []) i 0)
        (sym (ap (λ (b : Bool). b && is_filled (get_or (get_or rows k []) i 0)) (has-bits s k ∙ g)) ∙ sym (held_has k l) ∙ ap (λ (x : ℕ). has x k) e ∙ has_none k))

    first_held : (held ≡ 0 → ⊥) → get_or (joined rows s) i 0 ≡ get_or w (lowest held * c + i) 0
    unfolding both
    first_held some =
        let k = lowest held in
        let there : has held k ≡ true = (is_lowest held some).there in
        let m : Holds s k = sym (has-bits s k) ∙ (and_parts (has (bits s) k) (has (filled_in rows i) k) (sym (has_both (bits s) (filled_in rows i) k) ∙ there)).0 in
        let l : k < length rows = omega (arith, holds_within s k m, comp.size) in
        let f : is_filled (get_or (get_or rows k []) i 0) ≡ true = (and_parts (has (bits s) k) (is_filled (get_or (get_or rows k []) i 0)) (sym (held_has k l) ∙ there)).1 in
        member_cell words rows s comp i k m (filled_cell (get_or (get_or rows k []) i 0) f)
        ∙ ap (λ (r : List ℕ). get_or r i 0) (rows_at_lem c n k w (omega (arith, rows_length c n w)))
        ∙ cell_at_lem c k i w h

    pick_held : pick_cell c w i held ≡ get_or (joined rows s) i 0
    unfolding pick_cell
    pick_held =
        bool_cases (eqb held 0)
        (λ e. rw e (sym (none_held (eqb-true held 0 e))))
        (λ e. rw e (sym (first_held (eqb-false held 0 e))))

  -- what is written for a listed set is its joined row
  pub picks_joined : length columns ≡ c → pick_from c w (bits s) 0 columns ≡ joined rows s
  picks_joined e =
      let size : length (pick_from c w (bits s) 0 columns) ≡ c = picks_length c w (bits s) 0 columns ∙ e in
      ext_get_or 0 (pick_from c w (bits s) 0 columns) (joined rows s) (size ∙ sym joined_wide)
      (λ i h.
      let l : i < c = omega arith in
      picks_at c w (bits s) columns i (omega arith)
      ∙ ap (λ (x : ℕ). pick_cell c w i (bit_and (bits s) x)) (o.words i l)
      ∙ pick_held i l)
