-- The positions of rows among the distinct ones: those that the indices tell, what the search for one is asked and gives, and all of them one
-- after the other. Assumes nothing.
use mathlib.Core.Path.{◌≡◌, sym, ◌∙◌, ap, subst}
use mathlib.Core.List.{List, []}
use Prim.Native.Nat.{ℕ, ◌+◌, ◌*◌, ◌<◌, ◌≤◌}
use native.Mathlib.Omega.{arith}
use lib.ListN.{length, get_or, set, length-set, length-map}
use lib.Seq.{get_or-set_same, get_or-set_other, ext_get_or}
use borrow.Author.Count.{below_more}
use Rattle.std.proofs.lemmas.List.{get_or-map}
use Rattle.definitions.proofs.Images.{rows_length}
use Rattle.definitions.specs.Image.{rows_in}
use Rattle.definitions.specs.Lists.{find_index}
use Rattle.definitions.specs.ComplementUnion.{same_row}
use Rattle.definitions.specs.Statements.{Member}
use Rattle.definitions.proofs.Lists.{find_index-strict}
use Rattle.definitions.proofs.Orders.{rows}
use Rattle.definitions.proofs.Rows.{same_is}
use Rattle.lists.proofs.Flat.{rows_at_lem}
use Rattle.rows.specs.Indices.{row_at, rows_at, Ordered}
use Rattle.rows.proofs.Positions.{ordered_ascending, ordered_member}
use Rattle.fusing.specs.Positions.{positions_in}

-- ---- the positions that the indices tell

-- the positions of the first k rows are written, and those of the others are as the indices tell
pub record Placed (order all : List ℕ) (k : ℕ) (positions : List ℕ) : Type 0 where
  pub done : (i : ℕ) → i < k → get_or positions i 0 ≡ get_or all i 0
  pub named : (i : ℕ) → k ≤ i → i < length positions → (get_or positions i 0 ≡ length order → ⊥)
      → (get_or positions i 0 < length order) × (get_or order (get_or positions i 0) 0 ≡ i)

-- ---- all positions

-- the indices l name the distinct rows among the n that stand in w
module _ (c n : ℕ) (w l : List ℕ) (fits : n * c ≤ length w) (o : Ordered c n w l) where
  abbrev pub all_positions : List ℕ
  all_positions = positions_in (rows_at c w l) (rows_in c n w)

  positions_length : length all_positions ≡ n
  unfolding positions_in
  positions_length = length-map (rows_in c n w) (λ r. find_index (same_row r) (rows_at c w l)) ∙ rows_length c n w

  position_is : (i : ℕ) → i < n → get_or all_positions i 0 ≡ find_index (same_row (row_at c w i)) (rows_at c w l)
  unfolding positions_in
  position_is i more =
      get_or-map (λ s. find_index (same_row s) (rows_at c w l)) (rows_in c n w) i [] 0 (omega (arith, rows_length c n w))
      ∙ ap (λ (s : List ℕ). find_index (same_row s) (rows_at c w l)) (rows_at_lem c n i w more)

  -- the index of the row i stands at p
  position_named : (i p : ℕ) → i < n → p < length l → get_or l p 0 ≡ i → p ≡ get_or all_positions i 0
  position_named i p more h e =
      let same : get_or (rows_at c w l) p (row_at c w 0) ≡ row_at c w i = get_or-map (row_at c w) l p 0 (row_at c w 0) h ∙ ap (row_at c w) e in
      sym
      (position_is i more
      ∙ ap (λ (s : List ℕ). find_index (same_row s) (rows_at c w l)) (sym same)
      ∙ find_index-strict rows same_row same_is (row_at c w 0) (rows_at c w l) p (ordered_ascending c n w l o fits).strict (omega (arith, length-map l (row_at c w))))

  -- the row i is sought
  module _ (i : ℕ) (more : i < n) (row : List ℕ) (same : row ≡ row_at c w i) where
    pub position_member : Member row (rows_at c w l)
    position_member = subst (λ (r : List ℕ). Member r (rows_at c w l)) (sym same) (ordered_member c n w l o i more)

    pub placed_turn : (positions : List ℕ) (r : ℕ) → i < length positions → r ≡ find_index (same_row row) (rows_at c w l)
        → Placed l all_positions i positions → Placed l all_positions (i + 1) (set positions i r)
    placed_turn positions r room e p = record {
      done = below_more (λ (k : ℕ). get_or (set positions i r) k 0 ≡ get_or all_positions k 0) i
          (λ k h. get_or-set_other positions i k r 0 (λ q. omega arith) ∙ p.done k h)
          (get_or-set_same positions i r 0 room
          ∙ e
          ∙ ap (λ (s : List ℕ). find_index (same_row s) (rows_at c w l)) same
          ∙ sym (position_is i more));
      named = λ k h g some.
          let here : get_or (set positions i r) k 0 ≡ get_or positions k 0 = get_or-set_other positions i k r 0 (λ q. omega arith) in
          let old = p.named k (omega arith) (omega (arith, length-set positions i r)) (λ z. some (here ∙ z)) in
          (omega (arith, here, old.0), ap (λ (x : ℕ). get_or l x 0) here ∙ old.1);
    }

  -- the row i, whose position is there
  pub placed_stay : (positions : List ℕ) (i : ℕ) → i < n → i < length positions → (get_or positions i 0 ≡ length l → ⊥) → Placed l all_positions i positions
      → Placed l all_positions (i + 1) positions
  placed_stay positions i more room some p =
      let told = p.named i (omega arith) room some in
      record {
        done = below_more (λ (k : ℕ). get_or positions k 0 ≡ get_or all_positions k 0) i p.done (position_named i (get_or positions i 0) more told.0 told.1);
        named = λ k h g s. p.named k (omega arith) g s;
      }

  pub placed_end : (positions : List ℕ) (i : ℕ) → length positions ≡ n → n ≤ i → Placed l all_positions i positions → positions ≡ all_positions
  placed_end positions i e all p =
      ext_get_or 0 positions all_positions (e ∙ sym positions_length) (λ k h. p.done k (omega arith))
