-- The list of T's sets, each with the position of its joined row, is the set list. Assumes nothing.
use mathlib.Core.Path.{◌≡◌, refl, sym, ◌∙◌, ap, ap₂}
use mathlib.Core.Logic.{inl, inr}
use mathlib.Core.Bool.{Bool}
use mathlib.Core.List.{List, [], ◌∷◌, ◌++◌, map}
use Prim.Native.Nat.{ℕ, ◌+◌, ◌*◌, ◌<◌, ◌≤◌}
use native.Mathlib.Omega.{arith}
use lib.ListN.{length, take, drop}
use Rattle.definitions.specs.Limits.{max_sets, mark_words, set_width}
use Rattle.definitions.specs.ComplementUnion.{union_sets}
use Rattle.definitions.specs.SetList.{bits, record_of, fused_position, set_record, list_of, set_list}
use Rattle.definitions.specs.Statements.{Member}
use Rattle.definitions.proofs.Counts.{fused_count, set_list-length}
use Rattle.definitions.proofs.SetWords.{fused_position_within}
use Rattle.rows.specs.Indices.{Below}
use Rattle.set_lists.specs.Records.{records_of}

-- the positions behind those of the sets are not read
records_first : (sets positions : List ℕ) → records_of sets positions ≡ records_of sets (take (length sets) positions)
unfolding records_of
records_first [] positions = refl
records_first (set ∷ sets) [] = refl
records_first (set ∷ sets) (position ∷ positions) =
    ap (λ (l : List (List ℕ)). record_of mark_words set position ∷ l) (records_first sets positions)

module _ (columns : List ℕ) (rows : List (List ℕ)) where
  pub positions_below_lem : length (union_sets columns rows) ≤ max_sets → Below max_sets (map (fused_position columns rows) (union_sets columns rows))
  positions_below_lem few = below (union_sets columns rows) (λ s h. omega (arith, fused_position_within columns rows s h, fused_count columns rows))
    where
      below : (ss : List (List Bool)) → ((s : List Bool) → Member s ss → fused_position columns rows s < max_sets) → Below max_sets (map (fused_position columns rows) ss)
      below [] f = tt
      below (s ∷ ss) f = (f s (inl refl), below ss (λ t h. f t (inr h)))

  records_are : (ss : List (List Bool)) → records_of (map bits ss) (map (fused_position columns rows) ss) ≡ map (set_record columns rows) ss
  unfolding records_of set_record
  records_are [] = refl
  records_are (s ∷ ss) = ap (λ (t : List (List ℕ)). set_record columns rows s ∷ t) (records_are ss)

  module _ (sets positions : List ℕ) (known : sets ≡ map bits (union_sets columns rows)) (fused : take (length sets) positions ≡ map (fused_position columns rows) (union_sets columns rows)) where
    pub list_is : list_of mark_words (records_of sets positions) ≡ set_list columns rows
    unfolding set_list
    list_is = ap (list_of mark_words) (records_first sets positions ∙ ap₂ records_of known fused ∙ records_are (union_sets columns rows))

  -- the buffer after it
  pub list_written : (sets positions found now : List ℕ) (count : ℕ) → length (union_sets columns rows) ≡ count
      → sets ≡ map bits (union_sets columns rows) → take (length sets) positions ≡ map (fused_position columns rows) (union_sets columns rows)
      → now ≡ list_of mark_words (records_of sets positions) ++ drop (1 + set_width * count) found
      → now ≡ set_list columns rows ++ drop (length (set_list columns rows)) found
  list_written sets positions found now count e known fused written =
      let size : 1 + set_width * count ≡ length (set_list columns rows) = ap (λ (k : ℕ). 1 + set_width * k) (sym e) ∙ sym (set_list-length columns rows) in
      written ∙ ap₂ (λ (l : List ℕ) (k : ℕ). l ++ drop k found) (list_is sets positions known fused) size
