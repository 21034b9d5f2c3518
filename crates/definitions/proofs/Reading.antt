-- Laws of a set list that is read: its records, their sets and positions are those that it was made of. Assumes nothing.
use mathlib.Core.Path.{◌≡◌, refl, sym, ◌∙◌, ap, ap₂}
use mathlib.Core.Bool.{Bool, true, false, cond}
use mathlib.Core.Logic.{inl, inr}
use mathlib.Core.List.{List, [], ◌∷◌, ◌++◌, map, flatten}
use Prim.Native.Nat.{ℕ, zero, suc, ◌+◌, ◌-◌, ◌*◌, ◌/◌, ◌%◌, ◌^◌, ◌<◌, ◌≤◌}
use native.Mathlib.Omega.{arith}
use lib.Dec.{eqb}
use lib.ListN.{length, get_or, take, drop, length-map, replicate}
use lib.Seq.{take_at}
use Rattle.std.proofs.lemmas.List.{get_or-map}
use Rattle.definitions.specs.Limits.{mark_words, set_width, max_union_rows, max_sets, marks_per_word}
use Rattle.definitions.specs.Image.{rows_in}
use Rattle.definitions.specs.ComplementUnion.{contains, complement_at, union_sets}
use Rattle.definitions.specs.SetList.{fused_position, set_record, list_of, set_list}
use Rattle.definitions.specs.Reading.{set_count, records_in, mark_at, marks_in, set_in, positions_of, joined_position}
use Rattle.definitions.specs.Statements.{Member}
use Rattle.definitions.proofs.Tabulate.{tabulate-length, tabulate_ext, tabulate_wide}
use Rattle.definitions.proofs.Lists.{map-member, member-get}
use Rattle.definitions.proofs.Sets.{listed_is}
use Rattle.definitions.proofs.Counts.{set_record-length, fused_count}
use Rattle.definitions.proofs.SetWords.{mark_bit, row_word, fused_position_within}
use Rattle.definitions.proofs.Images.{header_rows, rows_read, rows_length}

-- ---- the records of any list

pub records_count : (m : ℕ) (list : List ℕ) → length (records_in m list) ≡ set_count list
records_count m list = rows_length (suc m) (set_count list) (drop 1 list)

-- ---- the marks of a record

module _ (n : ℕ) (words : List ℕ) where
  pub marks_count : length (marks_in n words) ≡ n
  unfolding marks_in
  marks_count = tabulate-length n (mark_at words)

-- ---- positions

-- positions that are not marked add none
positions_wide : (n from : ℕ) (s : List Bool) → positions_of from (s ++ replicate n false) ≡ positions_of from s
unfolding positions_of
positions_wide zero from [] = refl
positions_wide (suc n) from [] = positions_wide n (suc from) []
positions_wide n from (m ∷ s) = ap (λ (l : List ℕ). cond m (from ∷ []) [] ++ l) (positions_wide n (suc from) s)

pub one_marks : (m : Bool) → eqb (cond m 1 0) 1 ≡ m
one_marks true = refl
one_marks false = refl

module _ (columns : List ℕ) (t : List (List ℕ)) (s : List Bool) where
  mark_read : (p : ℕ) → p < marks_per_word * mark_words → mark_at (set_record columns t s) p ≡ contains s p
  mark_read p h =
      let i : p / 30 < mark_words = omega arith in
      let j : p % 30 < 30 = omega arith in
      let e : 30 * (p / 30) + p % 30 ≡ p = omega arith in
      ap (λ (x : ℕ). eqb x 1) (mark_bit columns t s (p / 30) (p % 30) i j)
      ∙ one_marks (contains s (30 * (p / 30) + p % 30))
      ∙ ap (contains s) e

  -- the record of a set marks its positions, and no others
  pub set_wide : length s ≤ max_union_rows
      → set_in mark_words (set_record columns t s) ≡ s ++ replicate (marks_per_word * mark_words - length s) false
  unfolding marks_in
  set_wide h =
      tabulate_ext (marks_per_word * mark_words) (mark_at (set_record columns t s)) (contains s) mark_read
      ∙ tabulate_wide (marks_per_word * mark_words) s (omega arith)

  pub positions_read : length s ≤ max_union_rows → positions_of 0 (set_in mark_words (set_record columns t s)) ≡ positions_of 0 s
  positions_read h = ap (positions_of 0) (set_wide h) ∙ positions_wide (marks_per_word * mark_words - length s) 0 s

  -- the first positions of a record's set are the set
  pub set_read : (n : ℕ) → length s ≡ n → n ≤ max_union_rows → take n (set_in mark_words (set_record columns t s)) ≡ s
  set_read n e h = ap (take n) (set_wide (omega arith)) ∙ take_at s (replicate (marks_per_word * mark_words - length s) false) n e

  -- and names the position of its joined row
  pub position_read : fused_position columns t s < max_sets → joined_position mark_words (set_record columns t s) ≡ fused_position columns t s
  position_read h = ap (λ (w : ℕ). w % 2 ^ 30) (row_word columns t s) ∙ omega arith

-- ---- a set list at the front of a buffer

module _ (columns : List ℕ) (t : List (List ℕ)) (rest : List ℕ) where
  pub count_read : length (union_sets columns t) ≤ max_sets → set_count (set_list columns t ++ rest) ≡ length (union_sets columns t)
  unfolding set_list list_of
  count_read few =
      let size = length-map (union_sets columns t) (set_record columns t) in
      header_rows (length (map (set_record columns t) (union_sets columns t))) set_width (omega arith) (omega arith) ∙ size

  -- its records are those of the sets
  pub records_read : rows_in set_width (length (union_sets columns t)) (drop 1 (set_list columns t ++ rest)) ≡ map (set_record columns t) (union_sets columns t)
  unfolding set_list list_of
  records_read =
      ap (λ (n : ℕ). rows_in set_width n (flatten (map (set_record columns t) (union_sets columns t)) ++ rest))
      (sym (length-map (union_sets columns t) (set_record columns t)))
      ∙ rows_read set_width (map (set_record columns t) (union_sets columns t)) rest
      (λ r h. let i = map-member (set_record columns t) r (union_sets columns t) h in ap (λ (l : List ℕ). length l) i.2 ∙ set_record-length columns t i.0)

  -- a listed set tells of each row whether it is in it
  pub listed_length : (s : List Bool) → Member s (union_sets columns t) → length s ≡ length t
  unfolding union_sets
  listed_length s h = ((listed_is (complement_at columns t) (length t) s).0 h).complementing.size

  pub listed_position : length (union_sets columns t) ≤ max_sets → (s : List Bool) → Member s (union_sets columns t) → fused_position columns t s < max_sets
  listed_position few s h = omega (arith, fused_position_within columns t s h, fused_count columns t)

  -- all records, by the count in the header
  pub all_read : length (union_sets columns t) ≤ max_sets → records_in mark_words (set_list columns t ++ rest) ≡ map (set_record columns t) (union_sets columns t)
  all_read few = ap (λ (n : ℕ). rows_in set_width n (drop 1 (set_list columns t ++ rest))) (count_read few) ∙ records_read

  -- the sets that a set list lists are those of T
  pub sets_read : length (union_sets columns t) ≤ max_sets → length t ≤ max_union_rows
      → map (λ words. take (length t) (set_in mark_words words)) (records_in mark_words (set_list columns t ++ rest)) ≡ union_sets columns t
  sets_read few rows =
      ap (map (λ words. take (length t) (set_in mark_words words))) (all_read few)
      ∙ each (union_sets columns t) (λ s h. set_read columns t s (length t) (listed_length s h) rows)
    where
      each : (sets : List (List Bool))
          → ((s : List Bool) → Member s sets → take (length t) (set_in mark_words (set_record columns t s)) ≡ s)
          → map (λ words. take (length t) (set_in mark_words words)) (map (set_record columns t) sets) ≡ sets
      each [] h = refl
      each (s ∷ sets) h = ap₂ (λ (x : List Bool) (l : List (List Bool)). x ∷ l) (h s (inl refl)) (each sets (λ r g. h r (inr g)))

  -- and each with the position of its joined row
  pub positions_at : length (union_sets columns t) ≤ max_sets → (k : ℕ) → k < length (union_sets columns t)
      → joined_position mark_words (get_or (records_in mark_words (set_list columns t ++ rest)) k []) ≡ fused_position columns t (get_or (union_sets columns t) k [])
  positions_at few k h =
      let s = get_or (union_sets columns t) k [] in
      ap (λ (l : List (List ℕ)). joined_position mark_words (get_or l k [])) (all_read few)
      ∙ ap (joined_position mark_words) (get_or-map (set_record columns t) (union_sets columns t) k [] [] h)
      ∙ position_read columns t s (listed_position few s (member-get [] (union_sets columns t) k h))
