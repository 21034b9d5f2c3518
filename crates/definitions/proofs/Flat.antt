-- Lists of one length, joined to one list: where each of them stands in it. Assumes nothing.
use mathlib.Core.Path.{◌≡◌, refl, sym, ◌∙◌, ap}
use mathlib.Core.Logic.{inl, inr}
use mathlib.Core.List.{List, [], ◌∷◌, ◌++◌, flatten}
use Prim.Native.Nat.{ℕ, zero, suc, ◌+◌, ◌*◌, ◌<◌, ◌≤◌}
use native.Mathlib.Nat.{add_comm, suc-mul, zero-mul, le_of_suc-le-suc, not-suc-le-zero}
use native.Mathlib.Omega.{arith}
use lib.ListN.{length, get_or, take, drop}
use lib.Seq.{take_at, take-take, drop-append-add, drop-drop}
use Rattle.definitions.specs.Statements.{Member}

-- a part of a part
pub part_inside : {A : Type 0} (a b n : ℕ) (l : List A) → a + b ≤ n → take b (drop a (take n l)) ≡ take b (drop a l)
part_inside zero b n l h = take-take b n l (omega arith)
part_inside (suc a) b zero l h = absurd (omega arith)
part_inside (suc a) b (suc n) [] h = refl
part_inside (suc a) b (suc n) (x ∷ l) h = part_inside a b n l (omega arith)

module _ (c : ℕ) where
  -- every list has c elements
  abbrev pub Wide : List (List ℕ) → Type 0
  Wide rs = (r : List ℕ) → Member r rs → length r ≡ c

  wide_tail : (r : List ℕ) (rs : List (List ℕ)) → Wide (r ∷ rs) → Wide rs
  wide_tail r rs f s h = f s (inr h)

  pub flat_row : (d : List ℕ) (rs : List (List ℕ)) (i : ℕ) → Wide rs → i < length rs → take c (drop (i * c) (flatten rs)) ≡ get_or rs i d
  unfolding flatten
  flat_row d [] i f h = absurd (not-suc-le-zero h)
  flat_row d (r ∷ rs) zero f h = ap (λ (k : ℕ). take c (drop k (r ++ flatten rs))) (zero-mul c) ∙ take_at r (flatten rs) c (f r (inl refl))
  flat_row d (r ∷ rs) (suc i) f h =
      ap (λ (k : ℕ). take c (drop k (r ++ flatten rs))) (suc-mul i c ∙ add_comm (i * c) c ∙ ap (λ (k : ℕ). k + i * c) (sym (f r (inl refl))))
      ∙ ap (take c) (drop-append-add r (flatten rs) (i * c))
      ∙ flat_row d rs i (wide_tail r rs f) (le_of_suc-le-suc h)

  -- a part of one of them
  pub flat_part : (d : List ℕ) (rs : List (List ℕ)) (i a b : ℕ) → Wide rs → i < length rs → a + b ≤ c
      → take b (drop (i * c + a) (flatten rs)) ≡ take b (drop a (get_or rs i d))
  flat_part d rs i a b f h fits =
      ap (take b) (sym (drop-drop a (i * c) (flatten rs)))
      ∙ sym (part_inside a b c (drop (i * c) (flatten rs)) fits)
      ∙ ap (λ (l : List ℕ). take b (drop a l)) (flat_row d rs i f h)
