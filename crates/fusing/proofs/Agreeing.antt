-- Two rows compared column by column. Assumes nothing.
use mathlib.Core.Path.{◌≡◌, sym, ◌∙◌, ap, ap₂}
use mathlib.Core.Bool.{Bool, not, ◌&&◌, ◌||◌, and_assoc, and-true}
use mathlib.Core.List.{List}
use Prim.Native.Nat.{ℕ, ◌+◌, ◌<◌, ◌≤◌}
use native.Mathlib.Omega.{arith}
use lib.Dec.{eqb}
use lib.ListN.{length, get_or, drop}
use Rattle.std.proofs.lemmas.List.{drop_more, drop_all}
use Rattle.definitions.specs.Word.{is_filled}
use Rattle.definitions.specs.ComplementUnion.{agree}

-- two cells of a column are equal, or one is empty
abbrev pub cells_agree : ℕ → ℕ → Bool
cells_agree x y = eqb x y || not (is_filled x) || not (is_filled y)

-- a test of two rows: i columns are passed, and in all of these the rows agreed, and passed the first test, or not
abbrev pub AgreesFrom : List ℕ → List ℕ → Bool → ℕ → Bool → Type 0
AgreesFrom s t first i agreed = (agreed && agree (drop i s) (drop i t)) ≡ (first && agree s t)

module _ (s t : List ℕ) (first : Bool) (i : ℕ) (agreed : Bool) (same : length s ≡ length t) (inv : AgreesFrom s t first i agreed) where
  pub agree_turn : (more : Bool) → i < length s → more ≡ (agreed && cells_agree (get_or s i 0) (get_or t i 0)) → AgreesFrom s t first (i + 1) more
  unfolding agree
  agree_turn more h e =
      ap (λ (b : Bool). b && agree (drop (i + 1) s) (drop (i + 1) t)) e
      ∙ and_assoc agreed (cells_agree (get_or s i 0) (get_or t i 0)) (agree (drop (i + 1) s) (drop (i + 1) t))
      ∙ ap (λ (b : Bool). agreed && b) (sym (ap₂ agree (drop_more s i 0 h) (drop_more t i 0 (omega arith))))
      ∙ inv

  pub agree_end : length s ≤ i → agreed ≡ (first && agree s t)
  unfolding agree
  agree_end h = sym (ap (λ (u : List ℕ). agreed && agree u (drop i t)) (drop_all i s h) ∙ and-true agreed) ∙ inv
