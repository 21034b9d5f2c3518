-- Laws of the positions of a set: they are those that it holds, ascending and below its length, and the set of them is
-- the set again. Assumes nothing.
use mathlib.Core.Path.{◌≡◌, refl, sym, ◌∙◌, ap, subst}
use mathlib.Core.Bool.{Bool, true, false}
use mathlib.Core.Logic.{⊎_elim}
use mathlib.Core.List.{List, [], ◌∷◌}
use Prim.Native.Nat.{ℕ, zero, suc, ◌+◌, ◌*◌, ◌-◌, ◌<◌, ◌≤◌}
use native.Mathlib.Nat.{add-suc, suc-add}
use native.Mathlib.Omega.{arith}
use lib.Dec.{eqb, ltb}
use lib.ListN.{length}
use borrow.Author.Tests.{ltb-true, eq-eqb, ne_eqb}
use Rattle.definitions.specs.Limits.{marks_per_word}
use Rattle.definitions.specs.Lists.{all, any, tabulate}
use Rattle.definitions.specs.ComplementUnion.{contains}
use Rattle.definitions.specs.Reading.{positions_of}
use Rattle.definitions.specs.ReadBack.{set_of}
use Rattle.definitions.specs.OuterUnion.{compare_word}
use Rattle.definitions.specs.Statements.{Member, StrictlyAscending}
use Rattle.definitions.specs.Claims.{Holds}
use Rattle.definitions.proofs.Tabulate.{tabulate_ext, tabulate-contains}
use Rattle.std.proofs.lemmas.Bool.{and_parts}
use Rattle.definitions.proofs.Ascending.{above_all}
use Rattle.definitions.proofs.Orders.{words, word_before}
use Rattle.definitions.proofs.Lists.{any_none, any_true}

-- a position of a set lies within its length
pub positions_within : (from : ℕ) (s : List Bool) (p : ℕ) → Member p (positions_of from s)
    → (from ≤ p) × (p < from + length s)
unfolding positions_of
positions_within from [] p h = absurd h
positions_within from (true ∷ s) p h =
    ⊎_elim (λ e. (omega arith, omega arith))
    (λ r. let i = positions_within (suc from) s p r in (omega (arith, i.0), omega (arith, i.1))) h
positions_within from (false ∷ s) p h =
    let i = positions_within (suc from) s p h in (omega (arith, i.0), omega (arith, i.1))

-- none lies before the first
positions_before : (from : ℕ) (s : List Bool) (p : ℕ) → p < from → any (eqb p) (positions_of from s) ≡ false
positions_before from s p h =
    any_none (eqb p) (positions_of from s) (λ q g. ne_eqb p q (λ e. omega (arith, (positions_within from s q g).0)))

-- the positions are those that the set holds
pub positions_hold : (from : ℕ) (s : List Bool) (k : ℕ) → any (eqb (from + k)) (positions_of from s) ≡ contains s k
unfolding positions_of any contains
positions_hold from [] k = refl
positions_hold from (true ∷ s) zero = rw (eq-eqb (from + 0) from (omega arith))
positions_hold from (false ∷ s) zero = positions_before (suc from) s (from + 0) (omega arith)
positions_hold from (true ∷ s) (suc k) =
    let next : from + suc k ≡ suc from + k = omega arith in
    rw (ne_eqb (from + suc k) from (λ e. omega arith))
    (subst (λ (n : ℕ). any (eqb n) (positions_of (suc from) s) ≡ contains s k) (sym next) (positions_hold (suc from) s k))
positions_hold from (false ∷ s) (suc k) = rw (add-suc from k, ← suc-add from k) (positions_hold (suc from) s k)

-- the set of the positions of a set, if its mark words hold no more and no fewer than it
pub set_again : (m : ℕ) (s : List Bool) → length s ≡ marks_per_word * m → set_of m (positions_of 0 s) ≡ s
set_again m s e =
    tabulate_ext (marks_per_word * m) (λ p. any (eqb p) (positions_of 0 s)) (contains s)
    (λ k h. let z : k ≡ 0 + k = omega arith in ap (λ (p : ℕ). any (eqb p) (positions_of 0 s)) z ∙ positions_hold 0 s k)
    ∙ ap (λ (n : ℕ). tabulate n (contains s)) (sym e)
    ∙ tabulate-contains s

-- a set that holds a position has some
pub positions_some : (s : List Bool) (k : ℕ) → Holds s k → 0 < length (positions_of 0 s)
positions_some s k h =
    let i = any_true (eqb (0 + k)) (positions_of 0 s) (positions_hold 0 s k ∙ h) in some (positions_of 0 s) i.0 i.1
  where
    some : (l : List ℕ) (p : ℕ) → Member p l → 0 < length l
    some [] p i = absurd i
    some (x ∷ l) p i = omega arith

-- each comes before the next
pub positions_rise : (from : ℕ) (s : List Bool) → StrictlyAscending compare_word (positions_of from s)
unfolding positions_of
positions_rise from [] = tt
positions_rise from (true ∷ s) = (
  above_all words from (positions_of (suc from) s)
      (λ p h. word_before from p (omega (arith, (positions_within (suc from) s p h).0))),
  positions_rise (suc from) s,
)
positions_rise from (false ∷ s) = positions_rise (suc from) s

-- positions below a bound are no more than it
pub positions_few : (bound from : ℕ) (s : List Bool) → all (λ p. ltb p bound) (positions_of from s) ≡ true
    → length (positions_of from s) ≤ bound - from
unfolding positions_of all
positions_few bound from [] e = omega arith
positions_few bound from (true ∷ s) e =
    let others = all (λ p. ltb p bound) (positions_of (suc from) s) in
    let h = ltb-true from bound (and_parts (ltb from bound) others e).0 in
    let i = positions_few bound (suc from) s (and_parts (ltb from bound) others e).1 in
    omega arith
positions_few bound from (false ∷ s) e = let i = positions_few bound (suc from) s e in omega arith

-- nor more than there are marks
pub positions_count : (from : ℕ) (s : List Bool) → length (positions_of from s) ≤ length s
unfolding positions_of
positions_count from [] = omega arith
positions_count from (true ∷ s) = omega (arith, positions_count (suc from) s)
positions_count from (false ∷ s) = omega (arith, positions_count (suc from) s)
