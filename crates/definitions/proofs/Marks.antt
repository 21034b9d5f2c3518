-- Laws of the mark words of a record, word by word: what one word marks, and the words behind it. Assumes nothing.
use mathlib.Core.Path.{◌≡◌, sym, ◌∙◌, ap, ap₂}
use mathlib.Core.Bool.{Bool, cond}
use mathlib.Core.List.{List, [], ◌∷◌, ◌++◌, append_assoc}
use Prim.Native.Nat.{ℕ, suc, ◌+◌, ◌*◌, ◌/◌, ◌%◌, ◌^◌, ◌<◌, ◌≤◌}
use native.Mathlib.Omega.{arith}
use lib.Dec.{eqb}
use lib.ListN.{length, get_or, take}
use lib.Seq.{length-take-le, get_or-take}
use Rattle.definitions.proofs.Tabulate.{tabulate_ext, tabulate-append}
use Rattle.definitions.specs.Limits.{marks_per_word}
use Rattle.definitions.specs.Lists.{tabulate}
use Rattle.definitions.specs.Reading.{mark_at, marks_in, set_in, positions_of}

-- the positions that one word marks, as a set
abbrev pub word_set : ℕ → List Bool
word_set w = set_in 1 (w ∷ [])

-- the set of a record is that of its first word, and then that of the words behind it
pub set_cons : (m w : ℕ) (words : List ℕ) → set_in (suc m) (w ∷ words) ≡ word_set w ++ set_in m words
unfolding marks_in
set_cons m w words =
    let size : marks_per_word * suc m ≡ marks_per_word + marks_per_word * m = omega arith in
    ap (λ (n : ℕ). tabulate n (mark_at (w ∷ words))) size
    ∙ tabulate-append marks_per_word (marks_per_word * m) (mark_at (w ∷ words))
    ∙ ap₂ (λ (s t : List Bool). s ++ t)
    (tabulate_ext marks_per_word (mark_at (w ∷ words)) (mark_at (w ∷ []))
    (λ p h.
    let e : p / marks_per_word ≡ 0 = omega arith in
    ap (λ (i : ℕ). eqb (get_or (w ∷ words) i 0 / 2 ^ (p % marks_per_word) % 2) 1) e
    ∙ sym (ap (λ (i : ℕ). eqb (get_or (w ∷ []) i 0 / 2 ^ (p % marks_per_word) % 2) 1) e)))
    (tabulate_ext (marks_per_word * m) (λ p. mark_at (w ∷ words) (marks_per_word + p)) (mark_at words)
    (λ p h.
    let e : (marks_per_word + p) / marks_per_word ≡ suc (p / marks_per_word) = omega arith in
    let g : (marks_per_word + p) % marks_per_word ≡ p % marks_per_word = omega arith in
    ap₂ (λ (i j : ℕ). eqb (get_or (w ∷ words) i 0 / 2 ^ j % 2) 1) e g))

-- the positions of two parts
pub positions_append : (from : ℕ) (s t : List Bool) → positions_of from (s ++ t) ≡ positions_of from s ++ positions_of (length s + from) t
unfolding positions_of
positions_append from [] t = let e : from ≡ 0 + from = omega arith in ap (λ (k : ℕ). positions_of k t) e
positions_append from (b ∷ s) t =
    let e : length s + suc from ≡ suc (length s) + from = omega arith in
    ap (λ (l : List ℕ). cond b (from ∷ []) [] ++ l) (positions_append (suc from) s t ∙ ap (λ (k : ℕ). positions_of (suc from) s ++ positions_of k t) e)
    ∙ sym (append_assoc (cond b (from ∷ []) []) (positions_of (suc from) s) (positions_of (suc (length s) + from) t))

-- the row word, and whatever else stands behind the mark words, says nothing of the set
pub front_set : (m : ℕ) (words : List ℕ) {part : List ℕ} → part ≡ take m words → m ≤ length words → set_in (length part) part ≡ set_in m words
unfolding marks_in
front_set m words e h =
    ap (λ (l : List ℕ). set_in (length l) l) e
    ∙ ap (λ (k : ℕ). set_in k (take m words)) (length-take-le m words h)
    ∙ tabulate_ext (marks_per_word * m) (mark_at (take m words)) (mark_at words)
    (λ p g.
    let i : p / marks_per_word < m = omega arith in
    ap (λ (w : ℕ). eqb (w / 2 ^ (p % marks_per_word) % 2) 1) (get_or-take m words (p / marks_per_word) 0 i))
