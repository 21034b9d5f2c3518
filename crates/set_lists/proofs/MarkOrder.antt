-- Set order of mark words: the first two that differ tell. Assumes nothing.
use mathlib.Core.Path.{◌≡◌, refl, sym, ◌∙◌, ap, ap₂}
use mathlib.Core.Bool.{Bool}
use mathlib.Core.List.{List, [], ◌∷◌, ◌++◌, map}
use Prim.Native.Nat.{ℕ, ◌%◌, ◌^◌, ◌≤◌}
use native.Mathlib.Omega.{arith}
use lib.ListN.{length, take}
use Rattle.std.specs.Prelude.{unwrap_or}
use Rattle.std.specs.List.{find, zip}
use Rattle.std.specs.Ordering.{is_ne, is_lt}
use Rattle.std.specs.declared.cmp.Ordering.{Ordering}
use Rattle.std.specs.declared.cmp.Ordering.TheVariants.{Less, Equal, Greater}
use Rattle.definitions.specs.Lists.{tabulate}
use Rattle.definitions.specs.Ascending.{is_before}
use Rattle.definitions.specs.OuterUnion.{then_by}
use Rattle.definitions.specs.ComplementUnion.{compare_set}
use Rattle.definitions.specs.Reading.{marks_in, set_in}
use Rattle.definitions.proofs.Orders.{set-append}
use Rattle.definitions.proofs.MarkBits.{word_number}
use Rattle.definitions.proofs.Marks.{word_set, set_cons, front_set}
use Rattle.bitsets.specs.Bits.{compare_bits}
use Rattle.bitsets.proofs.Order.{set_order}
use Rattle.set_lists.proofs.Marks.{word_size, mark_set}

-- the order of two words' marks
abbrev pub compare_low : ℕ × ℕ → Ordering
compare_low p = compare_bits (p.0 % 2 ^ 30) (p.1 % 2 ^ 30)

-- two words, and others behind them
told : (v w : ℕ) (s t : List Bool) → compare_set (word_set v ++ s) (word_set w ++ t) ≡ then_by (compare_low (v, w)) (compare_set s t)
told v w s t =
    let size : length (word_set v) ≡ length (word_set w) = word_size v ∙ sym (word_size w) in
    set-append (word_set v) (word_set w) s t size
    ∙ ap (λ (o : Ordering). then_by o (compare_set s t))
    (sym (set_order (word_set v) (word_set w) size) ∙ ap₂ compare_bits (word_number v) (word_number w))

first_told : (o : Ordering) (rest : List Ordering) → unwrap_or (find is_ne (o ∷ rest)) Equal ≡ then_by o (unwrap_or (find is_ne rest) Equal)
first_told Less rest = refl
first_told Equal rest = refl
first_told Greater rest = refl

-- the first order that isn't `Equal`, of those of the words in pairs
pub first_apart : (a b : List ℕ) → length a ≡ length b
    → unwrap_or (find is_ne (map compare_low (zip a b))) Equal ≡ compare_set (mark_set a) (mark_set b)
unfolding compare_set marks_in tabulate
first_apart [] [] e = refl
first_apart [] (w ∷ b) e = absurd (omega arith)
first_apart (v ∷ a) [] e = absurd (omega arith)
first_apart (v ∷ a) (w ∷ b) e =
    first_told (compare_low (v, w)) (map compare_low (zip a b))
    ∙ ap (then_by (compare_low (v, w))) (first_apart a b (omega arith))
    ∙ sym (ap₂ compare_set (set_cons (length a) v a) (set_cons (length b) w b) ∙ told v w (mark_set a) (mark_set b))

-- ---- two records, told by their mark words, without the row words

pub front_order : (m : ℕ) (a b : List ℕ) → m ≤ length a → m ≤ length b → (o : Ordering)
    → o ≡ compare_set (mark_set (take m a)) (mark_set (take m b)) → is_lt o ≡ is_before (compare_set (set_in m a) (set_in m b))
front_order m a b ha hb o e =
    lt_before o ∙ ap is_before (e ∙ ap₂ compare_set (front_set m a refl ha) (front_set m b refl hb))
  where
    lt_before : (o : Ordering) → is_lt o ≡ is_before o
    lt_before Less = refl
    lt_before Equal = refl
    lt_before Greater = refl
