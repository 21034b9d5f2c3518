-- The comparisons of words, of rows and of sets are strict total orders, and the list of all sets is ascending. Assumes nothing.
use mathlib.Core.Path.{◌≡◌, refl, sym, ◌∙◌, ap, ap₂}
use mathlib.Core.Bool.{Bool, true, false, cond}
use mathlib.Core.List.{List, [], ◌∷◌, ◌++◌, map}
use Prim.Native.Nat.{ℕ, zero, suc, ◌<◌}
use native.Mathlib.Omega.{arith}
use lib.Dec.{ltb}
use lib.ListN.{length}
use borrow.Author.Tests.{lt-ltb, le-ltb, ltb-true, ltb-false}
use Rattle.std.specs.declared.cmp.Ordering.{Ordering}
use Rattle.std.specs.declared.cmp.Ordering.TheVariants.{Less, Equal, Greater}
use Rattle.definitions.specs.OuterUnion.{compare_word, then_by, compare_row}
use Rattle.definitions.specs.ComplementUnion.{compare_set, subsets}
use Rattle.definitions.specs.Statements.{Orders, BeforeAll, StrictlyAscending}
use Rattle.definitions.proofs.Ascending.{above_append, above_image, strict_image}
pub use Rattle.definitions.proofs.Ascending.{before≢same}

-- two different cases of an order, beside that one
pub before≢after : {A : Type 0} → Less ≡ Greater → A
before≢after e = absurd (let z : ◌≡◌ {A = ℕ} 0 1 = cc in omega arith)

pub same≢after : {A : Type 0} → Equal ≡ Greater → A
same≢after e = absurd (let z : ◌≡◌ {A = ℕ} 0 1 = cc in omega arith)

-- ---- words

data View (x y : ℕ) : Ordering → Type 0 where
  below : x < y → View x y Less
  equal : x ≡ y → View x y Equal
  above : y < x → View x y Greater

view_by : (x y : ℕ) (a b : Bool) → ltb x y ≡ a → ltb y x ≡ b → View x y (cond a Less (cond b Greater Equal))
view_by x y true b e f = below (ltb-true x y e)
view_by x y false true e f = above (ltb-true y x f)
view_by x y false false e f = equal (omega (arith, ltb-false x y e, ltb-false y x f))

view : (x y : ℕ) → View x y (compare_word x y)
view x y = view_by x y (ltb x y) (ltb y x) refl refl

pub word_before : (x y : ℕ) → x < y → compare_word x y ≡ Less
word_before x y h = rw (lt-ltb x y h)

pub word_after : (x y : ℕ) → y < x → compare_word x y ≡ Greater
word_after x y h = rw (le-ltb x y (omega arith), lt-ltb y x h)

pub word_self : (x : ℕ) → compare_word x x ≡ Equal
word_self x = rw (le-ltb x x (omega arith))

same_of : (x y : ℕ) (o : Ordering) → View x y o → o ≡ Equal → x ≡ y
same_of x y o (below h) e = before≢same e
same_of x y o (equal h) e = h
same_of x y o (above h) e = same≢after (sym e)

before_of : (x y : ℕ) (o : Ordering) → View x y o → o ≡ Less → x < y
before_of x y o (below h) e = h
before_of x y o (equal h) e = before≢same (sym e)
before_of x y o (above h) e = before≢after (sym e)

after_of : (x y : ℕ) (o : Ordering) → View x y o → o ≡ Greater → y < x
after_of x y o (below h) e = before≢after e
after_of x y o (equal h) e = same≢after e
after_of x y o (above h) e = h

pub words : Orders compare_word
words = record {
  same = λ x y e. same_of x y (compare_word x y) (view x y) e;
  self = word_self;
  flip = λ x y e. word_before y x (after_of x y (compare_word x y) (view x y) e);
  trans = λ x y z e f. word_before x z (omega (arith, before_of x y (compare_word x y) (view x y) e, before_of y z (compare_word y z) (view y z) f));
}

-- ---- rows: the first column that differs decides

row_same : (s t : List ℕ) → compare_row s t ≡ Equal → s ≡ t
unfolding compare_row
row_same [] [] e = refl
row_same [] (y ∷ t) e = before≢same e
row_same (x ∷ s) [] e = same≢after (sym e)
row_same (x ∷ s) (y ∷ t) e = step (row_same s t) (compare_word x y) refl e
  where
    step : (compare_row s t ≡ Equal → s ≡ t) → (o : Ordering) → compare_word x y ≡ o → then_by o (compare_row s t) ≡ Equal → x ∷ s ≡ y ∷ t
    step ih Less p q = before≢same q
    step ih Equal p q = ap₂ (λ (a : ℕ) (l : List ℕ). a ∷ l) (words.same x y p) (ih q)
    step ih Greater p q = same≢after (sym q)

row_self : (s : List ℕ) → compare_row s s ≡ Equal
unfolding compare_row
row_self [] = refl
row_self (x ∷ s) = ap (λ (o : Ordering). then_by o (compare_row s s)) (word_self x) ∙ row_self s

row_flip : (s t : List ℕ) → compare_row s t ≡ Greater → compare_row t s ≡ Less
unfolding compare_row
row_flip [] [] e = same≢after e
row_flip [] (y ∷ t) e = before≢after e
row_flip (x ∷ s) [] e = refl
row_flip (x ∷ s) (y ∷ t) e = step (row_flip s t) (compare_word x y) refl e
  where
    step : (compare_row s t ≡ Greater → compare_row t s ≡ Less) → (o : Ordering) → compare_word x y ≡ o → then_by o (compare_row s t) ≡ Greater
        → then_by (compare_word y x) (compare_row t s) ≡ Less
    step ih Less p q = before≢after q
    step ih Equal p q =
        ap₂ then_by (ap₂ compare_word (sym (words.same x y p)) (words.same x y p) ∙ p) (ih q)
    step ih Greater p q = ap (λ (o : Ordering). then_by o (compare_row t s)) (words.flip x y p)

row_trans : (s t u : List ℕ) → compare_row s t ≡ Less → compare_row t u ≡ Less → compare_row s u ≡ Less
unfolding compare_row
row_trans [] [] u e f = before≢same (sym e)
row_trans [] (y ∷ t) [] e f = before≢after (sym f)
row_trans [] (y ∷ t) (z ∷ u) e f = refl
row_trans (x ∷ s) [] u e f = before≢after (sym e)
row_trans (x ∷ s) (y ∷ t) [] e f = before≢after (sym f)
row_trans (x ∷ s) (y ∷ t) (z ∷ u) e f = step (row_trans s t u) (compare_word x y) (compare_word y z) refl refl e f
  where
    step : (compare_row s t ≡ Less → compare_row t u ≡ Less → compare_row s u ≡ Less) → (o p : Ordering) → compare_word x y ≡ o → compare_word y z ≡ p
        → then_by o (compare_row s t) ≡ Less → then_by p (compare_row t u) ≡ Less
        → then_by (compare_word x z) (compare_row s u) ≡ Less
    step ih Less Less a b g h = ap (λ (o : Ordering). then_by o (compare_row s u)) (words.trans x y z a b)
    step ih Less Equal a b g h = ap (λ (o : Ordering). then_by o (compare_row s u)) (ap (compare_word x) (sym (words.same y z b)) ∙ a)
    step ih Less Greater a b g h = before≢after (sym h)
    step ih Equal Less a b g h = ap (λ (o : Ordering). then_by o (compare_row s u)) (ap (λ (w : ℕ). compare_word w z) (words.same x y a) ∙ b)
    step ih Equal Equal a b g h = ap₂ then_by (ap (compare_word x) (sym (words.same y z b)) ∙ a) (ih g h)
    step ih Equal Greater a b g h = before≢after (sym h)
    step ih Greater Less a b g h = before≢after (sym g)
    step ih Greater Equal a b g h = before≢after (sym g)
    step ih Greater Greater a b g h = before≢after (sym g)

pub rows : Orders compare_row
rows = record { same = row_same; self = row_self; flip = row_flip; trans = row_trans }

-- ---- sets

set_same : (s t : List Bool) → compare_set s t ≡ Equal → s ≡ t
unfolding compare_set
set_same [] [] e = refl
set_same [] (m ∷ t) e = before≢same e
set_same (m ∷ s) [] e = same≢after (sym e)
set_same (true ∷ s) (true ∷ t) e = ap (λ (l : List Bool). true ∷ l) (set_same s t e)
set_same (true ∷ s) (false ∷ t) e = before≢same e
set_same (false ∷ s) (true ∷ t) e = same≢after (sym e)
set_same (false ∷ s) (false ∷ t) e = ap (λ (l : List Bool). false ∷ l) (set_same s t e)

set_self : (s : List Bool) → compare_set s s ≡ Equal
unfolding compare_set
set_self [] = refl
set_self (true ∷ s) = set_self s
set_self (false ∷ s) = set_self s

set_flip : (s t : List Bool) → compare_set s t ≡ Greater → compare_set t s ≡ Less
unfolding compare_set
set_flip [] [] e = same≢after e
set_flip [] (m ∷ t) e = before≢after e
set_flip (m ∷ s) [] e = refl
set_flip (true ∷ s) (true ∷ t) e = set_flip s t e
set_flip (true ∷ s) (false ∷ t) e = before≢after e
set_flip (false ∷ s) (true ∷ t) e = refl
set_flip (false ∷ s) (false ∷ t) e = set_flip s t e

set_trans : (s t u : List Bool) → compare_set s t ≡ Less → compare_set t u ≡ Less → compare_set s u ≡ Less
unfolding compare_set
set_trans [] [] u e f = before≢same (sym e)
set_trans [] (m ∷ t) [] e f = before≢after (sym f)
set_trans [] (m ∷ t) (k ∷ u) e f = refl
set_trans (m ∷ s) [] u e f = before≢after (sym e)
set_trans (m ∷ s) (k ∷ t) [] e f = before≢after (sym f)
set_trans (true ∷ s) (true ∷ t) (true ∷ u) e f = set_trans s t u e f
set_trans (true ∷ s) (true ∷ t) (false ∷ u) e f = refl
set_trans (true ∷ s) (false ∷ t) (true ∷ u) e f = before≢after (sym f)
set_trans (true ∷ s) (false ∷ t) (false ∷ u) e f = refl
set_trans (false ∷ s) (true ∷ t) (k ∷ u) e f = before≢after (sym e)
set_trans (false ∷ s) (false ∷ t) (true ∷ u) e f = before≢after (sym f)
set_trans (false ∷ s) (false ∷ t) (false ∷ u) e f = set_trans s t u e f

pub sets : Orders compare_set
sets = record { same = set_same; self = set_self; flip = set_flip; trans = set_trans }

-- sets of one length, and other positions behind them: these tell where the sets are the same
pub set-append : (s t more other : List Bool) → length s ≡ length t
    → compare_set (s ++ more) (t ++ other) ≡ then_by (compare_set s t) (compare_set more other)
unfolding compare_set
set-append [] [] more other e = refl
set-append [] (m ∷ t) more other e = absurd (omega arith)
set-append (m ∷ s) [] more other e = absurd (omega arith)
set-append (true ∷ s) (true ∷ t) more other e = set-append s t more other (omega arith)
set-append (true ∷ s) (false ∷ t) more other e = refl
set-append (false ∷ s) (true ∷ t) more other e = refl
set-append (false ∷ s) (false ∷ t) more other e = set-append s t more other (omega arith)

pub then_same : (o : Ordering) → then_by o Equal ≡ o
then_same Less = refl
then_same Equal = refl
then_same Greater = refl

-- the same positions behind two sets leave their order
pub set_behind : (s t rest : List Bool) → length s ≡ length t → compare_set (s ++ rest) (t ++ rest) ≡ compare_set s t
set_behind s t rest e = set-append s t rest rest e ∙ ap (then_by (compare_set s t)) (set_self rest) ∙ then_same (compare_set s t)

-- ---- all sets, in set order

-- the same mark before two sets leaves their order
set_before : (m : Bool) (s t : List Bool) → compare_set (m ∷ s) (m ∷ t) ≡ compare_set s t
unfolding compare_set
set_before true s t = refl
set_before false s t = refl

above_map : (m : Bool) (s : List Bool) (l : List (List Bool)) → BeforeAll compare_set s l → BeforeAll compare_set (m ∷ s) (map (λ t. m ∷ t) l)
above_map m s l h = above_image compare_set compare_set (λ t. m ∷ t) s l (λ t k e. set_before m s t ∙ e) h

strict_map : (m : Bool) (l : List (List Bool)) → StrictlyAscending compare_set l → StrictlyAscending compare_set (map (λ t. m ∷ t) l)
strict_map m l h = strict_image compare_set compare_set (λ t. m ∷ t) l (λ s t j k e. set_before m s t ∙ e) h

above_other : (s : List Bool) (l : List (List Bool)) → BeforeAll compare_set (true ∷ s) (map (λ t. false ∷ t) l)
unfolding compare_set
above_other s [] = tt
above_other s (t ∷ l) = (refl, above_other s l)

strict-both : (l k : List (List Bool)) → StrictlyAscending compare_set l → StrictlyAscending compare_set k
    → StrictlyAscending compare_set (map (λ t. true ∷ t) l ++ map (λ t. false ∷ t) k)
strict-both [] k h g = strict_map false k g
strict-both (s ∷ l) k h g =
    (above_append sets (true ∷ s) (map (λ t. true ∷ t) l) (map (λ t. false ∷ t) k) (above_map true s l h.0) (above_other s k), strict-both l k h.1 g)

pub subsets_rise : (n : ℕ) → StrictlyAscending compare_set (subsets n)
unfolding subsets
subsets_rise zero = (tt, tt)
subsets_rise (suc n) = strict-both (subsets n) (subsets n) (subsets_rise n) (subsets_rise n)
