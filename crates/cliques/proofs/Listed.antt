-- The sets that the definition lists, as numbers: they are the maximal sets of n rows, in set order. Assumes nothing.
use mathlib.Core.Path.{◌≡◌, sym, ap, ◌∙◌, subst}
use mathlib.Core.Bool.{Bool, false, not}
use mathlib.Core.List.{List, map}
use Prim.Native.Nat.{ℕ, ◌<◌}
use native.Mathlib.Omega.{arith}
use lib.Dec.{ltb}
use lib.ListN.{length}
use borrow.Author.Tests.{ltb-true, ltb-false, not-false}
use Rattle.definitions.specs.Lists.{all_below, tabulate}
use Rattle.definitions.specs.ComplementUnion.{contains, adjacent_to_all, maximal_sets}
use Rattle.definitions.specs.SetList.{bits}
use Rattle.definitions.specs.ComplementUnion.{compare_set}
use Rattle.definitions.specs.Statements.{Member, StrictlyAscending}
use Rattle.definitions.proofs.Ascending.{strict_image}
use Rattle.definitions.specs.Claims.{Holds, Maximal}
use Rattle.definitions.proofs.Tabulate.{tabulate-length, tabulate_at, tabulate_below}
use Rattle.std.proofs.lemmas.Bool.{false_from_ne_true}
use Rattle.definitions.proofs.Bools.{bool_cases, clash}
use Rattle.definitions.proofs.Lists.{member-map, map-member, below_true, below_false}
use Rattle.definitions.proofs.Sets.{holds_within, adjacent-all, adjacent_some_not, listed_is, listed_rise}
use Rattle.bitsets.specs.Bits.{has, rows_below, compare_bits}
use Rattle.cliques.specs.Maximal.{Max}
use Rattle.bitsets.proofs.Bits.{has_ext, has-bits, below_of, below_in}
use Rattle.bitsets.proofs.Order.{set_order}

-- the definition's sets as numbers
abbrev pub listed : (ℕ → ℕ → Bool) → ℕ → List ℕ
listed adjacent n = map bits (maximal_sets adjacent n)

module _ (adjacent : ℕ → ℕ → Bool) (n : ℕ) where
  size : (s : List Bool) → Member s (maximal_sets adjacent n) → length s ≡ n
  size s h = ((listed_is adjacent n s).0 h).complementing.size

  pub listed_rises : StrictlyAscending compare_bits (listed adjacent n)
  listed_rises = strict_image compare_set compare_bits bits (maximal_sets adjacent n) (λ s t h k e. set_order s t (size s h ∙ sym (size t k)) ∙ e) (listed_rise adjacent n)

  module _ (apart : (j : ℕ) → j < n → adjacent j j ≡ false) where
    to_max : (s : List Bool) → Maximal adjacent n s → Max adjacent (rows_below n) (bits s)
    to_max s m = record {
      inside = λ k h. below_in n k (omega (arith, m.complementing.size, holds_within s k (sym (has-bits s k) ∙ h)));
      clique = λ j k hj hk d. m.complementing.pairwise j k (sym (has-bits s j) ∙ hj) (sym (has-bits s k) ∙ hk) d;
      full = λ j h f. bool_cases (contains s j)
          (λ a. clash (f j (has-bits s j ∙ a)) (apart j (below_of n j h)))
          (λ a. let o = m.outside j (below_of n j h) a in clash (f o.0 (has-bits s o.0 ∙ o.1)) o.2);
    }

    -- a set that row 0 does not complement all of has a member
    member : 0 < n → (s : List Bool) → Max adjacent (rows_below n) (bits s) → (k : ℕ) × Holds s k
    member pos s m =
        let i = below_false (λ k. not (contains s k)) n
        (false_from_ne_true (all_below n (λ k. not (contains s k)))
        (λ t. m.full 0 (below_in n 0 pos) (λ k h. absurd (clash (below_true (λ k. not (contains s k)) n t k (below_of n k (m.inside k h))) (ap not (sym (has-bits s k) ∙ h)))))) in
        (i.0, not-false (contains s i.0) i.2)

    of_max : 0 < n → (s : List Bool) → length s ≡ n → Max adjacent (rows_below n) (bits s) → Maximal adjacent n s
    of_max pos s e m = record {
      complementing = record {
        size = e;
        some = member pos s m;
        pairwise = λ j k hj hk d. m.clique j k (has-bits s j ∙ hj) (has-bits s k ∙ hk) d;
      };
      outside = λ j h a. adjacent_some_not adjacent n s j
          (false_from_ne_true (adjacent_to_all adjacent n s j) (λ t. m.full j (below_in n j h) (λ k r. adjacent-all adjacent n s j e t k (sym (has-bits s k) ∙ r))));
    }

    pub listed_max : (w : ℕ) → Member w (listed adjacent n) → Max adjacent (rows_below n) w
    listed_max w h =
        let a = map-member bits w (maximal_sets adjacent n) h in
        subst (Max adjacent (rows_below n)) (sym a.2) (to_max a.0 ((listed_is adjacent n a.0).0 a.1))

    pub max_listed : 0 < n → (w : ℕ) → Max adjacent (rows_below n) w → Member w (listed adjacent n)
    max_listed pos w m =
        let s = tabulate n (has w) in
        let e : bits s ≡ w =
        has_ext (bits s) w (λ k. has-bits s k ∙ bool_cases (ltb k n) (λ t. tabulate_at n (has w) k (ltb-true k n t))
        (λ t.
        let l = ltb-false k n t in
        false_from_ne_true (contains s k) (λ h. let r = tabulate_below n (has w) k h in omega arith)
        ∙ sym (false_from_ne_true (has w k) (λ h. let r = below_of n k (m.inside k h) in omega arith)))) in
        subst (λ (x : ℕ). Member x (listed adjacent n)) e
        (member-map bits s (maximal_sets adjacent n) ((listed_is adjacent n s).1 (of_max pos s (tabulate-length n (has w)) (subst (Max adjacent (rows_below n)) (sym e) m))))
