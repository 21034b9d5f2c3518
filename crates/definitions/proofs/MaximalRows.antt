-- A maximal set of positions in a strictly ascending table is a maximal set of its rows. Assumes nothing.
use mathlib.Core.Path.{◌≡◌, refl, sym, ◌∙◌, ap, ap₂, subst}
use mathlib.Core.Bool.{Bool}
use mathlib.Core.List.{List, []}
use Prim.Native.Nat.{ℕ, ◌<◌}
use native.Mathlib.Omega.{arith}
use lib.Dec.{ltb}
use lib.ListN.{length, get_or}
use borrow.Author.Tests.{ltb-true, ltb-false}
use Rattle.std.specs.declared.cmp.Ordering.TheVariants.{Less}
use Rattle.definitions.specs.OuterUnion.{compare_row}
use Rattle.definitions.specs.ComplementUnion.{complement, contains, adjacent_to_all, complement_at, members}
use Rattle.definitions.specs.Statements.{Member, StrictlyAscending}
use Rattle.definitions.specs.Demand3.{MaximalRows}
use Rattle.definitions.specs.Claims.{Holds, Maximal}
use Rattle.definitions.proofs.Bools.{bool_cases, clash}
use Rattle.definitions.proofs.Ascending.{not_before_self, strict-get}
use Rattle.definitions.proofs.Orders.{rows}
use Rattle.definitions.proofs.Lists.{member_at, member-get}
use Rattle.definitions.proofs.Sets.{holds_within, adjacent-all, adjacent_some_not}
use Rattle.definitions.proofs.Joined.{members_are}

-- different positions of an ascending list have different rows
apart_by : (t : List (List ℕ)) → StrictlyAscending compare_row t → (j k : ℕ) → j < k → k < length t → get_or t j [] ≡ get_or t k [] → ⊥
apart_by t h j k p q e =
    not_before_self rows (get_or t k []) (subst (λ (r : List ℕ). compare_row r (get_or t k []) ≡ Less) e (strict-get rows [] t j k h p q))

rows_apart : (t : List (List ℕ)) → StrictlyAscending compare_row t → (j k : ℕ) → j < length t → k < length t → get_or t j [] ≡ get_or t k [] → j ≡ k
rows_apart t h j k p q e =
    bool_cases (ltb j k) (λ f. absurd (apart_by t h j k (ltb-true j k f) q e))
    (λ f.
    bool_cases (ltb k j) (λ g. absurd (apart_by t h k j (ltb-true k j g) p (sym e)))
    (λ g. omega (arith, ltb-false j k f, ltb-false k j g)))

module _ (columns : List ℕ) (t : List (List ℕ)) (strict : StrictlyAscending compare_row t) (s : List Bool) where
  pub maximal_rows : Maximal (complement_at columns t) (length t) s → MaximalRows columns t s
  maximal_rows m =
      let c = m.complementing in
      let k = c.some.0 in
      record {
        size = c.size;
        some = (get_or t k [], (members_are t s (get_or t k [])).1 (k, rw (← c.size) (holds_within s k c.some.1), c.some.1, refl));
        pairwise = λ q r hq hr d.
            let i = (members_are t s q).0 hq in
            let j = (members_are t s r).0 hr in
            ap₂ (complement columns) i.3 j.3
            ∙ c.pairwise i.0 j.0 i.2 j.2 (λ e. d (i.3 ∙ ap (λ (k : ℕ). get_or t k []) e ∙ sym j.3));
        outside = λ r h out f.
            let i = member_at [] r t h in
            let o = m.outside i.0 i.1 (bool_cases (contains s i.0) (λ e. absurd (out ((members_are t s r).1 (i.0, i.1, e, sym i.2)))) (λ e. e)) in
            let q = get_or t o.0 [] in
            clash (f q ((members_are t s q).1 (o.0, rw (← c.size) (holds_within s o.0 o.1), o.1, refl)))
            (ap (λ (x : List ℕ). complement columns x q) (sym i.2) ∙ o.2);
      }

  pub rows_maximal : MaximalRows columns t s → Maximal (complement_at columns t) (length t) s
  rows_maximal m =
      let i = (members_are t s m.some.0).0 m.some.1 in
      let below : (k : ℕ) → Holds s k → k < length t = λ k h. rw (← m.size) (holds_within s k h) in
      let is : (k : ℕ) → Holds s k → Member (get_or t k []) (members t s) = λ k h. (members_are t s (get_or t k [])).1 (k, below k h, h, refl) in
      record {
        complementing = record {
          size = m.size;
          some = (i.0, i.2);
          pairwise = λ j k hj hk d.
              m.pairwise (get_or t j []) (get_or t k []) (is j hj) (is k hk) (λ e. d (rows_apart t strict j k (below j hj) (below k hk) e));
        };
        outside = λ j h out.
            bool_cases (adjacent_to_all (complement_at columns t) (length t) s j)
            (λ e. absurd (m.outside (get_or t j []) (member-get [] t j h)
            (λ p. let k = (members_are t s (get_or t j [])).0 p in clash k.2 (ap (contains s) (sym (rows_apart t strict j k.0 h k.1 k.3)) ∙ out))
            (λ q p. let k = (members_are t s q).0 p in ap (complement columns (get_or t j [])) k.3 ∙ adjacent-all (complement_at columns t) (length t) s j m.size e k.0 k.2)))
            (λ e. adjacent_some_not (complement_at columns t) (length t) s j e);
      }
