-- The maximal sets of all rows are those of a part and those of the others; those of a part hold its common rows, and beside them a maximal
-- set of its other rows. So sets that are listed part by part are all of them, none twice: `parts_adds`. Assumes nothing.
use mathlib.Core.Path.{◌≡◌, refl, sym, ap, ◌∙◌, subst}
use mathlib.Core.Logic.{◌⊎◌, inl, inr}
use mathlib.Core.List.{List, ◌++◌, map}
use Prim.Native.Nat.{ℕ, ◌≤◌}
use native.Mathlib.Omega.{arith}
use lib.Dec.{eqb}
use borrow.Author.Tests.{eqb-true, eqb-false}
use Rattle.std.proofs.lemmas.Bool.{false_from_ne_true}
use Rattle.definitions.proofs.Bools.{bool_cases, clash}
use Rattle.bitsets.specs.Bits.{has, but_not, either, Inside, Sub, size_below}
use Rattle.bitsets.proofs.Bits.{In, some, has_none, same_set, but_in, but_l, but_out, either_l, either_r, either_cases}
use Rattle.cliques.specs.Maximal.{Max, Adds}
use Rattle.cliques.specs.Search.{adjacent_by, Split}
use Rattle.cliques.specs.Parts.{Part, Common, Parts, ends, fills, next}
use Rattle.cliques.proofs.Maximal.{Simple}
use Rattle.cliques.proofs.Adds.{adds_none, adds_both, adds_map}
use Rattle.cliques.proofs.Run.{run_adds}

module _ (N : ℕ → ℕ) (n : ℕ) (g : Simple (adjacent_by N) n) where
  abbrev M : ℕ → ℕ → Type 0
  M = Max (adjacent_by N)

  -- a maximal set that is not empty
  abbrev pub NonEmpty : ℕ → ℕ → Type 0
  NonEmpty rows x = M rows x × ((k : ℕ) × In x k)

  -- ---- the rows that complement all others of a part

  module _ (part common : ℕ) (inside : Inside part n) (c : Common (adjacent_by N) part common) where
    abbrev core : ℕ
    core = but_not part common

    adjacent_common : (j k : ℕ) → In part j → In common k → (j ≡ k → ⊥) → In (N j) k
    adjacent_common j k hj hk ne = g.symmetric j k (inside j hj) (inside k (c.within k hk)) ∙ c.all k j hk hj (λ e. ne (sym e))

    core_part : Sub core part
    core_part = but_l part common

    -- a row of the core is none of the common ones
    core_apart : (j k : ℕ) → In core j → In common k → j ≡ k → ⊥
    core_apart j k hj hk e = clash hk (ap (has common) (sym e) ∙ but_out part common j hj)

    -- they are put into a set of the core
    join-max : (x : ℕ) → M core x → M part (either x common)
    join-max x m = record {
      inside = λ k h. either_cases x common k h (λ p. core_part k (m.inside k p)) (c.within k);
      clique = λ j k hj hk ne.
          either_cases x common j hj
          (λ p. either_cases x common k hk (λ q. m.clique j k p q ne) (λ q. adjacent_common j k (core_part j (m.inside j p)) q ne))
          (λ p. c.all j k p (either_cases x common k hk (λ q. core_part k (m.inside k q)) (c.within k)) ne);
      full = λ j h adjacent. bool_cases (has common j)
          (λ t. clash (adjacent j (either_r x common j t)) (g.apart j (inside j h)))
          (λ t. m.full j (but_in part common j h t) (λ k p. adjacent k (either_l x common k p)));
    }

    -- and every set of the part is made so
    holds_common : (y : ℕ) → M part y → Sub common y
    holds_common y m k h =
        bool_cases (has y k) (λ t. t)
        (λ t. absurd (m.full k (c.within k h) (λ j p. c.all k j h (m.inside j p) (λ e. clash p (ap (has y) (sym e) ∙ t)))))

    part_max : (y : ℕ) → M part y → (x : ℕ) × M core x × (y ≡ either x common)
    part_max y m =
        let x = but_not y common in (
          x,
          record {
            inside = λ k h. but_in part common k (m.inside k (but_l y common k h)) (but_out y common k h);
            clique = λ j k hj hk ne. m.clique j k (but_l y common j hj) (but_l y common k hk) ne;
            full = λ j h adjacent. m.full j (core_part j h)
                (λ k p. bool_cases (has common k) (λ t. adjacent_common j k (core_part j h) t (core_apart j k h t)) (λ t. adjacent k (but_in y common k p t)));
          },
          same_set y (either x common)
              (λ k p. bool_cases (has common k) (either_r x common k) (λ t. either_l x common k (but_in y common k p t)))
              (λ k p. either_cases x common k p (but_l y common k) (holds_common y m k)),
        )

    same_core : (x y : ℕ) → M core x → M core y → either x common ≡ either y common → Sub x y
    same_core x y mx my e k h =
        either_cases y common k (ap (λ (z : ℕ). has z k) (sym e) ∙ either_l x common k h) (λ p. p)
        (λ p. absurd (core_apart k k (mx.inside k h) p refl))

    common_adds : (cap : ℕ) (l new : List ℕ) → Adds (M core) cap l (l ++ new) → Adds (M part) cap l (l ++ map (λ s. either s common) new)
    common_adds cap l new a =
        adds_map cap (M core) (M part) (λ s. either s common) l new join-max
        (λ x y p q e. same_set x y (same_core x y p q e) (same_core y x q p (sym e))) part_max a

  -- ---- a part, and the rows that are left

  module _ (rows part : ℕ) (inside : Inside rows n) (p : Part (adjacent_by N) rows part) where
    abbrev others : ℕ
    others = but_not rows part

    -- a set of rows that has one of the part has no other
    stays : (x : ℕ) → M rows x → (k : ℕ) → In x k → In part k → Sub x part
    stays x m k hk pk j hj =
        bool_cases (eqb k j) (λ t. subst (In part) (eqb-true k j t) pk)
        (λ t. p.closed k j pk (m.inside j hj) (m.clique k j hk hj (eqb-false k j t)))

    part_some : (x : ℕ) → M part x → (k : ℕ) × In x k
    part_some x m =
        bool_cases (eqb x 0)
        (λ t. absurd (m.full p.row p.there (λ k h. absurd (clash h (ap (λ (y : ℕ). has y k) (eqb-true x 0 t) ∙ has_none k)))))
        (λ t. some x (eqb-false x 0 t))

    of_part : (x : ℕ) → M part x → NonEmpty rows x
    of_part x m =
        let k = part_some x m in (
          record {
            inside = λ j h. p.within j (m.inside j h);
            clique = m.clique;
            full = λ j h adjacent. bool_cases (has part j) (λ t. m.full j t adjacent)
                (λ t. clash (p.closed k.0 j (m.inside k.0 k.1) h
                (g.symmetric k.0 j (inside k.0 (p.within k.0 (m.inside k.0 k.1))) (inside j h) ∙ adjacent k.0 k.1)) t);
          },
          k,
        )

    of_others : (x : ℕ) → NonEmpty others x → NonEmpty rows x
    of_others x (m, k) = (
      record {
        inside = λ j h. but_l rows part j (m.inside j h);
        clique = m.clique;
        full = λ j h adjacent. bool_cases (has part j)
            (λ t. let o = m.inside k.0 k.1 in clash (p.closed j k.0 t (but_l rows part k.0 o) (adjacent k.0 k.1)) (but_out rows part k.0 o))
            (λ t. m.full j (but_in rows part j h t) adjacent);
      },
      k,
    )

    apart : (x : ℕ) → M part x → NonEmpty others x → ⊥
    apart x m (o, k) = clash (m.inside k.0 k.1) (but_out rows part k.0 (o.inside k.0 k.1))

    one_of : (x : ℕ) → NonEmpty rows x → M part x ⊎ NonEmpty others x
    one_of x (m, k) =
        bool_cases (has part k.0)
        (λ t. inl (record { inside = stays x m k.0 k.1 t; clique = m.clique; full = λ j h adjacent. m.full j (p.within j h) adjacent }))
        (λ t. inr (
          record {
            inside = λ j h. but_in rows part j (m.inside j h) (false_from_ne_true (has part j) (λ q. clash (stays x m j h q k.0 k.1) t));
            clique = m.clique;
            full = λ j h adjacent. m.full j (but_l rows part j h) adjacent;
          },
          k,
        ))

  pub parts_adds : (cap width : ℕ) (fits : n ≤ width) {rows calls : ℕ} {l out : List ℕ} → Parts N cap width rows l out calls → Inside rows n → Adds (NonEmpty rows) cap l out
  parts_adds cap width fits {l = l} (ends e) h =
      adds_none cap _ l (λ few x q. clash (q.0.inside q.1.0 q.1.1) (ap (λ (y : ℕ). has y q.1.0) e ∙ has_none q.1.0))
  parts_adds cap width fits {l = l} (fills e) h = adds_none cap _ l (λ few x q. omega arith)
  parts_adds cap width fits {rows} {l = l} (next {part = part} common new few p c a b) h =
      let within : Inside part n = λ k q. h k (p.within k q) in
      let split : Split n width 0 (but_not part common) (size_below width (but_not part common)) =
      record {
        fits = fits;
        past = λ k q. absurd (clash q (has_none k));
        ahead = λ k q. within k (but_l part common k q);
        apart = λ k q. has_none k;
        counted = refl;
      } in
      adds_both cap (M part) (NonEmpty (but_not rows part)) (NonEmpty rows)
      (of_part rows part h p) (of_others rows part h p) (one_of rows part h p) (apart rows part h p)
      (common_adds part common within c cap l new (run_adds N n width g cap a split))
      (parts_adds cap width fits b (λ k q. h k (but_l rows part k q)))
