-- The other rows than that at position k, and how many of them are tried: all, or those up to the first that subsumes. Assumes nothing.
use mathlib.Core.Path.{◌≡◌, refl, sym, ◌∙◌, ap}
use Rattle.std.specs.Prelude.{Option, Some, None, is_some}
use mathlib.Core.Bool.{true}
use mathlib.Core.List.{List, [], ◌∷◌}
use Prim.Native.Nat.{ℕ, zero, suc, ◌+◌, ◌-◌, ◌<◌, ◌≤◌}
use native.Mathlib.Nat.{le_of_suc-le-suc, not-suc-le-zero}
use native.Mathlib.Numerals.{add-one}
use native.Mathlib.Omega.{arith}
use lib.ListN.{length, get_or, take, drop, get_or-append}
use lib.Seq.{get_or-take, get_or-drop, get_or-append-add, length-take-le}
use lib.Dec.{ltb}
use borrow.Author.Tests.{ltb-true, ltb-false}
use Rattle.definitions.specs.Lists.{without}
use Rattle.definitions.specs.MinimumUnion.{subsumes, tries}
use Rattle.definitions.proofs.Bools.{bool_cases, clash}
use Rattle.minimum.specs.Trying.{NoneBefore, FirstSubsumer, is_subsumed, tries_at}
use Rattle.definitions.proofs.Lists.{member-get, member_at, any_of, any_none}
use Rattle.definitions.proofs.Subsumption.{subsumes_self}
use Rattle.definitions.proofs.Counts.{without-length}

-- ---- a list without what stands at index k

module _ {A : Type 0} (d : A) (k : ℕ) (l : List A) (within : k < length l) where
  without_before : (i : ℕ) → i < k → get_or (without k l) i d ≡ get_or l i d
  without_before i h = get_or-append (take k l) (drop (suc k) l) d i (omega (arith, length-take-le k l (omega arith))) ∙ get_or-take k l i d h

  without_after : (i : ℕ) → k ≤ i → get_or (without k l) i d ≡ get_or l (suc i) d
  without_after i h =
      let e : i ≡ length (take k l) + (i - k) = omega (arith, length-take-le k l (omega arith)) in
      let f : suc k + (i - k) ≡ suc i = omega arith in
      ap (λ (j : ℕ). get_or (without k l) j d) e
      ∙ get_or-append-add (take k l) (drop (suc k) l) (i - k) d
      ∙ get_or-drop (suc k) l (i - k) d
      ∙ ap (λ (j : ℕ). get_or l j d) f

-- ---- the trying of t

module _ (t : List ℕ) where
  tries-all : (rows : List (List ℕ)) → NoneBefore t rows (length rows) → tries t rows ≡ length rows
  unfolding tries
  tries-all [] p = refl
  tries-all (s ∷ rows) p = rw (p 0 (omega arith)) (ap suc (tries-all rows (λ i h. p (suc i) (omega arith))))

  tries_to : (rows : List (List ℕ)) (j : ℕ) → NoneBefore t rows j → j < length rows → subsumes (get_or rows j []) t ≡ true → tries t rows ≡ suc j
  unfolding tries
  tries_to [] j p h e = absurd (not-suc-le-zero h)
  tries_to (s ∷ rows) zero p h e = rw e
  tries_to (s ∷ rows) (suc j) p h e =
      rw (p 0 (omega arith)) (ap suc (tries_to rows j (λ i g. p (suc i) (omega arith)) (le_of_suc-le-suc h) e))

  -- with the other rows than that at position k
  module _ (rows : List (List ℕ)) (k : ℕ) (within : k < length rows) where
    before : (i : ℕ) → i < k → subsumes (get_or (without k rows) i []) t ≡ subsumes (get_or rows i []) t
    before i h = ap (λ (s : List ℕ). subsumes s t) (without_before [] k rows within i h)

    after : (i : ℕ) → k ≤ i → subsumes (get_or (without k rows) i []) t ≡ subsumes (get_or rows (suc i) []) t
    after i h = ap (λ (s : List ℕ). subsumes s t) (without_after [] k rows within i h)

    passed_others : (j : ℕ) → NoneBefore t rows (suc j) → NoneBefore t (without k rows) j
    passed_others j p i g =
        bool_cases (ltb i k)
        (λ e. before i (ltb-true i k e) ∙ p i (omega arith))
        (λ e. after i (ltb-false i k e) ∙ p (suc i) (omega arith))

    pub others_all : NoneBefore t rows (length rows) → tries t (without k rows) ≡ length rows - 1
    others_all p =
        let o = without-length k rows within in
        tries-all (without k rows) (passed_others (length (without k rows)) (λ i h. p i (omega arith))) ∙ o

    -- the first row that subsumes t stands at j
    module _ (j : ℕ) (h : j < length rows) (p : NoneBefore t rows j) (e : subsumes (get_or rows j []) t ≡ true) where
      pub others_before : j < k → tries t (without k rows) ≡ suc j
      others_before g =
          tries_to (without k rows) j (λ i f. before i (omega arith) ∙ p i f) (omega (arith, without-length k rows within)) (before j g ∙ e)

      pub others_after : k < j → tries t (without k rows) ≡ j
      others_after g =
          let o = without-length k rows within in
          let q : suc (j - 1) ≡ j = omega arith in
          tries_to (without k rows) (j - 1) (passed_others (j - 1) (rw q p)) (omega arith) (after (j - 1) (omega arith) ∙ rw q e) ∙ q

-- ---- what the trying of row k finds

pub found_some : (rows : List (List ℕ)) (k : ℕ) (s : Option ℕ) → FirstSubsumer rows k s → is_some s ≡ is_subsumed rows k
found_some rows k None p =
    sym (any_none (λ s. subsumes s (get_or rows k [])) rows (λ s g.
    let i = member_at [] s rows g in
    ap (λ (u : List ℕ). subsumes u (get_or rows k [])) (sym i.2) ∙ p i.0 i.1))
found_some rows k (Some j) p = sym (any_of (λ s. subsumes s (get_or rows k [])) (get_or rows j []) rows (member-get [] rows j p.0) p.2)

module _ (rows : List (List ℕ)) (k : ℕ) (within : k < length rows) where
  pub tries_none : FirstSubsumer rows k None → length rows - 1 ≡ tries_at rows k
  tries_none p = sym (others_all (get_or rows k []) rows k within p)

  module _ (j : ℕ) (p : FirstSubsumer rows k (Some j)) where
    other_row : j ≡ k → ⊥
    other_row e = clash p.2 (ap (λ (i : ℕ). subsumes (get_or rows i []) (get_or rows k [])) e ∙ subsumes_self (get_or rows k []))

    pub tries_before : j < k → j + 1 ≡ tries_at rows k
    tries_before h = add-one j ∙ sym (others_before (get_or rows k []) rows k within j p.0 p.1 p.2 h)

    pub tries_after : k ≤ j → j ≡ tries_at rows k
    tries_after h = sym (others_after (get_or rows k []) rows k within j p.0 p.1 p.2 (omega (arith, other_row)))
