-- The counts of filled cells, written row after row, and the rows with a larger count, count after count. Assumes nothing.
use mathlib.Core.Path.{◌≡◌, refl, sym, ◌∙◌, ap, ap₂, subst}
use mathlib.Core.Bool.{true}
use mathlib.Core.Logic.{⊎_elim}
use mathlib.Core.List.{List, [], ◌∷◌, ◌++◌, map, map-append}
use Prim.Native.Nat.{ℕ, zero, suc, ◌+◌, ◌-◌, ◌*◌, ◌%◌, ◌^◌, ◌<◌, ◌≤◌}
use native.Mathlib.Numerals.{add-one}
use native.Mathlib.Omega.{arith}
use lib.Bits.{bit_or}
use lib.Dec.{eqb}
use lib.ListN.{length, get_or, set, take, drop, length-set, length-take, get_or-map}
use lib.Seq.{take-suc-set, get_or-set_same, get_or-set_other}
use borrow.Author.Tests.{eqb-true, eqb-false}
use Rattle.definitions.specs.Limits.{max_columns}
use Rattle.definitions.specs.Image.{rows_in}
use Rattle.definitions.specs.MinimumUnion.{filled}
use Rattle.std.proofs.lemmas.Bool.{or_cases}
use Rattle.definitions.proofs.Bools.{bool_cases, clash}
use Rattle.definitions.proofs.Lists.{below_cases}
use Rattle.definitions.proofs.Subsumption.{filled-empties}
use Rattle.patterns.proofs.Parts.{rows_snoc}
use Rattle.bitsets.specs.Bits.{has, with_row, word_bits}
use Rattle.bitsets.proofs.Bits.{bit_at, has-or, has_none, has_with_self, has_with_old, has_with_cases, or_in_l, or_in_r}
use Rattle.minimum.specs.Candidates.{EqualTo}

-- ---- the counts

-- the count of the next row is written
pub counts_turn : (c i : ℕ) (w row counts : List ℕ) (count : ℕ) → i < length counts → take i counts ≡ map filled (rows_in c i w)
    → row ≡ take c (drop (i * c) w) → count ≡ filled row → take (i + 1) (set counts i count) ≡ map filled (rows_in c (i + 1) w)
counts_turn c i w row counts count there inv er e =
    rw (add-one i) (take-suc-set counts i count there)
    ∙ ap₂ (λ (l : List ℕ) (x : ℕ). l ++ (x ∷ [])) inv (e ∙ ap filled er)
    ∙ sym (ap (map filled) (rows_snoc c i w) ∙ map-append filled (rows_in c i w) (take c (drop (i * c) w) ∷ []))

row_short : (c n : ℕ) (w : List ℕ) (j : ℕ) → length (get_or (rows_in c n w) j []) ≤ c
row_short c zero w j = omega arith
row_short c (suc n) w zero = omega (arith, length-take c w)
row_short c (suc n) w (suc j) = row_short c n (drop c w) j

-- the count of row j, and 0 past the last row
module _ (c n : ℕ) (w counts : List ℕ) (e : counts ≡ map filled (rows_in c n w)) where
  pub count_at : (j : ℕ) → get_or counts j 0 ≡ filled (get_or (rows_in c n w) j [])
  unfolding filled
  count_at j = ap (λ (l : List ℕ). get_or l j 0) e ∙ get_or-map filled (rows_in c n w) j []

  pub count_small : c ≤ max_columns → (j : ℕ) → get_or counts j 0 < suc max_columns
  count_small narrow j =
      let r = get_or (rows_in c n w) j [] in
      omega (arith, count_at j, filled-empties r, row_short c n w j)

-- ---- the rows with each count

module _ (counts : List ℕ) where
  pub equal_none : (words : List ℕ) → ((k : ℕ) → get_or words k 0 ≡ 0) → EqualTo counts 0 words
  equal_none words none = record {
    held = λ j h. absurd (omega arith);
    only = λ k j h. absurd (clash h (ap (λ (x : ℕ). has x j) (none k) ∙ has_none j));
  }

  -- one row more: its bit goes into the word of its count
  module _ (words : List ℕ) (n : ℕ) (few : n < word_bits) (there : get_or counts n 0 < length words) (inv : EqualTo counts n words) where
    abbrev own : ℕ
    own = get_or counts n 0

    abbrev word : ℕ
    word = bit_or (get_or words own 0) ((1 * 2 ^ n) % 2 ^ word_bits)

    abbrev new : List ℕ
    new = set words own word

    word_is : word ≡ with_row (get_or words own 0) n
    unfolding with_row
    word_is = ap (bit_or (get_or words own 0)) (bit_at word_bits n few)

    own_is : (j : ℕ) → has (get_or new own 0) j ≡ has (with_row (get_or words own 0) n) j
    own_is j = ap (λ (x : ℕ). has x j) (get_or-set_same words own word 0 there ∙ word_is)

    other_is : (k j : ℕ) → (k ≡ own → ⊥) → has (get_or new k 0) j ≡ has (get_or words k 0) j
    other_is k j d = ap (λ (x : ℕ). has x j) (get_or-set_other words own k word 0 d)

    still : (k j : ℕ) → has (get_or words k 0) j ≡ true → has (get_or new k 0) j ≡ true
    still k j h =
        bool_cases (eqb k own)
        (λ e.
        let q = eqb-true k own e in
        subst (λ (x : ℕ). has (get_or words x 0) j ≡ true → has (get_or new x 0) j ≡ true) (sym q)
        (λ g. own_is j ∙ has_with_old (get_or words own 0) n j g) h)
        (λ e. other_is k j (eqb-false k own e) ∙ h)

    new_only : (k j : ℕ) → has (get_or new k 0) j ≡ true → (j < n + 1) × (get_or counts j 0 ≡ k)
    new_only k j h =
        bool_cases (eqb k own)
        (λ e.
        let q = eqb-true k own e in
        has_with_cases (get_or words own 0) n j (sym (own_is j) ∙ ap (λ (x : ℕ). has (get_or new x 0) j) (sym q) ∙ h)
        (λ g. let o = inv.only own j g in (omega (arith, o.0), o.1 ∙ sym q))
        (λ g. (omega arith, ap (λ (i : ℕ). get_or counts i 0) g ∙ sym q)))
        (λ e. let o = inv.only k j (sym (other_is k j (eqb-false k own e)) ∙ h) in (omega (arith, o.0), o.1))

    pub equal_turn : EqualTo counts (n + 1) new
    equal_turn = record {
      held = λ j h.
          below_cases j n (rw add-one at h)
          (λ g. still (get_or counts j 0) j (inv.held j g))
          (λ g.
          subst (λ (i : ℕ). has (get_or new (get_or counts i 0) 0) i ≡ true) (sym g)
          (own_is n ∙ has_with_self (get_or words own 0) n));
      only = new_only;
    }

-- ---- the rows with a larger count, from the largest down

-- the words from k on hold the rows with a larger count, those below it the rows with their own, and `fuller` those with count k or more
pub record FullerFrom (counts found : List ℕ) (k fuller : ℕ) (words : List ℕ) : Type 0 where
  pub size : length words ≡ length found
  pub left : (i : ℕ) → i < k → get_or words i 0 ≡ get_or found i 0
  pub held : (i j : ℕ) → k ≤ i → j < length counts → i < get_or counts j 0 → has (get_or words i 0) j ≡ true
  pub only : (i j : ℕ) → k ≤ i → has (get_or words i 0) j ≡ true → (j < length counts) × (i < get_or counts j 0)
  pub above : (j : ℕ) → j < length counts → k ≤ get_or counts j 0 → has fuller j ≡ true
  above_only : (j : ℕ) → has fuller j ≡ true → (j < length counts) × (k ≤ get_or counts j 0)

module _ (counts found : List ℕ) (small : (j : ℕ) → get_or counts j 0 < length found) (equal : EqualTo counts (length counts) found) where
  past : (i j : ℕ) → length found ≤ i → has (get_or found i 0) j ≡ true → ⊥
  past i j h g = let o = equal.only i j g in omega (arith, small j, o.1)

  pub fuller_none : FullerFrom counts found (length found) 0 found
  fuller_none = record {
    size = refl;
    left = λ i h. refl;
    held = λ i j h g l. absurd (omega (arith, small j));
    only = λ i j h g. absurd (past i j h g);
    above = λ j h g. absurd (omega (arith, small j));
    above_only = λ j h. absurd (clash h (has_none j));
  }

  module _ (k fuller : ℕ) (words : List ℕ) (some : 0 < k) (within : k ≤ length found) (inv : FullerFrom counts found k fuller words) where
    abbrev at : ℕ
    at = k - 1

    at_there : at < length words
    at_there = omega (arith, inv.size)

    at_own : get_or words at 0 ≡ get_or found at 0
    at_own = inv.left at (omega arith)

    abbrev next : List ℕ
    next = set words at fuller

    at_is : get_or next at 0 ≡ fuller
    at_is = get_or-set_same words at fuller 0 at_there

    other : (i : ℕ) → (i ≡ at → ⊥) → get_or next i 0 ≡ get_or words i 0
    other i d = get_or-set_other words at i fuller 0 d

    -- the count itself, or a larger one
    from : {A : Type 0} (i : ℕ) → at ≤ i → (i ≡ at → A) → (k ≤ i → A) → A
    from i h f g = bool_cases (eqb i at) (λ e. f (eqb-true i at e)) (λ e. let d = eqb-false i at e in g (omega arith))

    pub fuller_turn : FullerFrom counts found (k - 1) (bit_or fuller (get_or words (k - 1) 0)) (set words (k - 1) fuller)
    fuller_turn = record {
      size = length-set words at fuller ∙ inv.size;
      left = λ i h. other i (λ q. omega arith) ∙ inv.left i (omega arith);
      held = λ i j h g l. from i h
          (λ q. ap (λ (x : ℕ). has (get_or next x 0) j) q ∙ ap (λ (x : ℕ). has x j) at_is ∙ inv.above j g (omega arith))
          (λ q. ap (λ (x : ℕ). has x j) (other i (λ r. omega arith)) ∙ inv.held i j q g l);
      only = λ i j h g. from i h
          (λ q.
          let o = inv.above_only j (sym (ap (λ (x : ℕ). has (get_or next x 0) j) q ∙ ap (λ (x : ℕ). has x j) at_is) ∙ g) in
          (o.0, omega (arith, o.1)))
          (λ q. inv.only i j q (sym (ap (λ (x : ℕ). has x j) (other i (λ r. omega arith))) ∙ g));
      above = λ j h g. from (get_or counts j 0) g
          (λ q.
          or_in_r fuller (get_or words at 0) j
          (ap (λ (x : ℕ). has x j) at_own ∙ ap (λ (x : ℕ). has (get_or found x 0) j) (sym q) ∙ equal.held j h))
          (λ q. or_in_l fuller (get_or words at 0) j (inv.above j h q));
      above_only = λ j h.
          ⊎_elim
          (λ g. let o = inv.above_only j g in (o.0, omega (arith, o.1)))
          (λ g. let o = equal.only at j (sym (ap (λ (x : ℕ). has x j) at_own) ∙ g) in (o.0, omega (arith, o.1)))
          (or_cases (has fuller j) (has (get_or words at 0) j) (sym (has-or fuller (get_or words at 0) j) ∙ h));
    }
