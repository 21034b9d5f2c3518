-- A part of the rows, grown row by row until no other row complements one of it, and the rows of a part that complement all others. Assumes nothing.
use mathlib.Core.Path.{◌≡◌, refl, sym, ap, ◌∙◌, subst}
use mathlib.Core.Logic.{◌⊎◌, inl, inr, ⊎_elim}
use mathlib.Core.Bool.{true, false}
use Prim.Native.Nat.{ℕ, ◌<◌}
use Rattle.std.proofs.lemmas.Bool.{false_from_ne_true}
use Rattle.definitions.proofs.Bools.{bool_cases, clash}
use Rattle.bitsets.specs.Bits.{has, both, either, but_not, is_sub, with_row, lowest, Inside, Sub}
use Rattle.bitsets.proofs.Bits.{In, has_none, has_with_self, has_with_old, has_with_cases, both_in_lem, both_r, either_l, either_r, but_in, but_l, but_out, at_lowest, lowest_inside, sub_true, sub_less}
use Rattle.cliques.specs.Search.{adjacent_by}
use Rattle.cliques.specs.Parts.{Part, Common}

-- the first of some of n rows
pub row_below : (rows some row n : ℕ) → Sub some rows → Inside rows n → 0 < some → row ≡ lowest some → row < n
row_below rows some row n sub inside pos e = lowest_inside some row n pos e (λ k h. inside k (sub k h))

-- the rows of the part are put in, and of the rows that complement one of them the others are ahead; the first of all is in or ahead
pub record Growing (N : ℕ → ℕ) (rows part ahead : ℕ) : Type 0 where
  pub within : Sub part rows
  pub among : Sub ahead rows
  pub apart : (k : ℕ) → In ahead k → has part k ≡ false
  pub closed : (j k : ℕ) → In part j → In rows k → In (N j) k → In part k ⊎ In ahead k
  pub start : In part (lowest rows) ⊎ In ahead (lowest rows)

module _ (N : ℕ → ℕ) (rows : ℕ) where
  pub grow_start : 0 < rows → (row ahead : ℕ) → row ≡ lowest rows → ahead ≡ with_row 0 row → Growing N rows 0 ahead
  grow_start some row ahead er ea =
      let first = at_lowest rows (lowest rows) some refl in
      rw (ea, er) (record {
        within = λ k h. absurd (clash h (has_none k));
        among = λ k h. has_with_cases 0 (lowest rows) k h (λ p. absurd (clash p (has_none k))) (λ p. rw p first.there);
        apart = λ k h. has_none k;
        closed = λ j k h r p. absurd (clash h (has_none j));
        start = inr (has_with_self 0 (lowest rows));
      })

  module _ (part ahead : ℕ) (g : Growing N rows part ahead) where
    pub grow_end : ahead ≡ 0 → Part (adjacent_by N) rows part
    grow_end e =
        let none : (k : ℕ) → In ahead k → In part k = λ k h. absurd (clash h (ap (λ (x : ℕ). has x k) e ∙ has_none k)) in
        record {
          within = g.within;
          row = lowest rows;
          there = ⊎_elim (λ p. p) (none (lowest rows)) g.start;
          closed = λ j k h r p. ⊎_elim (λ q. q) (none k) (g.closed j k h r p);
        }

    module _ (some : 0 < ahead) (row : ℕ) (e : row ≡ lowest ahead) where
      there : In ahead row
      there = (at_lowest ahead row some e).there

      -- the rows that are ahead then
      abbrev later : ℕ
      later = but_not (both (either ahead (N row)) rows) (with_row part row)

      keep : (k : ℕ) → In part k ⊎ In ahead k → In (with_row part row) k ⊎ In later k
      keep k c =
          bool_cases (has (with_row part row) k) (λ t. inl t)
          (λ t. ⊎_elim (λ p. inl (has_with_old part row k p))
          (λ p. inr (but_in (both (either ahead (N row)) rows) (with_row part row) k
          (both_in_lem (either ahead (N row)) rows k (either_l ahead (N row) k p) (g.among k p)) t)) c)

      new : (k : ℕ) → In rows k → In (N row) k → In (with_row part row) k ⊎ In later k
      new k r p =
          bool_cases (has (with_row part row) k) (λ t. inl t)
          (λ t. inr (but_in (both (either ahead (N row)) rows) (with_row part row) k (both_in_lem (either ahead (N row)) rows k (either_r ahead (N row) k p) r) t))

      grown : Growing N rows (with_row part row) later
      grown = record {
        within = λ k h. has_with_cases part row k h (g.within k) (λ p. rw p (g.among row there));
        among = λ k h. both_r (either ahead (N row)) rows k (but_l (both (either ahead (N row)) rows) (with_row part row) k h);
        apart = λ k h. but_out (both (either ahead (N row)) rows) (with_row part row) k h;
        closed = λ j k h r p. has_with_cases part row j h (λ q. keep k (g.closed j k q r p)) (λ q. new k r (subst (λ (x : ℕ). In (N x) k) q p));
        start = keep (lowest rows) g.start;
      }

      pub grow_turn : (wider all met next : ℕ) → wider ≡ with_row part row → all ≡ either ahead (N row) → met ≡ both all rows → next ≡ but_not met wider
          → Growing N rows wider next
      grow_turn wider all met next ew ea em en = rw (en, em, ea, ew) grown

      -- fewer rows are left out
      pub grow_less : (wider : ℕ) → wider ≡ with_row part row → but_not rows wider < but_not rows part
      grow_less wider ew =
          rw ew (sub_less (but_not rows (with_row part row)) (but_not rows part) row
          (λ k h. but_in rows part k (but_l rows (with_row part row) k h)
          (false_from_ne_true (has part k) (λ p. clash (has_with_old part row k p) (but_out rows (with_row part row) k h))))
          (but_in rows part row (g.among row there) (g.apart row there))
          (false_from_ne_true (has (but_not rows (with_row part row)) row) (λ h. clash (has_with_self part row) (but_out rows (with_row part row) row h))))

-- ---- the rows that complement all others

module _ (N : ℕ → ℕ) (part : ℕ) where
  pub common_none : Common (adjacent_by N) part 0
  common_none = record { within = λ k h. absurd (clash h (has_none k)); all = λ j k h r ne. absurd (clash h (has_none j)) }

  pub common_more : (common row with more : ℕ) → Common (adjacent_by N) part common → In part row → with ≡ with_row (N row) row → is_sub part with ≡ true
      → more ≡ with_row common row → Common (adjacent_by N) part more
  common_more common row with more c there ew s em =
      let adjacent : (k : ℕ) → In part k → (row ≡ k → ⊥) → In (N row) k =
      λ k h ne. has_with_cases (N row) row k (sub_true part (with_row (N row) row) (rw ew at s) k h) (λ p. p) (λ p. absurd (ne (sym p))) in
      rw em (record {
        within = λ k h. has_with_cases common row k h (c.within k) (λ p. rw p there);
        all = λ j k h r ne. has_with_cases common row j h (λ p. c.all j k p r ne)
            (λ p. subst (λ (x : ℕ). In (N x) k) (sym p) (adjacent k r (λ q. ne (p ∙ q))));
      })
