-- The trying of row k of a table: what a column more says of covering, what a candidate more says of subsuming, and what is found.
-- Assumes nothing.
use mathlib.Core.Path.{◌≡◌, refl, sym, ◌∙◌, ap, ap₂}
use mathlib.Core.Bool.{Bool, true, false, not, ◌&&◌, ◌||◌}
use mathlib.Core.List.{List, []}
use Prim.Native.Nat.{ℕ, ◌+◌, ◌-◌, ◌<◌, ◌≤◌}
use native.Mathlib.Omega.{arith}
use lib.Bits.{bit_and}
use lib.Count.{count_trailing_zeros}
use lib.ListN.{length, get_or, drop}
use lib.Dec.{eqb}
use Rattle.std.specs.Prelude.{Some, None}
use Rattle.std.proofs.Common.{Fits, w64}
use Rattle.definitions.proofs.Images.{rows_length}
use Rattle.definitions.specs.Word.{is_filled}
use Rattle.definitions.specs.MinimumUnion.{filled, covers, subsumes}
use Rattle.std.proofs.lemmas.Bool.{false_from_ne_true}
use Rattle.definitions.proofs.Bools.{clash}
use Rattle.definitions.proofs.Rows.{filled_cell}
use Rattle.definitions.proofs.Subsumption.{subsumes_is, subsumes_keeps, filled-empties}
use Rattle.lists.proofs.Flat.{rows_at_lem}
use Rattle.bitsets.specs.Bits.{has, without_lowest, word_bits}
use Rattle.bitsets.proofs.Bits.{Lowest, trailing_lowest, has_none, rest_in, rest_of}
use Rattle.bitsets.proofs.Words.{in_word}
use Rattle.patterns.proofs.FilledRows.{filled-has}
use Rattle.patterns.proofs.Parts.{row_length}
use Rattle.minimum.specs.declared.trial.Trials.{Trials}
use Rattle.rows.specs.Rows.{rows_of}
use Rattle.minimum.specs.Trying.{FirstSubsumer}
use Rattle.minimum.specs.Candidates.{Candidates}
use Rattle.minimum.proofs.Counting.{count_at}
use Rattle.minimum.proofs.Covering.{covers_next, covers_end}

-- row j of a table
abbrev pub row : Trials → ℕ → List ℕ
row t j = get_or (rows_of t.rows) j []

-- row j covers row k exactly if it does so from column c on
abbrev pub CoveredTo : Trials → ℕ → ℕ → ℕ → Type 0
CoveredTo t k j c = covers (row t j) (row t k) ≡ covers (drop c (row t j)) (drop c (row t k))

-- the rest of the candidates: fuller rows, and all that subsume row k are among them
pub record Remaining (t : Trials) (k rest : ℕ) : Type 0 where
  pub fuller : (i : ℕ) → has rest i ≡ true → (i < t.rows.len) × (filled (row t k) < filled (row t i))
  pub all : (i : ℕ) → i < t.rows.len → subsumes (row t i) (row t k) ≡ true → has rest i ≡ true

module _ (t : Trials) where
  abbrev n : ℕ
  n = t.rows.len

  abbrev at : ℕ → List ℕ
  at = row t

  pub rows_many : length (rows_of t.rows) ≡ n
  rows_many = rows_length t.rows.width n t.rows.cells.now

  count_of : (j : ℕ) → get_or t.counts.now j 0 ≡ filled (at j)
  count_of = count_at t.rows.width n t.rows.cells.now t.counts.now t.prepared.counted

  row_long : (j : ℕ) → j < n → length (at j) ≡ t.rows.width
  row_long j h =
      ap length (rows_at_lem t.rows.width n j t.rows.cells.now h) ∙ row_length t.rows.width n j t.rows.cells.now t.rows.fits h

  module _ (k : ℕ) (own : k < n) where
    -- there is a word for each column of row k
    pub own_short : length (at k) ≤ length t.columns.now
    own_short = omega (arith, row_long k own, t.prepared.filled_rows.size)

    -- at first all candidates are left
    pub left_all : (set : ℕ) → Candidates (at k) (get_or t.fuller.now (get_or t.counts.now k 0) 0) t.columns.now set
        → Remaining t k set
    left_all set told =
        let few = in_word t.prepared.few in
        let same = t.prepared.size in
        record {
          fuller = λ i h.
              let o = t.prepared.fuller_rows.only (get_or t.counts.now k 0) i (told.among i h) in
              (omega (arith, o.0), omega (arith, o.1, count_of i, count_of k));
          all = λ i h e.
              let s = (subsumes_is (at i) (at k)).0 e in
              told.held i (omega arith)
              (t.prepared.fuller_rows.held (get_or t.counts.now k 0) i (omega arith) (omega (arith, s.0, count_of i, count_of k)))
              (λ c g some.
              let c_in : c < t.rows.width = omega (arith, row_long k own) in
              ap (λ (x : ℕ). has x i) (t.prepared.filled_rows.words c c_in)
              ∙ filled-has (rows_of t.rows) c i (omega (arith, rows_many))
              ∙ ap is_filled (subsumes_keeps (at i) (at k) c (get_or (at k) c 0) (filled_cell (get_or (at k) c 0) some) e refl)
              ∙ some);
        }

    -- the lowest of the rest is tried
    module _ {rest : ℕ} (left : Remaining t k rest) (some : rest ≡ 0 → ⊥) (small : Fits w64 rest) where
      abbrev pub next : ℕ
      next = count_trailing_zeros word_bits rest

      low : Lowest rest next
      low = trailing_lowest word_bits rest some (omega (arith, small))

      pub next_within : next < n
      next_within = (left.fuller next low.there).0

      pub as_long : length (at next) ≡ length (at k)
      as_long = row_long next next_within ∙ sym (row_long k own)

      -- it is fuller than row k, and so has a column
      pub some_column : 0 < length (at k)
      some_column = omega (arith, (left.fuller next low.there).1, filled-empties (at next), as_long)

      -- a column more: r tells of the cells of both rows there
      module _ (c : ℕ) {r : Bool} {mine other : List ℕ} (em : mine ≡ at k) (eo : other ≡ at next) (g : c < length mine) (inv : CoveredTo t k next c)
          (told : r ≡ (not (is_filled (get_or mine c 0)) || eqb (get_or other c 0) (get_or mine c 0))) where
        column : covers (at next) (at k) ≡ (r && covers (drop (c + 1) (at next)) (drop (c + 1) (at k)))
        column =
            covers_next (at next) (at k) c inv (omega (arith, as_long, ap length em)) (omega (arith, ap length em))
            ∙ ap (λ (b : Bool). b && covers (drop (c + 1) (at next)) (drop (c + 1) (at k)))
            (ap₂ (λ (x y : List ℕ). not (is_filled (get_or y c 0)) || eqb (get_or x c 0) (get_or y c 0)) (sym eo) (sym em) ∙ sym told)

        pub column_covered : r ≡ true → CoveredTo t k next (c + 1)
        column_covered e = column ∙ rw e

        -- it does not subsume row k
        pub left_next : r ≡ false → Remaining t k (bit_and rest (rest - 1))
        unfolding without_lowest
        left_next e = record {
          fuller = λ i h. left.fuller i (rest_in rest i h);
          all = λ i h s.
              rest_of rest next i low (left.all i h s)
              (λ q. clash ((subsumes_is (at i) (at k)).0 s).1 (ap (λ (x : ℕ). covers (at x) (at k)) q ∙ column ∙ rw e));
        }

        -- it covers row k in every column, and so subsumes it
        pub found_lowest : r ≡ true → c + 1 ≡ length mine → FirstSubsumer (rows_of t.rows) k (Some next)
        found_lowest e last = (
          omega (arith, next_within, rows_many),
          λ i h. false_from_ne_true (subsumes (at i) (at k)) (λ q. clash (left.all i (omega (arith, next_within)) q) (low.below i h)),
          (subsumes_is (at next) (at k)).1
              ((left.fuller next low.there).1, covers_end (at next) (at k) (c + 1) (column_covered e) (omega (arith, ap length em))),
        )

    -- no candidate is left
    pub found_none : (rest : ℕ) → Remaining t k rest → rest ≡ 0 → FirstSubsumer (rows_of t.rows) k None
    found_none rest left none i h =
        false_from_ne_true (subsumes (at i) (at k))
        (λ q. clash (left.all i (omega (arith, rows_many)) q) (ap (λ (x : ℕ). has x i) none ∙ has_none i))
