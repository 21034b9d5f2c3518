-- The work of the search is bounded, over all parts together: with n rows its calls are at most n times the sets that are listed, and one more;
-- where the list was full before it was done, at most n more. Every call on a list that is not full gains a set. Assumes nothing.
use mathlib.Core.Path.{◌≡◌, refl, sym, ap, ◌∙◌, subst}
use mathlib.Core.List.{List, [], ◌∷◌, ◌++◌, map}
use Prim.Native.Nat.{ℕ, zero, suc, ◌+◌, ◌*◌, ◌≤◌, ◌<◌, zero-le}
use native.Mathlib.Nat.{suc-mul, zero-mul, add-mul, mul-add, mul-le-mul_left, mul-le-mul_right}
use native.Mathlib.Omega.{arith}
use lib.Dec.{ltb}
use lib.ListN.{length, take, length-append, length-map}
use borrow.Author.Tests.{ltb-true, ltb-false}
use Rattle.definitions.specs.Limits.{max_sets, max_union_rows}
use Rattle.definitions.specs.ComplementUnion.{maximal_sets}
use Rattle.definitions.proofs.Bools.{bool_cases}
use Rattle.bitsets.specs.Bits.{but_not, either, Inside, rows_below, size_below, word_bits}
use Rattle.bitsets.proofs.Words.{in_word}
use Rattle.bitsets.proofs.Bits.{but_l, below_of, below_in}
use Rattle.bitsets.proofs.Sizes.{size_all, size_sub, size_parts, size_some, size_wide}
use Rattle.cliques.specs.Graph.{adjacent, Graph}
use Rattle.cliques.specs.Search.{row_of, Run, stops, lists, joins, leaves, takes, Ready}
use Rattle.cliques.specs.Parts.{Parts, ends, fills, next, RanParts}
use Rattle.cliques.proofs.Complete.{held, sets_counted}

-- ---- a call on a list that is not full, with f rows undecided

record Bounded (cap f : ℕ) (l out : List ℕ) (calls : ℕ) : Type 0 where
  gains : length l < length out
  done : length out < cap → calls + f * length l ≤ suc (f * length out)
  full : calls + f * length l ≤ suc (f * length out + f)

module _ (cap f : ℕ) where
  one_more : (l out : List ℕ) (calls : ℕ) → Bounded cap f l out calls → Bounded cap (suc f) l out (suc calls)
  one_more l out calls b = record {
    gains = b.gains;
    done = λ few. omega (arith, b.gains, b.done few, suc-mul f (length l), suc-mul f (length out));
    full = omega (arith, b.gains, b.full, suc-mul f (length l), suc-mul f (length out));
  }

  two_more : (l mid out : List ℕ) (calls more : ℕ) → Bounded cap f l mid calls → length mid < cap → Bounded cap f mid out more
      → Bounded cap (suc f) l out (suc (calls + more))
  two_more l mid out calls more a h b = record {
    gains = omega (arith, a.gains, b.gains);
    done = λ few. omega (arith, a.gains, b.gains, a.done h, b.done few, suc-mul f (length l), suc-mul f (length out));
    full = omega (arith, a.gains, b.gains, a.done h, b.full, suc-mul f (length l), suc-mul f (length out));
  }

  -- the second call finds the list full
  last_more : (l mid : List ℕ) (calls : ℕ) → Bounded cap f l mid calls → cap ≤ length mid → Bounded cap (suc f) l mid (suc (calls + 1))
  last_more l mid calls a h = record {
    gains = a.gains;
    done = λ few. absurd (omega arith);
    full = omega (arith, a.gains, a.full, suc-mul f (length l), suc-mul f (length mid));
  }

module _ (N : ℕ → ℕ) (cap : ℕ) where
  -- a call on a full list is the only one
  stopped : {f d rest set calls : ℕ} {l out : List ℕ} → Run N cap f d rest set l out calls → cap ≤ length l → (out ≡ l) × (calls ≡ 1)
  stopped (stops h) k = (refl, refl)
  stopped (lists h) k = absurd (omega arith)
  stopped (joins h s a) k = absurd (omega arith)
  stopped (leaves h s m a) k = absurd (omega arith)
  stopped (takes h s m a b) k = absurd (omega arith)

  bounded : {f d rest set calls : ℕ} {l out : List ℕ} → Run N cap f d rest set l out calls → length l < cap → Bounded cap f l out calls
  bounded (stops h) few = absurd (omega arith)
  bounded {set = set} {l = l} (lists h) few =
      let size : length (l ++ (set ∷ [])) ≡ suc (length l) = simp length-append (omega arith) in
      record {
        gains = omega arith;
        done = λ k. simp zero-mul (omega arith);
        full = simp zero-mul (omega arith);
      }
  bounded {f = suc f} (joins h s a) few = one_more cap f _ _ _ (bounded a few)
  bounded {f = suc f} (leaves h s t a) few = one_more cap f _ _ _ (bounded a few)
  bounded {f = suc f} {l = l} {out = out} (takes {mid = mid} h s t a b) few =
      let first : Bounded cap f l mid _ = bounded a few in
      bool_cases (ltb (length mid) cap)
      (λ u. let room = ltb-true (length mid) cap u in two_more cap f l mid out _ _ first room (bounded b room))
      (λ u.
      let z = stopped b (ltb-false (length mid) cap u) in
      rw (z.0, z.1) (last_more cap f l mid _ first (ltb-false (length mid) cap u)))

  -- ---- part by part: r rows are left, and t sets more are listed

  pub record Total (r : ℕ) (l out : List ℕ) (calls : ℕ) : Type 0 where
    pub more : ℕ
    pub grown : length out ≡ length l + more
    pub none : r ≡ 0 → calls ≡ 0
    pub done : length out < cap → calls ≤ suc (r * more)
    pub full : calls ≤ suc (r * more + r)

  -- a part of p rows with s sets, f of its rows searched, and then t sets of the q rows that are left
  sum : (f p q s t first later : ℕ) → f ≤ p → 0 < s → first ≤ suc (f * s) → (q ≡ 0 → later ≡ 0) → (extra : ℕ) → extra ≤ q → later ≤ suc (q * t + extra)
      → first + later ≤ suc ((p + q) * (s + t) + extra)
  sum f p zero s t first later le pos a none extra ex b =
      let z = none refl in
      omega (arith, mul-le-mul_right {m = f} {n = p} s le, add-mul p 0 (s + t), mul-add p s t)
  sum f p (suc q) s t first later le pos a none extra ex b =
      omega (arith, mul-le-mul_right {m = f} {n = p} s le, add-mul p (suc q) (s + t), mul-add p s t, mul-add (suc q) s t, suc-mul q s)

  module _ (width : ℕ) where
    -- no call is made on a full list
    over : {rows calls : ℕ} {l out : List ℕ} → Parts N cap width rows l out calls → cap ≤ length l → calls ≡ 0
    over (ends e) h = refl
    over (fills e) h = refl
    over (next common new few p c a b) h = absurd (omega arith)

    pub total : {rows calls : ℕ} {l out : List ℕ} → Parts N cap width rows l out calls → Inside rows width → Total (size_below width rows) l out calls
    total {l = l} (ends e) h = record {
      more = 0;
      grown = omega arith;
      none = λ _. refl;
      done = λ _. zero-le;
      full = zero-le;
    }
    total {l = l} (fills e) h = record {
      more = 0;
      grown = omega arith;
      none = λ _. refl;
      done = λ _. zero-le;
      full = zero-le;
    }
    total {rows} {l = l} {out = out} (next {part = part} {calls = calls} {more = later} common new few p c a b) h =
        let core = but_not part common in
        let mid = l ++ map (λ s. either s common) new in
        let s = length new in
        let first : Bounded cap (size_below width core) l (l ++ new) calls = bounded a few in
        let rest : Total (size_below width (but_not rows part)) mid out later = total b (λ k q. h k (but_l rows part k q)) in
        let size : length mid ≡ length l + s = length-append l (map (λ s. either s common) new) ∙ ap (λ (k : ℕ). length l + k) (length-map new (λ s. either s common)) in
        let own : length (l ++ new) ≡ length l + s = length-append l new in
        let wide : size_below width core ≤ size_below width part = size_sub width core part (but_l part common) in
        let rows_are : size_below width rows ≡ size_below width part + size_below width (but_not rows part) = size_parts width rows part p.within in
        let some : 0 < size_below width part = size_some width part p.row (λ k q. h k (p.within k q)) p.there in
        let pos : 0 < s = omega (arith, first.gains) in
        let spread : size_below width core * length (l ++ new) ≡ size_below width core * length l + size_below width core * s =
        ap (λ (k : ℕ). size_below width core * k) own ∙ mul-add (size_below width core) (length l) s in
        record {
          more = s + rest.more;
          grown = omega (arith, rest.grown);
          none = λ e. absurd (omega arith);
          done = λ small.
              let under : calls ≤ suc (size_below width core * s) = omega (arith, first.done (omega (arith, rest.grown))) in
              subst (λ (k : ℕ). calls + later ≤ suc (k * (s + rest.more))) (sym rows_are)
              (omega (
                arith,
                sum (size_below width core) (size_below width part) (size_below width (but_not rows part)) s rest.more calls later wide pos under rest.none 0 zero-le
                    (omega (arith, rest.done small)),
              ));
          full = subst (λ (k : ℕ). calls + later ≤ suc (k * (s + rest.more) + k)) (sym rows_are)
              (bool_cases (ltb (length mid) cap)
              (λ u.
              let under : calls ≤ suc (size_below width core * s) = omega (arith, first.done (omega (arith, ltb-true (length mid) cap u))) in
              omega (
                arith,
                sum (size_below width core) (size_below width part) (size_below width (but_not rows part)) s rest.more calls later wide pos under rest.none
                    (size_below width (but_not rows part)) (omega arith) rest.full,
              ))
              (λ u.
              let z = over b (ltb-false (length mid) cap u) in
              omega (
                arith,
                z,
                first.full,
                mul-le-mul_right {m = size_below width core} {n = size_below width part} s wide,
                add-mul (size_below width part) (size_below width (but_not rows part)) (s + rest.more),
                mul-add (size_below width part) s rest.more,
              )));
        }

-- ---- the whole of `find_sets`: n rows, and no set in the list before

module _ (N : ℕ → ℕ) (cap width n : ℕ) (fits : n ≤ width) {out : List ℕ} {calls : ℕ} (p : Parts N cap width (rows_below n) [] out calls) where
  all : Total N cap (size_below width (rows_below n)) [] out calls
  all = total N cap width p (λ k h. omega (arith, below_of n k h))

  sets : all.more ≡ length out
  sets = omega (arith, all.grown)

  rows : size_below width (rows_below n) ≡ n
  rows = size_wide n width (rows_below n) fits (below_of n) ∙ size_all n

  -- where not all sets were cut off, rows × sets + 1 calls at most
  pub calls_done : length out < cap → calls ≤ suc (n * length out)
  calls_done few =
      subst (λ (k : ℕ). calls ≤ suc (k * length out)) rows (subst (λ (k : ℕ). calls ≤ suc (size_below width (rows_below n) * k)) sets (all.done few))

  -- and in any case as many more as there are rows
  pub calls_bound : calls ≤ suc (n * length out + n)
  calls_bound =
      subst (λ (k : ℕ). calls ≤ suc (k * length out + k)) rows
      (subst (λ (k : ℕ). calls ≤ suc (size_below width (rows_below n) * k + size_below width (rows_below n))) sets all.full)

  -- for a list that takes no more than `cap` sets, whatever the graph
  calls_most : length out ≤ cap → calls ≤ suc (n * cap + n)
  calls_most few = omega (arith, calls_bound, mul-le-mul_left n few)

-- for any graph of the rows of T
pub most_calls : (N : ℕ → ℕ) (n : ℕ) {out : List ℕ} {calls : ℕ} → n ≤ max_union_rows → Parts N (suc max_sets) word_bits (rows_below n) [] out calls
    → length out ≤ suc max_sets → calls ≤ suc (max_union_rows * suc max_sets + max_union_rows)
most_calls N n h p few = omega (arith, calls_most N (suc max_sets) word_bits n (in_word h) p few)

-- of what `list_parts` promises, where there are at most 1,024 maximal sets: at most n calls for each, and one more
pub few_calls : (neighbours : List ℕ) (n : ℕ) (g : Graph neighbours n) (width : ℕ) (bits : n ≤ width) (list : List ℕ) (found all : ℕ) → 0 < n
    → found ≤ length list → found ≤ suc max_sets → all ≡ rows_below n → (l : RanParts (row_of neighbours) (suc max_sets) width all [] (take found list))
    → length (maximal_sets (adjacent neighbours) n) ≤ max_sets → l.0 ≤ suc (n * length (maximal_sets (adjacent neighbours) n))
few_calls neighbours n g width bits list found all pos fits few ea l small =
    let counted = sets_counted neighbours n g width bits list found all pos fits few ea l in
    let held = held neighbours n g width bits list found all pos fits few ea l in
    let same : length (take found list) ≡ length (maximal_sets (adjacent neighbours) n) = omega arith in
    subst (λ (k : ℕ). l.0 ≤ suc (n * k)) same
    (calls_done (row_of neighbours) (suc max_sets) width n bits
    (subst (λ (x : ℕ). Parts (row_of neighbours) (suc max_sets) width x [] (take found list) l.0) ea l.1) (omega arith))

-- calls are open inside each other while the count of undecided rows falls: with the last, which decides none, at most one more than there are rows
pub most_open : {width cap : ℕ} {neighbours : List ℕ} {decided rest undecided set count : ℕ}
    → Ready width cap neighbours decided rest undecided set count → undecided ≤ width
most_open {width} {rest = rest} r =
    omega (arith, r.split.counted, size_sub width rest (rows_below width) (λ k h. below_in width k (omega (arith, r.split.ahead k h, r.split.fits))), size_all width)
