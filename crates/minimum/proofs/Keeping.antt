-- The rows that stay, row after row: their indices and the pairs tried, for the first k rows. Assumes nothing.
use mathlib.Core.Path.{◌≡◌, refl, sym, ◌∙◌, ap, ap₂}
use mathlib.Core.Bool.{Bool, true, false, not}
use mathlib.Core.List.{List, [], ◌∷◌, ◌++◌, map-append}
use Prim.Native.Nat.{ℕ, ◌+◌, ◌*◌, ◌<◌, ◌≤◌}
use native.Mathlib.Numerals.{add-one}
use native.Mathlib.Omega.{arith}
use lib.ListN.{length, set, take}
use lib.Seq.{take-suc-set, take_all}
use Rattle.definitions.proofs.Images.{rows_length}
use Rattle.definitions.specs.Limits.{max_union_rows}
use Rattle.definitions.specs.Lists.{any, filter, sum_below}
use Rattle.definitions.specs.Image.{rows_in}
use Rattle.definitions.specs.MinimumUnion.{subsumes, minimum_rows, pairs_tried}
use Rattle.definitions.proofs.Lists.{keep_took, filter_left}
use Rattle.lists.proofs.Flat.{rows_at_lem}
use Rattle.rows.specs.Indices.{row_at, rows_at, Below}
use Rattle.minimum.specs.Trying.{is_subsumed, tries_at, KeptRows}

below_snoc : (n x : ℕ) (l : List ℕ) → Below n l → x < n → Below n (l ++ (x ∷ []))
below_snoc n x [] b h = (h, tt)
below_snoc n x (i ∷ l) b h = (b.0, below_snoc n x l b.1 h)

-- no row subsumes the row
abbrev stays : List (List ℕ) → List ℕ → Bool
stays rows t = not (any (λ s. subsumes s t) rows)

-- of the first k rows, those that stay are named by the first m indices, and so many pairs were tried
pub record KeptTo (c n : ℕ) (w indices : List ℕ) (m pairs k : ℕ) : Type 0 where
  pub count : m ≤ k
  pub below : Below n (take m indices)
  pub rows : rows_at c w (take m indices) ≡ filter (stays (rows_in c n w)) (take k (rows_in c n w))
  pub tried : pairs ≡ sum_below k (tries_at (rows_in c n w))
  pub bound : pairs ≤ k * max_union_rows

pub kept_none : (c n : ℕ) (w indices : List ℕ) → KeptTo c n w indices 0 0 0
unfolding filter sum_below
kept_none c n w indices = record { count = omega arith; below = tt; rows = refl; tried = refl; bound = omega arith }

module _ {c n : ℕ} {w indices : List ℕ} {m pairs k : ℕ} (inv : KeptTo c n w indices m pairs k) where
  -- row k has been tried: so many pairs, and whether it is subsumed
  module _ (few : n ≤ max_union_rows) (more : k < n) {p : ℕ} (tried : p ≡ tries_at (rows_in c n w) k) (fewer : p ≤ n) {subsumed : Bool}
      (found : subsumed ≡ is_subsumed (rows_in c n w) k) where
    sum_more : pairs + p ≡ sum_below (k + 1) (tries_at (rows_in c n w))
    unfolding sum_below
    sum_more = ap₂ ◌+◌ inv.tried tried ∙ rw (add-one k)

    bound_more : pairs + p ≤ (k + 1) * max_union_rows
    bound_more = omega (arith, inv.bound, fewer)

    within : k < length (rows_in c n w)
    within = omega (arith, rows_length c n w)

    pub subsumed_left : subsumed ≡ true → KeptTo c n w indices m (pairs + p) (k + 1)
    subsumed_left s = record {
      count = omega (arith, inv.count);
      below = inv.below;
      rows = inv.rows ∙ sym (filter_left (stays (rows_in c n w)) [] (rows_in c n w) k within (ap not (sym found ∙ s)));
      tried = sum_more;
      bound = bound_more;
    }

    pub unsubsumed_kept : n ≤ length indices → subsumed ≡ false → KeptTo c n w (set indices m k) (m + 1) (pairs + p) (k + 1)
    unsubsumed_kept room s =
        let f = inv.count in
        let t : take (m + 1) (set indices m k) ≡ take m indices ++ (k ∷ []) = rw (add-one m) (take-suc-set indices m k (omega arith)) in
        record {
          count = omega arith;
          below = rw t (below_snoc n k (take m indices) inv.below more);
          rows = ap (rows_at c w) t
              ∙ map-append (row_at c w) (take m indices) (k ∷ [])
              ∙ ap₂ (λ (r : List (List ℕ)) (l : List ℕ). r ++ (l ∷ [])) inv.rows (sym (rows_at_lem c n k w more))
              ∙ sym (keep_took (stays (rows_in c n w)) [] (rows_in c n w) k within (ap not (sym found ∙ s)));
          tried = sum_more;
          bound = bound_more;
        }

  -- all rows have been tried
  pub kept_rows : k ≡ n → KeptRows c n w indices m pairs
  unfolding minimum_rows pairs_tried
  kept_rows all = record {
    count = omega (arith, inv.count);
    below = inv.below;
    rows = inv.rows ∙ ap (filter (stays (rows_in c n w))) (take_all k (rows_in c n w) (omega (arith, rows_length c n w)));
    tried = inv.tried ∙ ap (λ (i : ℕ). sum_below i (tries_at (rows_in c n w))) (all ∙ sym (rows_length c n w));
  }
