-- From the sets that the parts give, and their order, to what `find_sets` promises. Assumes nothing.
use mathlib.Core.Path.{◌≡◌, refl, sym, ap, ◌∙◌, subst}
use mathlib.Core.Bool.{Bool}
use mathlib.Core.List.{List, [], map}
use Prim.Native.Nat.{ℕ, suc, ◌-◌, ◌≤◌, ◌<◌, min}
use native.Mathlib.Omega.{arith}
use lib.Dec.{eqb, ltb}
use lib.ListN.{length, take, length-map}
use lib.Seq.{length-take-le}
use borrow.Author.Tests.{eqb-true, eqb-false, ltb-true, ltb-false}
use Rattle.definitions.specs.Ascending.{ascending}
use Rattle.definitions.specs.Limits.{max_sets}
use Rattle.definitions.specs.Lists.{filter, all_below}
use Rattle.definitions.specs.Statements.{Member}
use Rattle.definitions.specs.ComplementUnion.{subsets, is_complementing, maximal_sets}
use Rattle.definitions.specs.SetList.{bits}
use Rattle.definitions.proofs.Bools.{bool_cases, clash}
use Rattle.definitions.proofs.Ascending.{determined, is_strict, ascending-has, ascending_only}
use Rattle.bitsets.specs.Bits.{has, rows_below, with_row, compare_bits}
use Rattle.bitsets.proofs.Bits.{In, some, has_none, has_with_self, has_with_old, has_with_cases, same_set, below_of, below_in}
use Rattle.bitsets.proofs.Order.{set_bits}
use Rattle.cliques.specs.Graph.{adjacent, Graph, AllSets}
use Rattle.cliques.specs.Maximal.{Once, Max, Adds}
use Rattle.cliques.specs.Search.{row_of}
use Rattle.cliques.specs.Parts.{RowsOf, RanParts}
use Rattle.cliques.proofs.Sublists.{ascending_once, no_longer}
use Rattle.cliques.proofs.Maximal.{Simple}
use Rattle.cliques.proofs.Adds.{adds_same}
use Rattle.cliques.proofs.Listed.{listed, listed_rises, listed_max, max_listed}
use Rattle.cliques.proofs.ByParts.{NonEmpty, parts_adds}
use Rattle.cliques.proofs.Turns.{simple}

-- the list has the definition's sets, or `cap` of them
pub record CountedSets (adjacent : ℕ → ℕ → Bool) (n cap : ℕ) (l : List ℕ) : Type 0 where
  pub count : length l ≡ min cap (length (listed adjacent n))
  pub sets : length l < cap → ascending compare_bits l ≡ listed adjacent n

pub counted : (adjacent : ℕ → ℕ → Bool) (n : ℕ) → Simple adjacent n → (cap : ℕ) (l : List ℕ) → 0 < n → length l ≤ cap → Adds (Max adjacent (rows_below n)) cap [] l
    → CountedSets adjacent n cap l
counted adjacent n g cap l pos full m =
    let all = listed adjacent n in
    let own = ascending compare_bits l in
    let new : l ≡ m.new = m.adds in
    let within : (x : ℕ) → Member x own → Member x all =
    λ x h. max_listed adjacent n g.apart pos x (m.only x (subst (Member x) new (ascending_only set_bits x l h))) in
    let short : length own ≤ length all = no_longer set_bits own all (is_strict set_bits l) within in
    let each : length own ≡ length l = ascending_once set_bits l (subst (λ (t : List ℕ). Once t) (sym new) m.once) in
    let same : length l < cap → own ≡ all = λ few.
    determined set_bits own all (is_strict set_bits l) (listed_rises adjacent n) within
    (λ x h. ascending-has set_bits x l (subst (Member x) (sym new) (m.all few x (listed_max adjacent n g.apart x h)))) in
    record {
      count = bool_cases (ltb (length l) cap)
          (λ t. let few = ltb-true (length l) cap t in let e = ap length (same few) in omega arith)
          (λ t. let many = ltb-false (length l) cap t in omega arith);
      sets = same;
    }

pub none_found : (neighbours : List ℕ) (n : ℕ) (list : List ℕ) → n ≡ 0 → AllSets neighbours n list 0
unfolding maximal_sets filter subsets is_complementing all_below
none_found neighbours n list e = subst (λ (m : ℕ). AllSets neighbours m list 0) (sym e) (record { counts = refl; lists = λ h. refl })

-- all n rows
pub all_rows : (n last below all : ℕ) → 0 < n → last ≡ n - 1 → below ≡ rows_below last → all ≡ with_row below last → all ≡ rows_below n
all_rows n last below all pos el eb ea =
    same_set all (rows_below n)
    (λ k h. below_in n k (has_with_cases below last k (rw ea at h) (λ p. let l = below_of last k (rw eb at p) in omega arith) (λ p. omega arith)))
    (λ k h.
    let l = below_of n k h in
    rw ea (bool_cases (eqb k last) (λ t. rw (eqb-true k last t) (has_with_self below last))
    (λ t. let d = eqb-false k last t in has_with_old below last k (rw eb (below_in last k (omega arith))))))

module _ (neighbours : List ℕ) (n : ℕ) (g : Graph neighbours n) where
  pub start_rows : (width all : ℕ) → n ≤ width → all ≡ rows_below n → RowsOf width neighbours all
  start_rows width all fits e = record { n = n; graph = g; bits = fits; inside = λ k h. below_of n k (rw e at h) }

  module _ (width : ℕ) (bits_fit : n ≤ width) (list : List ℕ) (found all : ℕ) (pos : 0 < n) (fits : found ≤ length list) (few : found ≤ suc max_sets)
      (ea : all ≡ rows_below n) (l : RanParts (row_of neighbours) (suc max_sets) width all [] (take found list)) where
    pub held : length (take found list) ≡ found
    held = length-take-le found list fits

    -- a maximal set of some rows is not empty
    filled : (x : ℕ) → Max (adjacent neighbours) (rows_below n) x → (k : ℕ) × In x k
    filled x m =
        bool_cases (eqb x 0)
        (λ t. absurd (m.full 0 (below_in n 0 pos) (λ k h. absurd (clash h (ap (λ (y : ℕ). has y k) (eqb-true x 0 t) ∙ has_none k)))))
        (λ t. some x (eqb-false x 0 t))

    adds : Adds (Max (adjacent neighbours) (rows_below n)) (suc max_sets) [] (take found list)
    adds =
        adds_same (suc max_sets) (NonEmpty (row_of neighbours) n (simple neighbours n g) all) (Max (adjacent neighbours) (rows_below n))
        (λ x p. rw ea at p.0)
        (λ x m. (rw ea m, filled x m))
        (parts_adds (row_of neighbours) n (simple neighbours n g) (suc max_sets) width bits_fit l.1 (λ k h. below_of n k (rw ea at h)))

    result : CountedSets (adjacent neighbours) n (suc max_sets) (take found list)
    result = counted (adjacent neighbours) n (simple neighbours n g) (suc max_sets) (take found list) pos (omega (arith, held)) adds

    pub sets_counted : found ≡ min (suc max_sets) (length (maximal_sets (adjacent neighbours) n))
    sets_counted = sym held ∙ result.count ∙ ap (min (suc max_sets)) (length-map (maximal_sets (adjacent neighbours) n) bits)

    -- more than are listed
    pub many_found : max_sets < found → AllSets neighbours n list found
    many_found many = record { counts = sets_counted; lists = λ h. absurd (omega arith) }

    -- no more than are listed, and put in order
    pub all_found : found ≤ max_sets → (out : List ℕ) (r : ℕ) → r ≤ length out → take r out ≡ ascending compare_bits (take found list)
        → AllSets neighbours n out r
    all_found small out r room o =
        let whole : take r out ≡ map bits (maximal_sets (adjacent neighbours) n) = o ∙ result.sets (omega (arith, held)) in
        let own : r ≡ length (maximal_sets (adjacent neighbours) n) =
        sym (length-take-le r out room) ∙ ap length whole ∙ length-map (maximal_sets (adjacent neighbours) n) bits in
        record { counts = omega (arith, sets_counted); lists = λ h. whole }
