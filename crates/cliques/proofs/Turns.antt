-- A call of the search that decides a row: what the calls that it makes are asked, and the run that its own is made of. Assumes nothing.
use mathlib.Core.Path.{◌≡◌, sym, ap, ◌∙◌, subst}
use mathlib.Core.Bool.{true, false}
use mathlib.Core.List.{List, [], ◌∷◌, ◌++◌}
use Prim.Native.Nat.{ℕ, suc, ◌-◌, ◌≤◌, ◌<◌}
use native.Mathlib.Omega.{arith}
use lib.ListN.{length, take}
use lib.Seq.{length-take-le}
use Rattle.bitsets.specs.Bits.{is_sub, with_row, lowest, without_lowest}
use Rattle.cliques.specs.Graph.{Graph}
use Rattle.cliques.specs.Search.{row_of, adjacent_by, taken, MayTake, Split, Run, stops, lists, joins, leaves, takes, Ran, Ready, Asked}
use Rattle.cliques.proofs.Maximal.{Simple, Step, joined, left, took, step_max}
use Rattle.cliques.proofs.Run.{split_row, split_new, split_next}

-- the relation that a graph's words say
pub simple : (neighbours : List ℕ) (n : ℕ) → Graph neighbours n → Simple (adjacent_by (row_of neighbours)) n
simple neighbours n g = record { symmetric = g.symmetric; apart = g.apart }

-- ---- no row is decided

module _ (N : ℕ → ℕ) (cap d rest set count : ℕ) (list : List ℕ) (fits : count ≤ length list) where
  pub run_stops : (undecided : ℕ) → cap ≤ count → Ran N cap undecided d rest set (take count list) (take count list)
  run_stops undecided h = (1, stops {l = take count list} (omega (arith, length-take-le count list fits)))

  pub run_lists : (undecided : ℕ) → undecided ≡ 0 → count < cap → (out : List ℕ) → out ≡ take count list ++ (set ∷ [])
      → Ran N cap undecided d rest set (take count list) out
  run_lists undecided e h out o = (
    1,
    subst (λ (f : ℕ). Run N cap f d rest set (take count list) out 1) (sym e)
        (subst (λ (l : List ℕ). Run N cap 0 d rest set (take count list) l 1) (sym o) (lists (omega (arith, length-take-le count list fits)))),
  )

-- ---- a row is

-- the first of the undecided rows, those that are undecided later, and those that are decided then
pub record Turn (width cap : ℕ) (neighbours : List ℕ) (decided rest undecided set count i later known : ℕ) : Type 0 where
  pub ready : Ready width cap neighbours decided rest undecided set count
  pub some : undecided ≡ 0 → ⊥
  pub few : count < cap
  pub row : i ≡ lowest rest
  pub rows_later : later ≡ without_lowest rest
  pub rows_known : known ≡ with_row decided i

pub turn_of : {width cap : ℕ} {neighbours : List ℕ} {decided rest undecided set count i later known : ℕ}
    → Ready width cap neighbours decided rest undecided set count → (undecided ≡ 0 → ⊥) → count < cap
    → i ≡ lowest rest → later ≡ without_lowest rest → known ≡ with_row decided i
    → Turn width cap neighbours decided rest undecided set count i later known
turn_of ready some few row later known =
    record { ready = ready; some = some; few = few; row = row; rows_later = later; rows_known = known }

module _ {width cap : ℕ} {neighbours : List ℕ} {decided rest undecided set count i later known : ℕ}
    (t : Turn width cap neighbours decided rest undecided set count i later known) where
  abbrev N : ℕ → ℕ
  N = row_of neighbours

  abbrev s : Split t.ready.n width decided rest undecided
  s = t.ready.split

  pub row_below : i < t.ready.n
  row_below = split_row s t.some i t.row

  pub row_bit : i < width
  row_bit = omega (arith, row_below, s.fits)

  -- the graph has a word for the row
  pub row_within : i < length neighbours
  row_within = omega (arith, row_below, t.ready.graph.rows)

  pub asked : Asked width neighbours decided set i
  asked = record { n = t.ready.n; graph = t.ready.graph; bits = s.fits; past = s.past; maximal = t.ready.maximal; row = row_below }

  ready_step : (next : ℕ) → Step N decided i set next → (found : ℕ) → found ≤ cap
      → Ready width cap neighbours known later (undecided - 1) next found
  ready_step next step found few = record {
    n = t.ready.n;
    graph = t.ready.graph;
    split = rw (t.rows_known, t.rows_later) (split_next s t.some i t.row);
    maximal = rw t.rows_known
        (step_max N t.ready.n (simple neighbours t.ready.n t.ready.graph) decided s.past i row_below
        (split_new s t.some i t.row) set next t.ready.maximal step);
    few = few;
  }

  module _ (next found : ℕ) (few : found ≤ cap) where
    pub ready_joins : is_sub set (N i) ≡ true → next ≡ with_row set i → Ready width cap neighbours known later (undecided - 1) next found
    ready_joins h e = ready_step next (joined h (sym e)) found few

    pub ready_leaves : is_sub set (N i) ≡ false → next ≡ set → Ready width cap neighbours known later (undecided - 1) next found
    ready_leaves h e = ready_step next (left h (sym e)) found few

    pub ready_takes : is_sub set (N i) ≡ false → MayTake N decided set i → next ≡ taken N set i
        → Ready width cap neighbours known later (undecided - 1) next found
    ready_takes h m e = ready_step next (took h m (sym e)) found few

  -- the runs of the calls, told of the rows by their definitions
  abbrev To : ℕ → List ℕ → List ℕ → Type 0
  To next l out = Ran N cap (undecided - 1) known later next l out

  to_run : (next : ℕ) (l out : List ℕ) (r : To next l out)
      → Run N cap (undecided - 1) (with_row decided (lowest rest)) (without_lowest rest) next l out r.0
  to_run next l out r =
      subst (λ (k : ℕ). Run N cap (undecided - 1) k (without_lowest rest) next l out r.0) (t.rows_known ∙ ap (with_row decided) t.row)
      (subst (λ (k : ℕ). Run N cap (undecided - 1) known k next l out r.0) t.rows_later r.1)

  -- the list has room for the sets
  module _ (list : List ℕ) (room : cap ≤ length list) (out : List ℕ) where
    abbrev own : Type 0
    own = Ran N cap undecided decided rest set (take count list) out

    from_suc : {calls : ℕ} → Run N cap (suc (undecided - 1)) decided rest set (take count list) out calls → own
    from_suc {calls} r =
        let e : suc (undecided - 1) ≡ undecided = omega (arith, t.some) in
        (calls, subst (λ (f : ℕ). Run N cap f decided rest set (take count list) out calls) e r)

    short : length (take count list) < cap
    short = omega (arith, length-take-le count list (omega (arith, room, t.few)), t.few)

    pub run_joins : is_sub set (N i) ≡ true → (next : ℕ) → next ≡ with_row set i → To next (take count list) out → own
    run_joins h next e r =
        from_suc (joins short (ap (λ (k : ℕ). is_sub set (N k)) (sym t.row) ∙ h)
        (subst (λ (x : ℕ). Run N cap (undecided - 1) (with_row decided (lowest rest)) (without_lowest rest) x (take count list) out r.0)
        (e ∙ ap (with_row set) t.row) (to_run next (take count list) out r)))

    pub run_leaves : is_sub set (N i) ≡ false → (MayTake N decided set i → ⊥) → To set (take count list) out → own
    run_leaves h m r =
        from_suc (leaves short (ap (λ (k : ℕ). is_sub set (N k)) (sym t.row) ∙ h) (λ y. m (subst (MayTake N decided set) (sym t.row) y))
        (to_run set (take count list) out r))

    pub run_takes : is_sub set (N i) ≡ false → MayTake N decided set i → (next : ℕ) → next ≡ taken N set i → (mid : List ℕ)
        → To next (take count list) mid → To set mid out → own
    run_takes h m next e mid a b =
        from_suc (takes short (ap (λ (k : ℕ). is_sub set (N k)) (sym t.row) ∙ h) (subst (MayTake N decided set) t.row m)
        (subst (λ (x : ℕ). Run N cap (undecided - 1) (with_row decided (lowest rest)) (without_lowest rest) x (take count list) mid a.0)
        (e ∙ ap (taken N set) t.row) (to_run next (take count list) mid a))
        (to_run set mid out b))
