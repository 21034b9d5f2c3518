-- The sets of a part are listed after those that are listed already, and part after part until no row is left. Assumes nothing.
use mathlib.Core.Path.{◌≡◌, refl, sym, ap, ap₂, ◌∙◌, subst}
use mathlib.Core.List.{List, [], ◌∷◌, ◌++◌, map, append-nil, append_assoc}
use Prim.Native.Nat.{ℕ, ◌+◌, ◌-◌, ◌≤◌, ◌<◌}
use native.Mathlib.Omega.{arith}
use lib.ListN.{length, take, drop, length-append, length-map}
use lib.Seq.{length-take-le, take-add, take_at, drop_at}
use Rattle.std.proofs.lemmas.Bool.{false_from_ne_true}
use Rattle.definitions.proofs.Bools.{clash}
use Rattle.bitsets.specs.Bits.{has, but_not, either, Inside, Sub, size_below}
use Rattle.bitsets.proofs.Bits.{has_none, but_l, but_out, sub_less}
use Rattle.cliques.specs.Graph.{adjacent}
use Rattle.cliques.specs.Search.{row_of, adjacent_by, Run, stops, lists, joins, leaves, takes, Ran, Ready}
use Rattle.cliques.specs.Parts.{Part, Common, Parts, ends, fills, next, RanParts, RowsOf, Searched}
use Rattle.cliques.proofs.Run.{none_max}
use Rattle.cliques.proofs.Turns.{simple}

-- ---- a run adds to the list

run_extends : {N : ℕ → ℕ} {cap f d rest set calls : ℕ} {l out : List ℕ} → Run N cap f d rest set l out calls → (new : List ℕ) × (out ≡ l ++ new)
run_extends {l = l} (stops h) = ([], sym (append-nil l))
run_extends {set = set} (lists h) = (set ∷ [], refl)
run_extends (joins h s a) = run_extends a
run_extends (leaves h s m a) = run_extends a
run_extends {l = l} (takes h s m a b) =
    let p = run_extends a in
    let q = run_extends b in
    (p.0 ++ q.0, q.1 ∙ ap (λ (x : List ℕ). x ++ q.0) p.1 ∙ append_assoc l p.0 q.0)

-- a list of count sets grows to one of found sets
pub ran_grows : {N : ℕ → ℕ} {cap f d rest set : ℕ} (old list : List ℕ) (count found : ℕ) → count ≤ length old → found ≤ length list
    → Ran N cap f d rest set (take count old) (take found list) → count ≤ found
ran_grows old list count found first last run =
    let p = run_extends run.1 in
    omega (arith, ap length p.1, length-append (take count old) p.0, length-take-le count old first, length-take-le found list last)

-- ---- the search of a part

module _ (cap : ℕ) {width : ℕ} {neighbours : List ℕ} {part : ℕ} (r : RowsOf width neighbours part) where
  module _ (common core : ℕ) (c : Common (adjacent neighbours) part common) (e : core ≡ but_not part common) where
    core_inside : Inside core r.n
    core_inside k h = r.inside k (but_l part common k (rw e at h))

    core_bits : Inside core width
    core_bits k h = omega (arith, core_inside k h, r.bits)

    pub part_ready : (size : ℕ) → ((m : ℕ) → Inside core m → size ≡ size_below m core) → (count : ℕ) → count ≤ cap
        → Ready width cap neighbours 0 core size 0 count
    part_ready size es count few = record {
      n = r.n;
      graph = r.graph;
      split = record {
        fits = r.bits;
        past = λ k h. absurd (clash h (has_none k));
        ahead = core_inside;
        apart = λ k h. has_none k;
        counted = sym (es width core_bits);
      };
      maximal = none_max (row_of neighbours) r.n width (simple neighbours r.n r.graph);
      few = few;
    }

    -- the words from count to found are the new sets; changed in place, they stand there still
    module _ (size : ℕ) (es : (m : ℕ) → Inside core m → size ≡ size_below m core) (old list : List ℕ) (count found : ℕ) (first : count ≤ length old) (last : found ≤ length list)
        (run : Ran (row_of neighbours) cap size 0 core 0 (take count old) (take found list)) where
      abbrev new : List ℕ
      new = (run_extends run.1).0

      all : take found list ≡ take count old ++ new
      all = (run_extends run.1).1

      lengths : found ≡ count + length new
      lengths = sym (length-take-le found list last) ∙ ap length all ∙ length-append (take count old) new ∙ ap (λ (k : ℕ). k + length new) (length-take-le count old first)

      halves : take count list ++ take (found - count) (drop count list) ≡ take count old ++ new
      halves =
          let sum : count + (found - count) ≡ found = omega (arith, lengths) in
          sym (take-add count (found - count) list) ∙ ap (λ (k : ℕ). take k list) sum ∙ all

      front : length (take count list) ≡ count
      front = length-take-le count list (omega (arith, lengths, last))

      own : length (take count old) ≡ count
      own = length-take-le count old first

      before : take count list ≡ take count old
      before = sym (take_at (take count list) (take (found - count) (drop count list)) count front) ∙ ap (take count) halves ∙ take_at (take count old) new count own

      after : take (found - count) (drop count list) ≡ new
      after = sym (drop_at (take count list) (take (found - count) (drop count list)) count front) ∙ ap (drop count) halves ∙ drop_at (take count old) new count own

      pub part_searched : (f : List ℕ) (post : List ℕ) → f ≡ map (λ s. either s common) (take (found - count) (drop count list))
          → Searched (row_of neighbours) cap width part (take count old) (take found (take count list ++ (f ++ post)))
      part_searched f post ef =
          let mapped : f ≡ map (λ s. either s common) new = ef ∙ ap (map (λ s. either s common)) after in
          let whole : length (take count old ++ map (λ s. either s common) new) ≡ found =
          length-append (take count old) (map (λ s. either s common) new) ∙ ap₂ (λ (a b : ℕ). a + b) own (length-map new (λ s. either s common)) ∙ sym lengths in
          record {
            common = common;
            new = new;
            calls = run.0;
            rows = c;
            run = subst (λ (x : ℕ). Run (row_of neighbours) cap (size_below width x) 0 x 0 (take count old) (take count old ++ new) run.0) e
                (subst (λ (x : ℕ). Run (row_of neighbours) cap x 0 core 0 (take count old) (take count old ++ new) run.0) (es width core_bits)
                (subst (λ (x : List ℕ). Run (row_of neighbours) cap size 0 core 0 (take count old) x run.0) all run.1));
            sets = ap (take found) (ap₂ (λ (a b : List ℕ). a ++ (b ++ post)) before mapped ∙ sym (append_assoc (take count old) (map (λ s. either s common) new) post))
                ∙ take_at (take count old ++ map (λ s. either s common) new) post found whole;
          }

-- ---- part after part

-- what the list grows to from here on is what it grows to from the start
abbrev pub Continues : (ℕ → ℕ) → ℕ → ℕ → ℕ → ℕ → List ℕ → Type 0
Continues N cap n rows rest l = (out : List ℕ) (more : ℕ) → Parts N cap n rest l out more → RanParts N cap n rows [] out

-- how far the listing has come: the first count words of the list are the sets so far, and these rows are left
pub record ListedParts (N : ℕ → ℕ) (cap n rows : ℕ) (list : List ℕ) (rest count : ℕ) : Type 0 where
  pub room : cap ≤ length list
  pub few : count ≤ cap
  pub within : Sub rest rows
  pub continues : Continues N cap n rows rest (take count list)

module _ (N : ℕ → ℕ) (cap n rows rest : ℕ) (l : List ℕ) (c : Continues N cap n rows rest l) where
  pub continue_end : rest ≡ 0 → RanParts N cap n rows [] l
  continue_end e = c l 0 (ends e)

  pub continue_full : cap ≤ length l → RanParts N cap n rows [] l
  continue_full h = c l 0 (fills h)

  pub continue_part : length l < cap → (part left : ℕ) → Part (adjacent_by N) rest part → left ≡ but_not rest part → (out : List ℕ)
      → Searched N cap n part l out → Continues N cap n rows left out
  continue_part few part left p e out s end more q =
      c end (s.calls + more)
      (next s.common s.new few p s.rows s.run
      (subst (λ (x : ℕ). Parts N cap n x (l ++ map (λ t. either t s.common) s.new) end more) e
      (subst (λ (x : List ℕ). Parts N cap n left x end more) s.sets q)))

-- fewer rows are left
pub part_less : (adjacent : _) (rest part left : ℕ) → Part adjacent rest part → left ≡ but_not rest part → left < rest
part_less adjacent rest part left p e =
    rw e (sub_less (but_not rest part) rest p.row (but_l rest part) (p.within p.row p.there)
    (false_from_ne_true (has (but_not rest part) p.row) (λ h. clash p.there (but_out rest part p.row h))))

pub left_sub : (rest part left : ℕ) → left ≡ but_not rest part → Sub left rest
left_sub rest part left e k q = but_l rest part k (rw e at q)
