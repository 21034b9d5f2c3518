-- The neighbours of each row, narrowed column by column to those that agree with it. Assumes nothing.
use mathlib.Core.Path.{◌≡◌, refl, sym, ◌∙◌, ap, ap₂, subst}
use mathlib.Core.Bool.{Bool, true, false, not, ◌&&◌, ◌||◌}
use mathlib.Core.List.{List, []}
use Prim.Native.Nat.{ℕ, ◌+◌, ◌-◌, ◌*◌, ◌^◌, ◌<◌, ◌≤◌}
use native.Mathlib.Omega.{arith}
use lib.Bits.{bit_and, bit_or}
use lib.Dec.{eqb}
use lib.ListN.{length, get_or, set}
use lib.Seq.{get_or-set_same, get_or-set_other}
use borrow.Author.Tests.{eqb-true, eqb-false}
use Rattle.definitions.proofs.Images.{rows_length}
use Rattle.definitions.specs.Limits.{max_union_rows}
use Rattle.definitions.specs.Word.{is_filled}
use Rattle.definitions.specs.Image.{rows_in}
use Rattle.definitions.proofs.Bools.{bool_cases, clash}
use Rattle.lists.proofs.Flat.{rows_at_lem}
use Rattle.bitsets.specs.Bits.{word_bits, has, both, without_lowest}
use Rattle.cliques.specs.Graph.{adjacent}
use Rattle.bitsets.proofs.Bits.{Lowest, has_both, has-or}
use Rattle.patterns.specs.Columns.{ColumnsOf}
use Rattle.patterns.proofs.FilledRows.{filled-has}
use Rattle.patterns.proofs.Parts.{row_length}
use Rattle.fusing.specs.Groups.{cell_at, Groups}
use Rattle.bitsets.specs.Members.{Next}
use Rattle.fusing.specs.Graph.{NarrowedBy, Narrowed}
use Rattle.fusing.proofs.Words.{has_lacked}
use Rattle.bitsets.proofs.Rests.{lowest_of, passed, passed_all, among_more, next_not, passed_next, passed_else, passed_cases}
use Rattle.fusing.proofs.FilledRows.{cell_at_lem}
use Rattle.fusing.proofs.Agreeing.{cells_agree, AgreesFrom, agree_turn, agree_end}

-- ---- the rows of one column

-- what a row of the column keeps of a word
abbrev kept : ℕ → List ℕ → List ℕ → ℕ → ℕ → ℕ
kept filled leaders equal j word = bit_and word (bit_or (get_or equal (get_or leaders j 0) 0) (2 ^ word_bits - 1 - filled))

-- the words of the rows that are not in the rest are narrowed
pub record Narrowing (filled : ℕ) (leaders equal found : List ℕ) (rest : ℕ) (now : List ℕ) : Type 0 where
  pub among : (k : ℕ) → has rest k ≡ true → has filled k ≡ true
  pub done : (j : ℕ) → passed filled rest j ≡ true → get_or now j 0 ≡ kept filled leaders equal j (get_or found j 0)
  pub left : (j : ℕ) → passed filled rest j ≡ false → get_or now j 0 ≡ get_or found j 0

module _ (filled : ℕ) (leaders equal found : List ℕ) where
  pub narrow_turn : {rest j left : ℕ} {now : List ℕ} → Next rest j left → j < length now → Narrowing filled leaders equal found rest now
      → Narrowing filled leaders equal found left (set now j (kept filled leaders equal j (get_or now j 0)))
  narrow_turn {rest} {j} {left} {now} next within inv =
      let v : ℕ = kept filled leaders equal j (get_or now j 0) in
      let low : Lowest rest j = lowest_of next in
      subst (λ (r : ℕ). Narrowing filled leaders equal found r (set now j v)) (sym next.rest)
      (record {
        among = among_more filled rest j inv.among low;
        done = λ i h.
            passed_cases filled rest j inv.among low i h
            (λ p d. get_or-set_other now j i v 0 d ∙ inv.done i p)
            (λ q.
            ap (λ (k : ℕ). get_or (set now j v) k 0) q
            ∙ get_or-set_same now j v 0 within
            ∙ ap (kept filled leaders equal j) (inv.left j (next_not filled rest j inv.among low))
            ∙ ap (λ (k : ℕ). kept filled leaders equal k (get_or found k 0)) (sym q));
        left = λ i h.
            bool_cases (eqb i j)
            (λ e.
            absurd (clash (ap (passed filled (without_lowest rest)) (eqb-true i j e) ∙ passed_next filled rest j inv.among low) h))
            (λ e.
            let d = eqb-false i j e in
            get_or-set_other now j i v 0 d ∙ inv.left i (sym (passed_else filled rest j inv.among low i d) ∙ h));
      })

  pub narrow_next : {rest j left : ℕ} {now : List ℕ} → Next rest j left → Narrowing filled leaders equal found rest now → has filled j ≡ true
  narrow_next {rest} {j} next inv = inv.among j (lowest_of next).there

  pub narrow_end : (rest : ℕ) (now : List ℕ) → rest ≡ 0 → filled < 2 ^ word_bits → Narrowing filled leaders equal found rest now
      → NarrowedBy filled leaders equal found now
  unfolding both
  narrow_end rest now e fits inv = record {
    held = λ j k h small.
        let group = get_or equal (get_or leaders j 0) 0 in
        ap (λ (x : ℕ). has x k) (inv.done j (passed_all filled rest j e ∙ h))
        ∙ has_both (get_or found j 0) (bit_or group (2 ^ word_bits - 1 - filled)) k
        ∙ ap (λ (b : Bool). adjacent found j k && b)
        (has-or group (2 ^ word_bits - 1 - filled) k ∙ ap (λ (b : Bool). has group k || b) (has_lacked word_bits filled k fits small));
    others = λ j h. inv.left j (passed_all filled rest j e ∙ h);
  }

-- ---- the columns one after the other

-- c columns are passed
abbrev pub NarrowedTo : List (List ℕ) → List ℕ → ℕ → List ℕ → Type 0
NarrowedTo rows found c now =
    (j k : ℕ) → j < length rows → k < length rows → AgreesFrom (get_or rows j []) (get_or rows k []) (adjacent found j k) c (adjacent now j k)

-- a row that is filled in a column agrees there with its group and with the rows that are empty
beside : (e g : Bool) → ((g && e) || not g) ≡ (e || false || not g)
beside true true = refl
beside true false = refl
beside false true = refl
beside false false = refl

-- a row that is empty there agrees with each
alone : (e b g : Bool) → b ≡ (b && (e || true || not g))
alone true true g = refl
alone true false g = refl
alone false true g = refl
alone false false g = refl

module _ (c n : ℕ) (w columns found : List ℕ) (few : n ≤ max_union_rows) (fits : n * c ≤ length w) (o : ColumnsOf (rows_in c n w) c columns) where
  abbrev rows : List (List ℕ)
  rows = rows_in c n w

  below : (k : ℕ) → k < length rows → k < n
  below k h = omega (arith, rows_length c n w)

  wide : (k : ℕ) → k < length rows → length (get_or rows k []) ≡ c
  wide k h = ap length (rows_at_lem c n k w (below k h)) ∙ row_length c n k w fits (below k h)

  module _ (i filled : ℕ) (leaders equal now new : List ℕ) (more : i < c) (column : filled ≡ get_or columns i 0) (g : Groups (cell_at c w i) filled leaders equal)
      (b : NarrowedBy filled leaders equal now new) where
    abbrev cell : ℕ → ℕ
    cell k = get_or (get_or rows k []) i 0

    cell_is : (k : ℕ) → k < length rows → cell_at c w i k ≡ cell k
    cell_is k h = sym (ap (λ (r : List ℕ). get_or r i 0) (rows_at_lem c n k w (below k h)) ∙ cell_at_lem c k i w more)

    held_is : (k : ℕ) → k < length rows → has filled k ≡ is_filled (cell k)
    held_is k h = ap (λ (x : ℕ). has x k) (column ∙ o.words i more) ∙ filled-has rows i k h

    adjacent_turn : (j k : ℕ) → j < length rows → k < length rows → adjacent new j k ≡ (adjacent now j k && cells_agree (cell j) (cell k))
    adjacent_turn j k h l =
        bool_cases (is_filled (cell j))
        (λ e.
        let here : has filled j ≡ true = held_is j h ∙ e in
        b.held j k here (omega (arith, below k l))
        ∙ ap (λ (x : Bool). adjacent now j k && x)
        (ap (λ (x : Bool). x || not (has filled k)) (g.alike j k here ∙ ap₂ (λ (x y : ℕ). has filled k && eqb x y) (cell_is j h) (cell_is k l))
        ∙ ap (λ (f : Bool). (f && eqb (cell j) (cell k)) || not f) (held_is k l)
        ∙ beside (eqb (cell j) (cell k)) (is_filled (cell k))
        ∙ ap (λ (f : Bool). eqb (cell j) (cell k) || not f || not (is_filled (cell k))) (sym e)))
        (λ e.
        ap (λ (x : ℕ). has x k) (b.others j (held_is j h ∙ e))
        ∙ alone (eqb (cell j) (cell k)) (adjacent now j k) (is_filled (cell k))
        ∙ ap (λ (f : Bool). adjacent now j k && (eqb (cell j) (cell k) || not f || not (is_filled (cell k)))) (sym e))

    pub narrowed_turn : NarrowedTo rows found i now → NarrowedTo rows found (i + 1) new
    narrowed_turn inv j k h l =
        let size : length (get_or rows j []) ≡ c = wide j h in
        agree_turn (get_or rows j []) (get_or rows k []) (adjacent found j k) i (adjacent now j k) (size ∙ sym (wide k l)) (inv j k h l) (adjacent new j k) (omega arith)
        (adjacent_turn j k h l)

  pub narrowed_end : (i : ℕ) (now : List ℕ) → c ≤ i → NarrowedTo rows found i now → Narrowed rows found now
  narrowed_end i now all inv = record {
    agrees = λ j k h l.
        let size : length (get_or rows j []) ≡ c = wide j h in
        agree_end (get_or rows j []) (get_or rows k []) (adjacent found j k) i (adjacent now j k) (size ∙ sym (wide k l)) (inv j k h l) (omega arith);
  }
