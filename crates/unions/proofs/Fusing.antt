-- The end of complement union: the fused table and the set list, the questions 10 and 11, and the promise of the call. Assumes nothing.
use mathlib.Core.Path.{◌≡◌, refl, sym, ◌∙◌, ap, ap₂, subst}
use mathlib.Core.List.{List, [], ◌∷◌, ◌++◌, flatten}
use Prim.Native.Nat.{ℕ, ◌+◌, ◌*◌, ◌≤◌}
use native.Mathlib.Omega.{arith}
use lib.Dec.{leb}
use lib.ListN.{length, take, drop, length-map}
use lib.Seq.{take-length}
use Rattle.definitions.specs.Limits.{max_sets, mark_words, set_width}
use Rattle.definitions.specs.Image.{image_of}
use Rattle.definitions.specs.OuterUnion.{union_columns, union_rows}
use Rattle.definitions.specs.MinimumUnion.{filled}
use Rattle.definitions.specs.ComplementUnion.{union_sets, fused_rows}
use Rattle.definitions.specs.SetList.{bits, list_of, set_list}
use Rattle.std.proofs.Common.{Result, Ok, Err}
use Rattle.std.specs.Prelude.{⊤}
use Rattle.definitions.specs.declared.answers.ComplementCounts.{ComplementCounts}
use Rattle.definitions.specs.declared.refusal.Refusal.{Refusal}
use Rattle.definitions.specs.Refusal.{question_number, table_number}
use Rattle.definitions.specs.Answer.{Outcome, done, refused, unless, no, or_refused, complement_says}
use Rattle.definitions.specs.Calls.{fused_image, complement_values, rooms_outcome, complement_outcome}
use Rattle.definitions.specs.Promise.{ComplementPromise}
use Rattle.definitions.proofs.Counts.{set_list-length}
use Rattle.definitions.proofs.Promise.{complement_promised}
use Rattle.images.specs.Writing.{chosen, Writable, WrittenImage}
use Rattle.images.proofs.Rows.{image_words, image_values}
use Rattle.fusing.specs.declared.union_rows.UnionRows.{UnionRows}
use Rattle.fusing.specs.Fused.{FusedOf}
use Rattle.fusing.specs.UnionRows.{rows_of}
use Rattle.set_lists.specs.Records.{records_of, Listable}
use Rattle.set_lists.proofs.Written.{positions_below_lem, list_written}
use Rattle.rows.specs.Indices.{rows_at, Below}
use Rattle.rows.specs.declared.named.Rows.{Rows}
use Rattle.tables.specs.declared.Table.{Table}
use Rattle.tables.specs.Table.{Found, TableOf}
use Rattle.tables.specs.declared.union.Pair.{Pair}
use Rattle.unions.specs.Questions.{Checked, Roomy}
use Rattle.unions.specs.Fused.{ListedRows, FusedInto, FusedUnion, FusedTable}
use Rattle.unions.proofs.Pairs.{pair_accepted, pair_refused}

-- ---- the fused table and the set list

-- indices name the fused rows among the joined ones, and each set has its position
module _ {t : UnionRows} {list : List ℕ} (joins : Rows) {order positions : List ℕ} (w : ListedRows t list)
    (f : FusedOf t.column_words.now (rows_of t) (length t.column_words.now) (length list) joins.cells.now order positions (length order))
    (same : (joins.width ≡ length t.column_words.now) × (joins.len ≡ length list)) where
  abbrev words : List ℕ
  words = t.column_words.now

  abbrev T : List (List ℕ)
  T = rows_of t

  abbrev m : ℕ
  m = length order

  abbrev words_of_table : ℕ
  words_of_table = 1 + length words + m * length words

  abbrev words_of_sets : ℕ
  words_of_sets = 1 + set_width * length list

  pub fused_writable : Writable words joins order
  fused_writable = record {
    wide = same.0;
    few_columns = w.few_columns;
    few_rows = omega (arith, f.fewer, w.sets.few);
    below = subst (λ (n : ℕ). Below n order) (sym same.1) (subst (Below (length list)) (take-length order) f.below);
  }

  counted : length (union_sets words T) ≡ length list
  counted = sym (ap length w.sets.listed ∙ length-map (union_sets words T) bits)

  pub fused_listable : length list ≤ length positions → Listable list positions
  fused_listable room = record {
    few = w.sets.few;
    paired = room;
    small = subst (λ (l : List ℕ). Below max_sets l) (sym f.placed) (positions_below_lem words T (omega (arith, counted, w.sets.few)));
  }

  abbrev image : List ℕ
  image = image_of words (fused_rows words T)

  abbrev values : List ℕ
  values = complement_values words T

  list_words_lem : words_of_sets ≡ length (set_list words T)
  list_words_lem = ap (λ (c : ℕ). 1 + set_width * c) (sym counted) ∙ sym (set_list-length words T)

  -- the rows written are the fused ones
  fused : chosen joins order ≡ fused_rows words T
  fused =
      ap₂ (λ (c : ℕ) (l : List ℕ). rows_at c joins.cells.now l) same.0 (sym (take-length order)) ∙ f.fused

  named : image_of words (chosen joins order) ≡ image
  named = ap (image_of words) fused

  table_words : words_of_table ≡ length image
  table_words = image_words fused_writable ∙ ap length named

  -- what the questions 10 and 11 tell of two buffers
  module _ (table sets : List ℕ) (q : Result ⊤ Refusal) (asked : Roomy words_of_table (length table) words_of_sets (length sets) q) where
    outcome : or_refused q (done values) ≡ rooms_outcome words T (length table) (length sets)
    outcome =
        sym (asked.says (done values))
        ∙ ap₂ (λ (x y : ℕ). unless (no (leb x (length table)) 10) 2 (unless (no (leb y (length sets)) 11) 2 (done values)))
        table_words list_words_lem

    pub refused_fused : (r : Refusal) → q ≡ Err r → (answer : Result ComplementCounts Refusal) → answer ≡ Err r
        → FusedInto words T (complement_says answer) table table sets sets
    refused_fused r e answer f =
        let here : FusedInto words T (refused (question_number r.question) (table_number r.subject)) table table sets sets =
        record { answers = ap (λ (x : Result ⊤ Refusal). or_refused x (done values)) (sym e) ∙ outcome; writes = refl; lists = refl } in
        subst (λ (o : Outcome). FusedInto words T o table table sets sets) (ap complement_says (sym f)) here

    pub fused_done : (u : ⊤) → q ≡ Ok u → (table_after sets_after : List ℕ) (k : ℕ) → WrittenImage words (chosen joins order) table table_after k
        → sets_after ≡ list_of mark_words (records_of list positions) ++ drop words_of_sets sets
        → FusedInto words T (done (m ∷ words_of_table ∷ k ∷ length list ∷ words_of_sets ∷ [])) table table_after sets sets_after
    fused_done u e table_after sets_after k i s = record {
      answers = ap done
          (image_values fused_writable table table_after k i (length list ∷ words_of_sets ∷ [])
          ∙ ap₂ (λ (l : List (List ℕ)) (x : List ℕ). length l ∷ length x ∷ filled (flatten l) ∷ length list ∷ words_of_sets ∷ []) fused named
          ∙ ap₂ (λ (x y : ℕ). length (fused_rows words T) ∷ length image ∷ filled (flatten (fused_rows words T)) ∷ x ∷ y ∷ []) (sym counted) list_words_lem)
          ∙ ap (λ (x : Result ⊤ Refusal). or_refused x (done values)) (sym e) ∙ outcome;
      writes = i.words ∙ ap (λ (x : List ℕ). x ++ drop (length x) table) named;
      lists = list_written words T list positions sets sets_after (length list) counted w.sets.listed f.placed s;
    }

-- ---- the call

-- what `fuse_table` ensures of T in a table in work is the call's promise for an accepted pair
pub union_promised : {a b all : List ℕ} → Found a b all → {t : Table} {answer : Outcome} {table table_after sets sets_after : List ℕ}
    → FusedTable t answer table table_after sets sets_after → TableOf t (union_columns a b) (union_rows a b)
    → ComplementPromise a b table sets answer table_after sets_after
unfolding complement_outcome fused_image
union_promised {a} {b} f {t} {answer} {table} {table_after} {sets} {sets_after} into h =
    let g : FusedUnion (union_columns a b) (union_rows a b) answer table table_after sets sets_after =
    subst (λ (u : List ℕ). FusedUnion u (union_rows a b) answer table table_after sets sets_after) h.ids
    (subst (λ (l : List (List ℕ)). FusedUnion (take t.columns t.ids) l answer table table_after sets sets_after) h.rows_are into.fused) in
    complement_promised a b table sets answer table_after sets_after (g.answers ∙ pair_accepted f _) g.writes g.lists

-- the pair is refused, and the call answers with that
pub refused_complement : (a b table sets : List ℕ) (q : Result Pair Refusal) → Checked a b q → (r : Refusal) → q ≡ Err r
    → (answer : Result ComplementCounts Refusal) → answer ≡ Err r → ComplementPromise a b table sets (complement_says answer) table sets
unfolding complement_outcome
refused_complement a b table sets q c r e answer f =
    let told = refused (question_number r.question) (table_number r.subject) in
    let here : ComplementPromise a b table sets told table sets =
    complement_promised a b table sets told table sets (pair_refused q c _ r e) refl refl in
    subst (λ (o : Outcome). ComplementPromise a b table sets o table sets) (ap complement_says (sym f)) here
