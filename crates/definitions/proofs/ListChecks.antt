-- What the checks of a set list ask of its header and of each record, part by part. Assumes nothing.
use mathlib.Core.Path.{◌≡◌}
use mathlib.Core.Bool.{Bool, true, ◌&&◌}
use mathlib.Core.Logic.{◌↔◌}
use mathlib.Core.List.{List}
use Prim.Native.Nat.{ℕ, suc, ◌+◌, ◌*◌, ◌<◌, ◌≤◌}
use native.Mathlib.Omega.{arith}
use lib.Dec.{eqb, leb, ltb}
use lib.ListN.{length, get_or, take}
use borrow.Author.Tests.{leb-true, le-leb, ltb-true, lt-ltb, eqb-true, eq-eqb}
use Rattle.definitions.specs.Limits.{max_union_rows, max_sets}
use Rattle.definitions.specs.Lists.{all}
use Rattle.definitions.specs.Word.{kind_of}
use Rattle.definitions.specs.Image.{header, column_count, is_header}
use Rattle.definitions.specs.Questions.{has_header}
use Rattle.definitions.specs.Reading.{set_count, positions_in, joined_position}
use Rattle.definitions.specs.ReadBack.{is_set_list, are_mark_words, is_record}
use Rattle.std.proofs.lemmas.Bool.{and_from, and_parts}
use Rattle.definitions.proofs.Lists.{all_true, all_of}

-- check 12: the row count, the header and the length
pub record WellFormed (m rows : ℕ) (list : List ℕ) : Type 0 where
  pub few_rows : rows ≤ max_union_rows
  pub first_word : 0 < length list
  pub is_header_word : is_header (header list) ≡ true
  pub width : column_count list ≡ suc m
  pub few_sets : set_count list ≤ max_sets
  pub all_words : length list ≡ 1 + suc m * set_count list

module _ (m rows : ℕ) (list : List ℕ) where
  pub well_formed_is : (is_set_list m rows list ≡ true) ↔ WellFormed m rows list
  unfolding is_set_list
  well_formed_is = (to, from)
    where
      few : Bool
      few = leb rows max_union_rows

      head : Bool
      head = has_header list && eqb (column_count list) (suc m)

      sets : Bool
      sets = leb (set_count list) max_sets

      size : Bool
      size = eqb (length list) (1 + suc m * set_count list)

      to : is_set_list m rows list ≡ true → WellFormed m rows list
      to e =
          let first = (and_parts (few && head && sets) size e).0 in
          let start = (and_parts (few && head) sets first).0 in
          let titled = (and_parts few head start).1 in
          let has = (and_parts (has_header list) (eqb (column_count list) (suc m)) titled).0 in
          record {
            few_rows = leb-true rows max_union_rows (and_parts few head start).0;
            first_word = ltb-true 0 (length list) (and_parts (ltb 0 (length list)) (is_header (header list)) has).0;
            is_header_word = (and_parts (ltb 0 (length list)) (is_header (header list)) has).1;
            width = eqb-true (column_count list) (suc m) (and_parts (has_header list) (eqb (column_count list) (suc m)) titled).1;
            few_sets = leb-true (set_count list) max_sets (and_parts (few && head) sets first).1;
            all_words = eqb-true (length list) (1 + suc m * set_count list) (and_parts (few && head && sets) size e).1;
          }

      from : WellFormed m rows list → is_set_list m rows list ≡ true
      from l =
          and_from _ _
          (and_from _ _
          (and_from _ _ (le-leb rows max_union_rows l.few_rows)
          (and_from _ _ (and_from _ _ (lt-ltb 0 (length list) l.first_word) l.is_header_word)
          (eq-eqb (column_count list) (suc m) l.width)))
          (le-leb (set_count list) max_sets l.few_sets))
          (eq-eqb (length list) (1 + suc m * set_count list) l.all_words)

-- check 13 of one record: its kinds, its positions and the position of its joined row
pub record ValidRecord (m rows : ℕ) (words : List ℕ) : Type 0 where
  pub mark_kinds : are_mark_words (take m words) ≡ true
  pub row_kind : kind_of (get_or words m 0) ≡ 1
  pub some_position : 0 < length (positions_in m words)
  pub in_rows : all (λ p. ltb p rows) (positions_in m words) ≡ true
  pub joined_row : joined_position m words < max_sets

module _ (m rows : ℕ) (words : List ℕ) where
  pub valid_is : (is_record m rows words ≡ true) ↔ ValidRecord m rows words
  unfolding is_record
  valid_is = (to, from)
    where
      marks : Bool
      marks = are_mark_words (take m words)

      row : Bool
      row = eqb (kind_of (get_or words m 0)) 1

      some : Bool
      some = ltb 0 (length (positions_in m words))

      known : Bool
      known = all (λ p. ltb p rows) (positions_in m words)

      fits : Bool
      fits = ltb (joined_position m words) max_sets

      to : is_record m rows words ≡ true → ValidRecord m rows words
      to e =
          let first = (and_parts (marks && row && (some && known)) fits e).0 in
          let kinds = (and_parts (marks && row) (some && known) first).0 in
          let positions = (and_parts (marks && row) (some && known) first).1 in
          record {
            mark_kinds = (and_parts marks row kinds).0;
            row_kind = eqb-true (kind_of (get_or words m 0)) 1 (and_parts marks row kinds).1;
            some_position = ltb-true 0 (length (positions_in m words)) (and_parts some known positions).0;
            in_rows = (and_parts some known positions).1;
            joined_row = ltb-true (joined_position m words) max_sets (and_parts (marks && row && (some && known)) fits e).1;
          }

      from : ValidRecord m rows words → is_record m rows words ≡ true
      from s =
          and_from _ _
          (and_from _ _ (and_from _ _ s.mark_kinds (eq-eqb (kind_of (get_or words m 0)) 1 s.row_kind))
          (and_from _ _ (lt-ltb 0 (length (positions_in m words)) s.some_position) s.in_rows))
          (lt-ltb (joined_position m words) max_sets s.joined_row)

-- ---- read with more rows than T has

module _ {rows more : ℕ} (h : rows ≤ more) where
  all_within : (ps : List ℕ) → all (λ p. ltb p rows) ps ≡ true → all (λ p. ltb p more) ps ≡ true
  all_within ps e =
      all_of (λ p. ltb p more) ps
      (λ p i. lt-ltb p more (omega (arith, ltb-true p rows (all_true (λ q. ltb q rows) ps e p i))))

  pub valid_more : {m : ℕ} {words : List ℕ} → ValidRecord m rows words → ValidRecord m more words
  valid_more {m} {words} v = record {
    mark_kinds = v.mark_kinds;
    row_kind = v.row_kind;
    some_position = v.some_position;
    in_rows = all_within (positions_in m words) v.in_rows;
    joined_row = v.joined_row;
  }

  pub form_more : {m : ℕ} {list : List ℕ} → more ≤ max_union_rows → WellFormed m rows list → WellFormed m more list
  form_more g f = record {
    few_rows = g;
    first_word = f.first_word;
    is_header_word = f.is_header_word;
    width = f.width;
    few_sets = f.few_sets;
    all_words = f.all_words;
  }
