-- The set list of a T passes the checks of the reader, which reads it as T's sets. Assumes nothing.
use mathlib.Core.Path.{◌≡◌, refl, sym, ◌∙◌, ap, ap₂, subst}
use mathlib.Core.Bool.{Bool, true, false}
use mathlib.Core.List.{List, [], ◌++◌, map, map-map, flatten, append-nil}
use Prim.Native.Nat.{ℕ, zero, suc, ◌+◌, ◌-◌, ◌*◌, ◌/◌, ◌%◌, ◌^◌, ◌<◌, ◌≤◌}
use native.Mathlib.Omega.{arith}
use lib.Dec.{ltb}
use lib.ListN.{length, replicate, length-map}
use lib.Seq.{take_at}
use borrow.Author.Tests.{eq-eqb, lt-ltb}
use Rattle.std.specs.declared.cmp.Ordering.TheVariants.{Less}
use Rattle.definitions.specs.Limits.{mark_words, set_width, max_union_rows, max_sets, marks_per_word}
use Rattle.definitions.specs.Lists.{all}
use Rattle.definitions.specs.Word.{kind_of, word_of}
use Rattle.definitions.specs.ComplementUnion.{compare_set, complement_at, union_sets}
use Rattle.definitions.specs.SetList.{bits, marks_from, fused_position, record_of, set_record, list_of, set_list}
use Rattle.definitions.specs.Reading.{set_count, records_in, set_in, positions_of, joined_position}
use Rattle.definitions.specs.ReadBack.{entry_words, read_record, read_words, are_mark_words, is_record, made_entry, made_words}
use Rattle.definitions.specs.Statements.{Member, StrictlyAscending}
use Rattle.definitions.specs.Claims.{AcceptedList}
use Rattle.std.proofs.lemmas.Bool.{and_from}
use Rattle.definitions.proofs.Ascending.{strict_image}
use Rattle.definitions.proofs.Orders.{set_behind}
use Rattle.definitions.proofs.Lists.{all_of, map-member, map_ext}
use Rattle.definitions.proofs.Sets.{listed_is, listed_rise}
use Rattle.definitions.proofs.Counts.{marks-length, set_list-length}
use Rattle.definitions.proofs.Images.{header_columns, header_is}
use Rattle.definitions.proofs.SetWords.{row_word}
use Rattle.definitions.proofs.Reading.{set_wide, positions_read, position_read}
use Rattle.definitions.proofs.Reading.{count_read, all_read, listed_length, listed_position}
use Rattle.definitions.proofs.Positions.{positions_within, positions_some}
use Rattle.definitions.proofs.ListChecks.{WellFormed, well_formed_is, ValidRecord, valid_is}

-- the words that marks are written to are of kind 2
mark_kinds : (n set : ℕ) → are_mark_words (marks_from n set) ≡ true
unfolding marks_from all
mark_kinds zero set = refl
mark_kinds (suc n) set =
    let kind : kind_of (word_of 2 (set % 2 ^ 30)) ≡ 2 = omega arith in
    and_from _ _ (eq-eqb (kind_of (word_of 2 (set % 2 ^ 30))) 2 kind) (mark_kinds n (set / 2 ^ 30))

module _ (columns : List ℕ) (t : List (List ℕ)) (few : length (union_sets columns t) ≤ max_sets) (rows : length t ≤ max_union_rows) where
  pub made_count : set_count (set_list columns t) ≡ length (union_sets columns t)
  made_count = ap set_count (sym (append-nil (set_list columns t))) ∙ count_read columns t [] few

  made_records : records_in mark_words (set_list columns t) ≡ map (set_record columns t) (union_sets columns t)
  made_records = ap (records_in mark_words) (sym (append-nil (set_list columns t))) ∙ all_read columns t [] few

  made_form : WellFormed mark_words (length t) (set_list columns t)
  unfolding set_list list_of
  made_form =
      let sets = map (set_record columns t) (union_sets columns t) in
      let size = length-map (union_sets columns t) (set_record columns t) in
      record {
        few_rows = rows;
        first_word = omega (arith, set_list-length columns t);
        is_header_word = header_is (length sets) set_width (omega arith) (omega arith);
        width = header_columns (length sets) set_width (omega arith);
        few_sets = omega (arith, made_count);
        all_words = set_list-length columns t ∙ ap (λ (n : ℕ). 1 + set_width * n) (sym made_count);
      }

  -- ---- its records

  module _ (s : List Bool) (h : Member s (union_sets columns t)) where
    size : length s ≡ length t
    size = listed_length columns t [] s h

    made_positions : positions_of 0 (set_in mark_words (set_record columns t s)) ≡ positions_of 0 s
    made_positions = positions_read columns t s (omega (arith, size))

    made_position : joined_position mark_words (set_record columns t s) ≡ fused_position columns t s
    made_position = position_read columns t s (listed_position columns t [] few s h)

    made_valid : ValidRecord mark_words (length t) (set_record columns t s)
    unfolding set_record record_of union_sets
    made_valid =
        let m = ((listed_is (complement_at columns t) (length t) s).0 h).complementing.some in
        let low = listed_position columns t [] few s h in
        let word = row_word columns t s in
        record {
          mark_kinds =
              ap are_mark_words
              (take_at (marks_from mark_words (bits s)) _ mark_words (marks-length mark_words (bits s)))
              ∙ mark_kinds mark_words (bits s);
          row_kind = omega arith;
          some_position = subst (λ (l : List ℕ). 0 < length l) (sym made_positions) (positions_some s m.0 m.1);
          in_rows =
              ap (all (λ p. ltb p (length t))) made_positions
              ∙ all_of (λ p. ltb p (length t)) (positions_of 0 s)
              (λ p g. lt-ltb p (length t) (omega (arith, size, (positions_within 0 s p g).1)));
          joined_row = omega (arith, low, made_position);
        }

    -- the set of the record is the set, and behind it as many positions for every set of T
    made_set : set_in mark_words (set_record columns t s) ≡ s ++ replicate (marks_per_word * mark_words - length t) false
    made_set =
        set_wide columns t s (omega (arith, size)) ∙ ap (λ (n : ℕ). s ++ replicate (marks_per_word * mark_words - n) false) size

    made_entry_lem : read_record mark_words (set_record columns t s) ≡ entry_words (made_entry columns t s)
    made_entry_lem = ap₂ (λ (l : List ℕ) (p : ℕ). entry_words (record { members = l; position_of_joined = p })) made_positions made_position

  made_order : (s u : List Bool) → Member s (union_sets columns t) → Member u (union_sets columns t) → compare_set s u ≡ Less
      → compare_set (set_in mark_words (set_record columns t s)) (set_in mark_words (set_record columns t u)) ≡ Less
  made_order s u h g e =
      ap₂ compare_set (made_set s h) (made_set u g)
      ∙ set_behind s u (replicate (marks_per_word * mark_words - length t) false) (size s h ∙ sym (size u g))
      ∙ e

  -- ---- the list

  pub list_accepted : AcceptedList (length t) (set_list columns t)
  unfolding union_sets
  list_accepted = record {
    listed = (well_formed_is mark_words (length t) (set_list columns t)).1 made_form;
    records =
        ap (all (is_record mark_words (length t))) made_records
        ∙ all_of (is_record mark_words (length t)) (map (set_record columns t) (union_sets columns t))
        (λ words h.
        let i = map-member (set_record columns t) words (union_sets columns t) h in
        ap (is_record mark_words (length t)) i.2
        ∙ (valid_is mark_words (length t) (set_record columns t i.0)).1 (made_valid i.0 i.1));
    ordered =
        subst (λ (l : List (List Bool)). StrictlyAscending compare_set l)
        (sym (ap (map (set_in mark_words)) made_records ∙ map-map (set_in mark_words) (set_record columns t) (union_sets columns t)))
        (strict_image compare_set compare_set (λ s. set_in mark_words (set_record columns t s)) (union_sets columns t) made_order
        (listed_rise (complement_at columns t) (length t)));
  }

  pub list_words_lem : read_words mark_words (set_list columns t) ≡ made_words columns t
  unfolding read_words made_words
  list_words_lem =
      ap flatten
      (ap (map (read_record mark_words)) made_records
      ∙ map-map (read_record mark_words) (set_record columns t) (union_sets columns t)
      ∙ map_ext (λ s. read_record mark_words (set_record columns t s)) (λ s. entry_words (made_entry columns t s)) (union_sets columns t) made_entry_lem)
