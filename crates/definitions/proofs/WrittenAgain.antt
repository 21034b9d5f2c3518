-- Request A1: the records of an accepted list, written again from what is read of them, are the same words. Assumes nothing.
use mathlib.Core.Path.{◌≡◌, refl, sym, ◌∙◌, ap, ap₂}
use mathlib.Core.List.{List, [], ◌∷◌, ◌++◌, map, map-map, map-id, flatten, append_assoc}
use Prim.Native.Nat.{ℕ, suc, ◌*◌, ◌≤◌}
use native.Mathlib.Nat.{mul_comm}
use native.Mathlib.Numerals.{add-one}
use native.Mathlib.Omega.{arith}
use lib.Dec.{eqb}
use lib.ListN.{length, get_or, take, drop, length-drop, length-map}
use lib.Seq.{take_all, take-suc, take_at, drop-append-add, drop_at, drop-cons, get_or_at}
use borrow.Author.Tests.{eqb-true}
use Rattle.definitions.specs.Limits.{max_union_rows, mark_words, marks_per_word}
use Rattle.definitions.specs.Word.{kind_of, header_word, header_spare, word_of}
use Rattle.definitions.specs.Image.{header}
use Rattle.definitions.specs.SetList.{bits, marks_from, record_of, list_of}
use Rattle.definitions.specs.Reading.{set_count, records_in, set_in, positions_in, joined_position}
use Rattle.definitions.specs.ReadBack.{Entry, entry_in, entry_words, read_words, is_record, entries_of, set_of, record_again, list_again}
use Rattle.definitions.specs.Statements.{Member}
use Rattle.definitions.specs.Claims.{AcceptedList}
use Rattle.definitions.specs.Promise.{WrittenAgain}
use Rattle.std.proofs.lemmas.Bool.{and_parts}
use Rattle.definitions.proofs.Lists.{map_ext, all_true, all_of}
use Rattle.definitions.proofs.Images.{words_rows, rows_wide}
use Rattle.definitions.proofs.Reading.{marks_count, records_count}
use Rattle.definitions.proofs.MarkBits.{marks_again}
use Rattle.definitions.proofs.Positions.{set_again}
use Rattle.definitions.proofs.ListChecks.{WellFormed, well_formed_is, form_more, ValidRecord, valid_is, valid_more}
use Rattle.definitions.proofs.ReadOutcome.{read_complete}

-- ---- the words of entries tell the entries

-- the words of the first entry, and what stands behind them
entries_next : (n : ℕ) (entry : Entry) (rest : List ℕ) → entries_of (suc n) (entry_words entry ++ rest) ≡ entry ∷ entries_of n rest
unfolding entries_of
entries_next n entry rest =
    let members = entry.members in
    let position = entry.position_of_joined in
    let words : members ++ (position ∷ []) ++ rest ≡ members ++ (position ∷ rest) =
    append_assoc members (position ∷ []) rest in
    let front : take (length members) (members ++ (position ∷ []) ++ rest) ≡ members =
    ap (take (length members)) words ∙ take_at members (position ∷ rest) (length members) refl in
    let next : get_or (members ++ (position ∷ []) ++ rest) (length members) 0 ≡ position =
    ap (λ (l : List ℕ). get_or l (length members) 0) words ∙ get_or_at members position rest 0 (length members) refl in
    let past : drop (suc (length members)) (members ++ (position ∷ []) ++ rest) ≡ rest =
    ap₂ (λ (k : ℕ) (l : List ℕ). drop k l) (sym (add-one (length members))) words
    ∙ drop-append-add members (position ∷ rest) 1 in
    ap₂ (λ (e : Entry) (l : List Entry). e ∷ l)
    (ap₂ (λ (l : List ℕ) (k : ℕ). record { members = l; position_of_joined = k }) front next)
    (ap (entries_of n) past)

pub entries_again : (entries : List Entry) → entries_of (length entries) (flatten (map entry_words entries)) ≡ entries
unfolding entries_of flatten
entries_again [] = refl
entries_again (entry ∷ entries) =
    entries_next (length entries) entry (flatten (map entry_words entries))
    ∙ ap (λ (l : List Entry). entry ∷ l) (entries_again entries)

-- and so the same words are those of the same entries
entries_apart : (xs ys : List Entry) → flatten (map entry_words xs) ≡ flatten (map entry_words ys) → xs ≡ ys
unfolding flatten
entries_apart [] [] e = refl
entries_apart [] (y ∷ ys) e = absurd (omega (arith, ap length e))
entries_apart (x ∷ xs) [] e = absurd (omega (arith, ap length e))
entries_apart (x ∷ xs) (y ∷ ys) e =
    let rest = flatten (map entry_words xs) in
    let other = flatten (map entry_words ys) in
    let first : x ≡ y =
    ap (λ (l : List Entry). get_or l 0 x) (sym (entries_next 0 x rest) ∙ ap (entries_of 1) e ∙ entries_next 0 y other) in
    let size : length (entry_words x) ≡ length (entry_words y) = ap (λ (z : Entry). length (entry_words z)) first in
    let behind : rest ≡ other =
    sym (drop_at (entry_words x) rest (length (entry_words x)) refl)
    ∙ ap₂ (λ (k : ℕ) (l : List ℕ). drop k l) size e
    ∙ drop_at (entry_words y) other (length (entry_words y)) refl in
    ap₂ (λ (z : Entry) (l : List Entry). z ∷ l) first (entries_apart xs ys behind)

-- ---- a record from its entry

module _ (m rows : ℕ) where
  pub record_again_lem : (words : List ℕ) → length words ≡ suc m → ValidRecord m rows words
      → record_of m (bits (set_of m (positions_in m words))) (joined_position m words) ≡ words
  unfolding record_of
  record_again_lem words e s =
      let w = get_or words m 0 in
      let kind = s.row_kind in
      let row : word_of 1 (joined_position m words) ≡ w = omega arith in
      ap₂ (λ (l : List ℕ) (k : ℕ). l ++ (k ∷ []))
      (ap (λ x. marks_from m (bits x)) (set_again m (set_in m words) (marks_count (marks_per_word * m) words))
      ∙ marks_again m words (omega arith) s.mark_kinds)
      row
      ∙ sym (take-suc words m 0 (omega arith))
      ∙ take_all (suc m) words (omega arith)

-- ---- a list from its entries

module _ (m rows : ℕ) (list : List ℕ) (l : WellFormed m rows list) where
  header_again : header_word (set_count list) (suc m) ≡ header list
  header_again =
      let w = header list in
      let kind = eqb-true (kind_of w) 3 (and_parts (eqb (kind_of w) 3) (eqb (header_spare w) 0) l.is_header_word).0 in
      let spare = eqb-true (header_spare w) 0 (and_parts (eqb (kind_of w) 3) (eqb (header_spare w) 0) l.is_header_word).1 in
      let width = l.width in
      omega arith

  -- the words past the header are those of the records
  past_header : length (drop 1 list) ≡ set_count list * suc m
  past_header = length-drop 1 list ∙ omega (arith, l.all_words, mul_comm (suc m) (set_count list))

  pub records_long : (words : List ℕ) → Member words (records_in m list) → length words ≡ suc m
  records_long = rows_wide (suc m) (set_count list) (drop 1 list) (omega (arith, past_header))

  form_again : list_of m (records_in m list) ≡ list
  unfolding list_of
  form_again =
      ap₂ (λ (k : ℕ) (w : List ℕ). header_word k (suc m) ∷ w) (records_count m list)
      (words_rows (suc m) (set_count list) (drop 1 list)
      ∙ take_all (set_count list * suc m) (drop 1 list) (omega (arith, past_header)))
      ∙ ap (λ (k : ℕ). k ∷ drop 1 list) header_again
      ∙ sym (drop-cons list 0 0 l.first_word)

  -- the entries that the read words tell
  pub entries_told : entries_of (set_count list) (read_words m list) ≡ map (entry_in m) (records_in m list)
  unfolding read_words
  entries_told =
      ap₂ entries_of (sym (records_count m list) ∙ sym (length-map (records_in m list) (entry_in m)))
      (ap flatten (sym (map-map entry_words (entry_in m) (records_in m list))))
      ∙ entries_again (map (entry_in m) (records_in m list))

  pub list_again_lem : ((words : List ℕ) → Member words (records_in m list) → ValidRecord m rows words)
      → list_again m (entries_of (set_count list) (read_words m list)) ≡ list
  unfolding list_again
  list_again_lem valid =
      ap (λ (entries : List Entry). list_of m (map (record_again m) entries)) entries_told
      ∙ ap (list_of m)
      (map-map (record_again m) (entry_in m) (records_in m list)
      ∙ map_ext (λ words. record_again m (entry_in m words)) (λ words. words) (records_in m list)
      (λ words h. record_again_lem m rows words (records_long words h) (valid words h))
      ∙ map-id (records_in m list))
      ∙ form_again

-- ---- accepted lists

module _ {rows : ℕ} {list : List ℕ} (c : AcceptedList rows list) where
  pub accepted_form : WellFormed mark_words rows list
  accepted_form = (well_formed_is mark_words rows list).0 c.listed

  pub accepted_valid : (words : List ℕ) → Member words (records_in mark_words list) → ValidRecord mark_words rows words
  accepted_valid words h =
      (valid_is mark_words rows words).0 (all_true (is_record mark_words rows) (records_in mark_words list) c.records words h)

  -- a list is accepted with a greater row count too, and read as the same words: what is read asks for no row count
  pub accepted_more : {more : ℕ} → rows ≤ more → more ≤ max_union_rows → AcceptedList more list
  accepted_more {more} h g = record {
    listed = (well_formed_is mark_words more list).1 (form_more h g accepted_form);
    records =
        all_of (is_record mark_words more) (records_in mark_words list)
        (λ words i. (valid_is mark_words more words).1 (valid_more h (accepted_valid words i)));
    ordered = c.ordered;
  }

  pub again_list : list_again mark_words (entries_of (set_count list) (read_words mark_words list)) ≡ list
  again_list = list_again_lem mark_words rows list accepted_form accepted_valid

-- accepted lists of which the same words are read are the same list, whatever the row counts
pub read_apart : {rows₁ rows₂ : ℕ} {list₁ list₂ : List ℕ} → AcceptedList rows₁ list₁ → AcceptedList rows₂ list₂
    → read_words mark_words list₁ ≡ read_words mark_words list₂ → list₁ ≡ list₂
unfolding read_words
read_apart {list₁ = list₁} {list₂} c₁ c₂ words =
    let told : (list : List ℕ) → read_words mark_words list ≡ flatten (map entry_words (map (entry_in mark_words) (records_in mark_words list))) =
    λ list. ap flatten (sym (map-map entry_words (entry_in mark_words) (records_in mark_words list))) in
    let entries : map (entry_in mark_words) (records_in mark_words list₁) ≡ map (entry_in mark_words) (records_in mark_words list₂) =
    entries_apart _ _ (sym (told list₁) ∙ words ∙ told list₂) in
    sym (again_list c₁)
    ∙ ap (list_again mark_words) (entries_told mark_words _ list₁ (accepted_form c₁) ∙ entries ∙ sym (entries_told mark_words _ list₂ (accepted_form c₂)))
    ∙ again_list c₂

-- "the records of any accepted list, written again by document 01's layout, are the same words"
pub written_again : WrittenAgain
written_again list rows words sets count words_after p =
    let d = read_complete p in
    let result = read_words mark_words list in
    let count_is : length result ≡ count = sym (ap (λ (l : List ℕ). get_or l 1 0) d.carries) in
    ap₂ (λ (n : ℕ) (w : List ℕ). list_again mark_words (entries_of n w)) (ap (λ (l : List ℕ). get_or l 0 0) d.carries)
    (ap (take count) p.writes ∙ take_at result (drop (length result) words) count count_is)
    ∙ again_list d.accepted
