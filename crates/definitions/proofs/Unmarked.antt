-- Request A2, "if none is, any column counts as before": two tables without a marked column get what they got before it.
-- Assumes nothing.
use mathlib.Core.Path.{◌≡◌, refl, sym, ◌∙◌, ap}
use mathlib.Core.Bool.{Bool, false, ◌&&◌}
use mathlib.Core.List.{List, []}
use Prim.Native.Nat.{ℕ, ◌/◌, ◌%◌, ◌^◌}
use native.Mathlib.Nat.{zero-add, div-div-eq-div-mul}
use native.Mathlib.Omega.{arith}
use lib.Dec.{eqb}
use lib.ListN.{length, get_or}
use borrow.Author.Tests.{eqb-true, eqb-false, eq-eqb}
use Rattle.definitions.specs.Lists.{any}
use Rattle.definitions.specs.Word.{kind_of, id_of, mark_of, word_of, column_spare, column_word}
use Rattle.definitions.specs.Image.{column_words, image_of, is_column}
use Rattle.definitions.specs.OuterUnion.{union_ids, marks, union_column, union_columns, union_rows}
use Rattle.definitions.specs.MinimumUnion.{minimum_rows}
use Rattle.definitions.specs.ComplementUnion.{counted_cells, complement, complement_at, union_sets}
use Rattle.definitions.specs.SetList.{set_list}
use Rattle.definitions.specs.Questions.{columns_right}
use Rattle.definitions.specs.Statements.{Member}
use Rattle.definitions.specs.Calls.{pair_outcome, outer_image, minimum_image, fused_table, fused_image, sets_outcome, complement_outcome}
use Rattle.definitions.specs.Unmarked.{Unmarked, columns_before, words_before, complement_before, sets_before, AsBefore}
use Rattle.std.proofs.lemmas.Bool.{and_right, or_from}
use Rattle.definitions.proofs.Bools.{bool_eq}
use Rattle.definitions.proofs.Lists.{map_ext, all_ext, any_false, any_none}
use Rattle.definitions.proofs.Sets.{listed_ext}
use Rattle.definitions.proofs.UnionColumns.{any_marked}

-- ---- column words without the mark

-- bits 28 to 16 and bit 29 are zero exactly if bits 29 to 16 are
spare_before : (w : ℕ) → mark_of w ≡ false → eqb (column_spare w) 0 ≡ eqb (w / 2 ^ 16 % 2 ^ 14) 0
spare_before w e =
    let x = w / 2 ^ 16 in
    let above : w / 2 ^ 29 ≡ x / 2 ^ 13 = sym (div-div-eq-div-mul w (2 ^ 16) (2 ^ 13)) in
    let unmarked : x / 2 ^ 13 % 2 ≡ 1 → ⊥ = λ q. eqb-false (w / 2 ^ 29 % 2) 1 e (ap (λ (n : ℕ). n % 2) above ∙ q) in
    bool_eq (eqb (column_spare w) 0) (eqb (w / 2 ^ 16 % 2 ^ 14) 0)
    (λ h. eq-eqb (x % 2 ^ 14) 0 (higher x unmarked (eqb-true (x % 2 ^ 13) 0 h)))
    (λ h. eq-eqb (x % 2 ^ 13) 0 (lower x (eqb-true (x % 2 ^ 14) 0 h)))
  where
    higher : (x : ℕ) → (x / 2 ^ 13 % 2 ≡ 1 → ⊥) → x % 2 ^ 13 ≡ 0 → x % 2 ^ 14 ≡ 0
    higher x u z = omega arith

    lower : (x : ℕ) → x % 2 ^ 14 ≡ 0 → x % 2 ^ 13 ≡ 0
    lower x z = omega arith

module _ (image : List ℕ) (none : Unmarked image) where
  unmarked : (w : ℕ) → Member w (column_words image) → mark_of w ≡ false
  unmarked = any_false mark_of (column_words image) none

  question_before : columns_right image ≡ columns_before image
  question_before =
      all_ext is_column (λ w. eqb (kind_of w) 2 && eqb (w / 2 ^ 16 % 2 ^ 14) 0) (column_words image)
      (λ w m. ap (λ (x : Bool). eqb (kind_of w) 2 && x) (spare_before w (unmarked w m)))

  -- no column is marked, whatever its id
  marks_none : (id : ℕ) → marks (column_words image) id ≡ false
  marks_none id =
      any_none (λ w. eqb id (id_of w) && mark_of w) (column_words image) (λ w m. and_right (eqb id (id_of w)) (mark_of w) (unmarked w m))

-- ---- condition (3)

-- where no column of the union is marked, complementing is document 01's
pub unmarked_condition : (columns : List ℕ) → any mark_of columns ≡ false → (s t : List ℕ) → complement columns s t ≡ complement_before s t
unfolding complement counted_cells
unmarked_condition columns none s t = rw none refl

-- ---- two tables

module _ (a b : List ℕ) (first : Unmarked a) (second : Unmarked b) where
  columns_before_lem : union_columns a b ≡ words_before a b
  unfolding union_columns
  columns_before_lem =
      map_ext (union_column (column_words a) (column_words b)) (word_of 2) (union_ids a b)
      (λ id m. ap (column_word id) (or_from _ _ (marks_none a first id) (marks_none b second id)) ∙ ap (word_of 2) (zero-add id))

  words_unmarked : any mark_of (words_before a b) ≡ false
  words_unmarked = ap (any mark_of) (sym columns_before_lem) ∙ any_marked a b ∙ or_from _ _ first second

  sets_before_lem : union_sets (words_before a b) (union_rows a b) ≡ sets_before (union_rows a b)
  unfolding union_sets
  sets_before_lem =
      listed_ext (complement_at (words_before a b) (union_rows a b))
      (λ j k. complement_before (get_or (union_rows a b) j []) (get_or (union_rows a b) k [])) (length (union_rows a b))
      (λ j k h g. unmarked_condition (words_before a b) words_unmarked (get_or (union_rows a b) j []) (get_or (union_rows a b) k []))

  pub unmarked_as_before : AsBefore a b
  unfolding outer_image minimum_image fused_image complement_outcome
  unmarked_as_before = record {
    first_columns = question_before a first;
    second_columns = question_before b second;
    columns = columns_before_lem;
    outer = ap (λ (l : List ℕ). image_of l (union_rows a b)) columns_before_lem;
    minimum = ap (λ (l : List ℕ). image_of l (minimum_rows (union_rows a b))) columns_before_lem;
    fused = ap (λ (l : List ℕ). fused_table l (union_rows a b)) columns_before_lem;
    list = ap (λ (l : List ℕ). set_list l (union_rows a b)) columns_before_lem;
    answer = λ room sets_room. ap (λ (l : List ℕ). pair_outcome a b (sets_outcome l (union_rows a b) room sets_room)) columns_before_lem;
    condition = unmarked_condition (words_before a b) words_unmarked;
    sets = sets_before_lem;
  }
