-- Request A5 in numbers: smallest tables of which complement union's two groupings differ, without marks and with one, and three tables that
-- show what minimum union's groupings have to get right. Assumes nothing.
use mathlib.Core.Path.{◌≡◌, refl, sym, ◌∙◌, ap}
use mathlib.Core.List.{List, [], ◌∷◌, flatten}
use Prim.Native.Nat.{ℕ}
use native.Mathlib.Omega.{arith}
use lib.ListN.{get_or}
use Rattle.definitions.specs.Lists.{all, any, filter, find_index, distinct, all_below, sum_below}
use Rattle.definitions.specs.Image.{row_count, image_of}
use Rattle.definitions.specs.Ascending.{insert, ascending}
use Rattle.definitions.specs.OuterUnion.{compare_row, union_ids, union_columns, widened, widened_rows, union_rows}
use Rattle.definitions.specs.MinimumUnion.{filled, covers, subsumes, minimum_rows, tries, pairs_tried}
use Rattle.definitions.specs.ComplementUnion.{same_row, agree, share, marked_cells, counted_cells, complement, contains, subsets, adjacent_to_all, is_complementing, is_maximal, maximal_sets, members, join, join_all, joined, union_sets, fused_rows}
use Rattle.definitions.specs.SetList.{bits, marks_from, record_of, set_record, list_of, set_list}
use Rattle.definitions.specs.Questions.{image_number}
use Rattle.definitions.specs.Answer.{done}
use Rattle.definitions.specs.Calls.{pair_outcome, minimum_image, fused_image, minimum_outcome, complement_outcome}
use Rattle.definitions.specs.Grouping.{OfEachUnion, SomeDone, NotAssociative}
use Rattle.definitions.specs.Promise.{CallsNotAssociative}
use Rattle.definitions.proofs.Notation.{#, ∅, ∄, column, marked}
use Rattle.definitions.proofs.GroupedCalls.{calls_not_associative}

-- ---- "Complement union doesn't have the first property"

-- x and y share 1, and y and z share 3, so that each of these two pairs is joined to (1,2,3). That row subsumes the row of the table that
-- comes last, which doesn't complement it and stands beside it: (-,2,3) of z, or (1,2,-) of x.
abbrev x : List ℕ
x = image_of (column 10 ∷ column 11 ∷ []) ((# 1 ∷ # 2 ∷ []) ∷ [])

abbrev y : List ℕ
y = image_of (column 10 ∷ column 12 ∷ []) ((# 1 ∷ # 3 ∷ []) ∷ [])

abbrev z : List ℕ
z = image_of (column 11 ∷ column 12 ∷ []) ((# 2 ∷ # 3 ∷ []) ∷ [])

abbrev left : List ℕ
left = image_of (column 10 ∷ column 11 ∷ column 12 ∷ []) ((∅ ∷ # 2 ∷ # 3 ∷ []) ∷ (# 1 ∷ # 2 ∷ # 3 ∷ []) ∷ [])

abbrev right : List ℕ
right = image_of (column 10 ∷ column 11 ∷ column 12 ∷ []) ((# 1 ∷ # 2 ∷ ∅ ∷ []) ∷ (# 1 ∷ # 2 ∷ # 3 ∷ []) ∷ [])

-- With x and y a table without rows is enough, if it marks a column: where it comes last, they are joined by then, and where it comes before
-- x, what they share in column 10 doesn't count any more.
abbrev mark : List ℕ
mark = image_of (marked 11 ∷ []) []

abbrev together : List ℕ
together = image_of (column 10 ∷ marked 11 ∷ column 12 ∷ []) ((# 1 ∷ # 2 ∷ # 3 ∷ []) ∷ [])

abbrev apart : List ℕ
apart = image_of (column 10 ∷ marked 11 ∷ column 12 ∷ []) ((# 1 ∷ ∅ ∷ # 3 ∷ []) ∷ (# 1 ∷ # 2 ∷ ∅ ∷ []) ∷ [])

-- ---- minimum union

-- Each grouping leaves other rows out early: (7,-,-) and (7,3,-) of board and machine, (7,-,-) of machine and cabinet. Board marks column 11,
-- cabinet column 12.
abbrev board : List ℕ
board = image_of (column 10 ∷ marked 11 ∷ []) ((# 7 ∷ # 3 ∷ []) ∷ (# 7 ∷ ∅ ∷ []) ∷ (# 8 ∷ ∅ ∷ []) ∷ [])

abbrev machine : List ℕ
machine = image_of (column 12 ∷ column 11 ∷ column 10 ∷ []) ((# 2 ∷ # 3 ∷ # 7 ∷ []) ∷ (# 4 ∷ # 3 ∷ ∅ ∷ []) ∷ [])

abbrev cabinet : List ℕ
cabinet = image_of (marked 12 ∷ column 10 ∷ []) ((∅ ∷ # 7 ∷ []) ∷ (∄ ∷ ∅ ∷ []) ∷ [])

abbrev all_three : List ℕ
all_three =
    image_of (column 10 ∷ marked 11 ∷ marked 12 ∷ [])
    ((∅ ∷ ∅ ∷ ∄ ∷ []) ∷ (∅ ∷ # 3 ∷ # 4 ∷ []) ∷ (# 7 ∷ # 3 ∷ # 2 ∷ []) ∷ (# 8 ∷ ∅ ∷ ∅ ∷ []) ∷ [])

-- ---- both, computed

record Computed : Type 0 where
  fused_left : fused_image (fused_image x y) z ≡ left
  fused_right : fused_image x (fused_image y z) ≡ right
  fused_done : OfEachUnion (λ a b. SomeDone (complement_outcome a b 10 9)) fused_image x y z
  marked_left : fused_image (fused_image x y) mark ≡ together
  marked_right : fused_image x (fused_image y mark) ≡ apart
  marked_done : OfEachUnion (λ a b. SomeDone (complement_outcome a b 10 9)) fused_image x y mark
  minimum_left : minimum_image (minimum_image board machine) cabinet ≡ all_three
  minimum_right : minimum_image board (minimum_image machine cabinet) ≡ all_three
  minimum_twice : minimum_image all_three all_three ≡ all_three
  -- the answers: rows, words written, filled cells, pairs tried
  first_two_answer : minimum_outcome board machine 16 ≡ done (3 ∷ 13 ∷ 6 ∷ 17 ∷ [])
  left_answer : minimum_outcome (minimum_image board machine) cabinet 16 ≡ done (4 ∷ 16 ∷ 7 ∷ 19 ∷ [])
  last_two_answer : minimum_outcome machine cabinet 16 ≡ done (3 ∷ 13 ∷ 6 ∷ 12 ∷ [])
  right_answer : minimum_outcome board (minimum_image machine cabinet) 16 ≡ done (4 ∷ 16 ∷ 7 ∷ 27 ∷ [])
  twice_answer : minimum_outcome all_three all_three 16 ≡ done (4 ∷ 16 ∷ 7 ∷ 12 ∷ [])

computed : Computed
unfolding all any filter find_index distinct all_below sum_below image_of flatten insert ascending compare_row union_ids union_columns widened widened_rows
    union_rows filled covers subsumes minimum_rows tries pairs_tried same_row agree share marked_cells counted_cells complement contains subsets adjacent_to_all is_complementing
    is_maximal maximal_sets members join join_all joined union_sets fused_rows bits marks_from record_of set_record list_of set_list image_number
    pair_outcome minimum_image fused_image minimum_outcome complement_outcome
computed = record {
  fused_left = refl;
  fused_right = refl;
  fused_done = record {
    first_two = (1 ∷ 7 ∷ 3 ∷ 1 ∷ 5 ∷ [], refl);
    with_third = (2 ∷ 10 ∷ 5 ∷ 2 ∷ 9 ∷ [], refl);
    last_two = (1 ∷ 7 ∷ 3 ∷ 1 ∷ 5 ∷ [], refl);
    first_with = (2 ∷ 10 ∷ 5 ∷ 2 ∷ 9 ∷ [], refl);
  };
  marked_left = refl;
  marked_right = refl;
  marked_done = record {
    first_two = (1 ∷ 7 ∷ 3 ∷ 1 ∷ 5 ∷ [], refl);
    with_third = (1 ∷ 7 ∷ 3 ∷ 1 ∷ 5 ∷ [], refl);
    last_two = (1 ∷ 7 ∷ 2 ∷ 1 ∷ 5 ∷ [], refl);
    first_with = (2 ∷ 10 ∷ 4 ∷ 2 ∷ 9 ∷ [], refl);
  };
  minimum_left = refl;
  minimum_right = refl;
  minimum_twice = refl;
  first_two_answer = refl;
  left_answer = refl;
  last_two_answer = refl;
  right_answer = refl;
  twice_answer = refl;
}

-- their first cells: empty, and 1
pub not_associative : NotAssociative x y z 10 9
unfolding image_of flatten
not_associative = record {
  all_done = computed.fused_done;
  other_words = λ e.
      let cells : ∅ ≡ # 1 = ap (λ (image : List ℕ). get_or image 4 0) (sym computed.fused_left ∙ e ∙ computed.fused_right) in
      absurd (omega arith);
}

pub calls_differ : CallsNotAssociative x y z
calls_differ = calls_not_associative x y z 10 9 not_associative

-- their headers, with one row and with two
pub not_associative_marked : NotAssociative x y mark 10 9
unfolding image_of flatten
not_associative_marked = record {
  all_done = computed.marked_done;
  other_words = λ e.
      let counts : row_count together ≡ row_count apart = ap row_count (sym computed.marked_left ∙ e ∙ computed.marked_right) in
      absurd (omega arith);
}

pub calls_differ_marked : CallsNotAssociative x y mark
calls_differ_marked = calls_not_associative x y mark 10 9 not_associative_marked
