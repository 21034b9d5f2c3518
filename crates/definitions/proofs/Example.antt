-- The worked example of document 01, "Program `fuse`": the definitions give its output, to the byte, and request A3's page; and the output for
-- two tables with request A4's `none`. Assumes nothing.
use mathlib.Core.Path.{◌≡◌, refl}
use mathlib.Core.List.{List, [], ◌∷◌, ◌++◌, map, flatten}
use Prim.Native.Nat.{ℕ, ◌/◌, ◌%◌, ◌^◌}
use lib.ListN.{replicate}
use Rattle.definitions.specs.Lists.{all, any, filter, find_index, distinct, all_below, sum_below, tabulate}
use Rattle.definitions.specs.Word.{word_of}
use Rattle.definitions.specs.Image.{image_of}
use Rattle.definitions.specs.Ascending.{insert, ascending}
use Rattle.definitions.specs.OuterUnion.{compare_row, union_ids, union_columns, widened, widened_rows, union_rows}
use Rattle.definitions.specs.MinimumUnion.{filled, covers, subsumes, minimum_rows, tries, pairs_tried}
use Rattle.definitions.specs.ComplementUnion.{same_row, agree, share, marked_cells, counted_cells, complement, contains, subsets, adjacent_to_all, is_complementing, is_maximal, maximal_sets, members, join, join_all, joined, union_sets, fused_rows}
use Rattle.definitions.specs.SetList.{bits, marks_from, record_of, set_record, list_of, set_list}
use Rattle.definitions.specs.Questions.{image_number}
use Rattle.definitions.specs.Calls.{pair_outcome, fused_image, complement_outcome}
use Rattle.definitions.specs.Reading.{positions_of}
use Rattle.definitions.specs.Text.{ascii, digits, decimal, cell_text}
use Rattle.definitions.specs.Listing.{line}
use Rattle.definitions.specs.Page.{blanks, page_line, band_page, page, all_pages}
use Rattle.definitions.specs.declared.Output.TheVariants.{Pages}
use Rattle.definitions.specs.Program.{words_of, union_text, minimum_text, sets_text, fused_text, listing, unions_text, read_text, whole_text, fuse_text}
use Rattle.definitions.specs.Outputs.{whole_output}
use Rattle.definitions.proofs.Notation.{#, ∅, ∄}

-- the bytes of words, low byte first
abbrev bytes_of : List ℕ → List ℕ
bytes_of [] = []
bytes_of (w ∷ words) = w % 2 ^ 8 ∷ w / 2 ^ 8 % 2 ^ 8 ∷ w / 2 ^ 16 % 2 ^ 8 ∷ w / 2 ^ 24 ∷ bytes_of words

-- the bytes of a table with these ids and rows
abbrev table : List ℕ → List (List ℕ) → List ℕ
table ids rows = bytes_of (image_of (map (word_of 2) ids) rows)

abbrev pub board : List ℕ
board = table (10 ∷ 11 ∷ 12 ∷ []) ((# 7 ∷ # 3 ∷ ∅ ∷ []) ∷ (# 7 ∷ ∅ ∷ # 40 ∷ []) ∷ (# 9 ∷ # 5 ∷ # 41 ∷ []) ∷ [])

abbrev pub plant : List ℕ
plant = table (10 ∷ 13 ∷ 11 ∷ []) ((# 7 ∷ # 2 ∷ # 3 ∷ []) ∷ (# 9 ∷ # 1 ∷ ∅ ∷ []) ∷ [])

-- the output of document 01
abbrev pub output : List ℕ
output =
    ascii "columns 10 11 12 13\n"
    ++ ascii "union 5 12\n"
    ++ ascii "7 - 40 -\n"
    ++ ascii "7 3 - -\n"
    ++ ascii "7 3 - 2\n"
    ++ ascii "9 - - 1\n"
    ++ ascii "9 5 41 -\n"
    ++ ascii "minimum 4 10 18\n"
    ++ ascii "7 - 40 -\n"
    ++ ascii "7 3 - 2\n"
    ++ ascii "9 - - 1\n"
    ++ ascii "9 5 41 -\n"
    ++ ascii "sets 3\n"
    ++ ascii "0 1 > 0\n"
    ++ ascii "0 2 > 1\n"
    ++ ascii "3 4 > 2\n"
    ++ ascii "fused 3 11\n"
    ++ ascii "7 3 40 -\n"
    ++ ascii "7 3 40 2\n"
    ++ ascii "9 5 41 1\n"

-- request A4: of device 7 both lists know that it has no guest (column 11), of 8 they differ, of 9 one list alone knows
abbrev pub guest_board : List ℕ
guest_board = table (10 ∷ 11 ∷ 12 ∷ []) ((# 7 ∷ ∄ ∷ # 3 ∷ []) ∷ (# 8 ∷ # 0 ∷ # 5 ∷ []) ∷ (# 9 ∷ ∅ ∷ # 6 ∷ []) ∷ [])

abbrev pub guest_plant : List ℕ
guest_plant = table (10 ∷ 11 ∷ 13 ∷ []) ((# 7 ∷ ∄ ∷ # 41 ∷ []) ∷ (# 8 ∷ ∄ ∷ # 42 ∷ []) ∷ (# 9 ∷ ∄ ∷ ∅ ∷ []) ∷ [])

abbrev pub guest_output : List ℕ
guest_output =
    ascii "columns 10 11 12 13\n"
    ++ ascii "union 6 16\n"
    ++ ascii "7 none - 41\n"
    ++ ascii "7 none 3 -\n"
    ++ ascii "8 0 5 -\n"
    ++ ascii "8 none - 42\n"
    ++ ascii "9 - 6 -\n"
    ++ ascii "9 none - -\n"
    ++ ascii "minimum 6 16 30\n"
    ++ ascii "7 none - 41\n"
    ++ ascii "7 none 3 -\n"
    ++ ascii "8 0 5 -\n"
    ++ ascii "8 none - 42\n"
    ++ ascii "9 - 6 -\n"
    ++ ascii "9 none - -\n"
    ++ ascii "sets 4\n"
    ++ ascii "0 1 > 0\n"
    ++ ascii "2 > 1\n"
    ++ ascii "3 > 2\n"
    ++ ascii "4 5 > 3\n"
    ++ ascii "fused 4 13\n"
    ++ ascii "7 none 3 41\n"
    ++ ascii "8 0 5 -\n"
    ++ ascii "8 none - 42\n"
    ++ ascii "9 none 6 -\n"

outputs : (fuse_text board plant ≡ output) × (fuse_text guest_board guest_plant ≡ guest_output)
unfolding flatten all any filter find_index distinct all_below sum_below image_of insert ascending compare_row union_ids union_columns widened widened_rows union_rows
    filled covers subsumes minimum_rows tries pairs_tried same_row agree share marked_cells counted_cells complement contains subsets adjacent_to_all is_complementing is_maximal
    maximal_sets members join join_all joined union_sets fused_rows bits marks_from record_of set_record list_of set_list image_number pair_outcome fused_image
    complement_outcome words_of digits decimal cell_text line positions_of union_text minimum_text sets_text fused_text listing unions_text
    read_text whole_text
outputs = (refl, refl)

pub worked_example : fuse_text board plant ≡ output
worked_example = outputs.0

pub guest_example : fuse_text guest_board guest_plant ≡ guest_output
guest_example = outputs.1

-- its fused table on a page: 56 lines are unused
abbrev pub page_output : List ℕ
page_output =
    ascii "              10          11          12          13                            \n"
    ++ ascii "   0           7           3          40           -                            \n"
    ++ ascii "   1           7           3          40           2                            \n"
    ++ ascii "   2           9           5          41           1                            \n"
    ++ flatten (replicate 56 (blanks 80 ++ (10 ∷ [])))

pub worked_page : whole_output Pages board plant ≡ page_output
unfolding flatten all any filter find_index distinct all_below sum_below tabulate image_of insert ascending compare_row union_ids union_columns widened widened_rows union_rows
    filled covers subsumes same_row agree share marked_cells counted_cells complement contains subsets adjacent_to_all is_complementing is_maximal
    maximal_sets members join join_all joined union_sets fused_rows bits marks_from record_of set_record list_of set_list image_number pair_outcome fused_image
    complement_outcome words_of digits decimal cell_text page_line band_page page all_pages unions_text read_text whole_text
worked_page = refl
