-- Request A1 on the worked example of document 01: the set list of its two tables, read back. Assumes nothing.
use mathlib.Core.Path.{◌≡◌, refl}
use mathlib.Core.List.{List, [], ◌∷◌, flatten}
use Prim.Native.Nat.{ℕ}
use Rattle.definitions.specs.Limits.{mark_words}
use Rattle.definitions.specs.Lists.{all, any, filter, find_index, all_below, tabulate}
use Rattle.definitions.specs.Word.{word_of, header_word}
use Rattle.definitions.specs.Image.{image_of}
use Rattle.definitions.specs.Ascending.{insert, ascending, is_ascending}
use Rattle.definitions.specs.OuterUnion.{compare_row, union_ids, union_columns, widened, widened_rows, union_rows}
use Rattle.definitions.specs.MinimumUnion.{filled, covers, subsumes}
use Rattle.definitions.specs.ComplementUnion.{same_row, agree, share, marked_cells, counted_cells, complement, contains, compare_set, subsets}
use Rattle.definitions.specs.ComplementUnion.{adjacent_to_all, is_complementing, is_maximal, maximal_sets, members}
use Rattle.definitions.specs.ComplementUnion.{join, join_all, joined, union_sets, fused_rows}
use Rattle.definitions.specs.SetList.{bits, marks_from, record_of, set_record, list_of, set_list}
use Rattle.definitions.specs.Answer.{done, refused}
use Rattle.definitions.specs.Reading.{marks_in, positions_of}
use Rattle.definitions.specs.ReadBack.{read_words, is_set_list, is_record, list_number, read_outcome}
use Rattle.definitions.specs.Program.{words_of}
use Rattle.definitions.proofs.Example.{board, plant}

-- a record of the example, whose positions are all in the first mark word, and the words behind it
abbrev record_then : ℕ → ℕ → List ℕ → List ℕ
record_then marks position rest = word_of 2 marks ∷ word_of 2 0 ∷ word_of 2 0 ∷ word_of 1 position ∷ rest

-- rows 0 and 1 make the fused row 0, rows 0 and 2 the fused row 1, rows 3 and 4 the fused row 2
abbrev pub example_list : List ℕ
example_list = header_word 3 4 ∷ record_then 0b00011 0 (record_then 0b00101 1 (record_then 0b11000 2 []))

pub example_list_lem : set_list (union_columns (words_of board) (words_of plant)) (union_rows (words_of board) (words_of plant)) ≡ example_list
unfolding flatten all any filter find_index all_below image_of insert ascending compare_row union_ids union_columns widened widened_rows
    union_rows filled covers subsumes same_row agree share marked_cells counted_cells complement contains subsets adjacent_to_all is_complementing is_maximal
    maximal_sets members join join_all joined union_sets fused_rows bits marks_from record_of set_record list_of set_list words_of
example_list_lem = refl

pub example_read : read_words mark_words example_list ≡ 2 ∷ 0 ∷ 1 ∷ 0 ∷ 2 ∷ 0 ∷ 2 ∷ 1 ∷ 2 ∷ 3 ∷ 4 ∷ 2 ∷ []
unfolding flatten tabulate marks_in positions_of read_words
example_read = refl

-- T has five rows, and twelve words are enough
pub example_done : read_outcome example_list 5 12 ≡ done (3 ∷ 12 ∷ [])
unfolding flatten all tabulate marks_in positions_of read_words compare_set is_ascending is_set_list is_record list_number read_outcome
example_done = refl

pub example_short : read_outcome example_list 5 11 ≡ refused 10 2
unfolding flatten all tabulate marks_in positions_of read_words compare_set is_ascending is_set_list is_record list_number read_outcome
example_short = refl

-- a T of four rows has no row 4
pub example_row : read_outcome example_list 4 12 ≡ refused 13 2
unfolding flatten all tabulate marks_in positions_of read_words compare_set is_ascending is_set_list is_record list_number read_outcome
example_row = refl

-- 65 rows are more than a T has
pub example_rows : read_outcome example_list 65 12 ≡ refused 12 2
unfolding flatten all tabulate marks_in positions_of read_words compare_set is_ascending is_set_list is_record list_number read_outcome
example_rows = refl

-- two records with the same set, whatever their joined rows
pub example_same : read_outcome (header_word 2 4 ∷ record_then 0b00011 0 (record_then 0b00011 1 [])) 5 12 ≡ refused 14 2
unfolding flatten all tabulate marks_in positions_of read_words compare_set is_ascending is_set_list is_record list_number read_outcome
example_same = refl
