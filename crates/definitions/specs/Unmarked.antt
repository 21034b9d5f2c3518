-- Request A2, "if none is, any column counts as before": two tables without a marked column get what they got before it.
use Rattle.std.specs.Prelude.{◌≡◌, Bool, false, not, ◌&&◌, List, [], map, ℕ, ◌/◌, ◌%◌, ◌^◌, eqb, length, get_or}
use Rattle.definitions.specs.Lists.{all, any}
use Rattle.definitions.specs.Word.{kind_of, mark_of, word_of}
use Rattle.definitions.specs.Image.{column_words, image_of}
use Rattle.definitions.specs.OuterUnion.{union_ids, union_columns, union_rows}
use Rattle.definitions.specs.MinimumUnion.{subsumes, minimum_rows}
use Rattle.definitions.specs.ComplementUnion.{same_row, agree, share, complement, maximal_sets, union_sets}
use Rattle.definitions.specs.SetList.{set_list}
use Rattle.definitions.specs.Questions.{columns_right}
use Rattle.definitions.specs.Calls.{pair_outcome, outer_image, minimum_image, fused_table, fused_image, sets_outcome, complement_outcome}

-- no column word of the image has the mark
abbrev pub Unmarked : List ℕ → Type 0
Unmarked image = any mark_of (column_words image) ≡ false

-- document 01's question 5: "Is every column word of kind 2 with bits 29 to 16 zero?"
abbrev pub columns_before : List ℕ → Bool
columns_before image = all (λ w. eqb (kind_of w) 2 && eqb (w / 2 ^ 16 % 2 ^ 14) 0) (column_words image)

-- document 01's column words of the union: ids alone
abbrev pub words_before : List ℕ → List ℕ → List ℕ
words_before a b = map (word_of 2) (union_ids a b)

-- document 01's complementing, with "(3) some column is filled in both with the same number"
abbrev pub complement_before : List ℕ → List ℕ → Bool
complement_before s t = agree s t && (not (same_row s t) && not (subsumes s t) && not (subsumes t s)) && share s t

-- document 01's maximal complementing sets of T
abbrev pub sets_before : List (List ℕ) → List (List Bool)
sets_before rows = maximal_sets (λ j k. complement_before (get_or rows j []) (get_or rows k [])) (length rows)

pub record AsBefore (a b : List ℕ) : Type 0 where
  -- question 5 says the same of both images
  pub first_columns : columns_right a ≡ columns_before a
  pub second_columns : columns_right b ≡ columns_before b
  -- the union's column words are document 01's, and the results of the three calls are made of them
  pub columns : union_columns a b ≡ words_before a b
  pub outer : outer_image a b ≡ image_of (words_before a b) (union_rows a b)
  pub minimum : minimum_image a b ≡ image_of (words_before a b) (minimum_rows (union_rows a b))
  pub fused : fused_image a b ≡ fused_table (words_before a b) (union_rows a b)
  pub list : set_list (union_columns a b) (union_rows a b) ≡ set_list (words_before a b) (union_rows a b)
  -- and so is complement union's answer; those of the other two look at their images alone
  pub answer : (room sets_room : ℕ) → complement_outcome a b room sets_room
      ≡ pair_outcome a b (sets_outcome (words_before a b) (union_rows a b) room sets_room)
  -- with these words, rows complement each other as document 01 says, and the sets are its sets
  pub condition : (s t : List ℕ) → complement (words_before a b) s t ≡ complement_before s t
  pub sets : union_sets (words_before a b) (union_rows a b) ≡ sets_before (union_rows a b)
