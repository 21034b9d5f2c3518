-- Request A4: the terms in which its claims are stated, and what it leaves as it was for tables without `none`.
use Rattle.std.specs.Prelude.{◌≡◌, Bool, true, not, ◌||◌, List, ℕ, ◌%◌, ◌^◌, cond, eqb}
use Rattle.definitions.specs.Lists.{all}
use Rattle.definitions.specs.Word.{kind_of, is_filled, none}
use Rattle.definitions.specs.Image.{cell_words, image_ids, image_rows}
use Rattle.definitions.specs.OuterUnion.{cell_in, union_columns, union_rows}
use Rattle.definitions.specs.MinimumUnion.{minimum_rows}
use Rattle.definitions.specs.ComplementUnion.{fused_rows}
use Rattle.definitions.specs.Text.{ascii, decimal, cell_text}
use Rattle.definitions.specs.Questions.{cells_right}
use Rattle.definitions.specs.Statements.{Member}

-- some row of an image has the word in the column with an id
abbrev pub StandsIn : List ℕ → ℕ → ℕ → Type 0
StandsIn image id w = (row : List ℕ) × Member row (image_rows image) × (cell_in (image_ids image) row id ≡ w)

-- ---- tables without `none`

-- no word of the list is `none`
abbrev pub WithoutNone : List ℕ → Type 0
WithoutNone words = all (λ w. not (eqb w none)) words ≡ true

-- document 01's question 7: "Is every cell either zero or of kind 1?"
abbrev pub cell_before : ℕ → Bool
cell_before w = eqb w 0 || eqb (kind_of w) 1

abbrev pub cells_before : List ℕ → Bool
cells_before image = all cell_before (cell_words image)

-- document 01's text of a cell: `-` is empty
abbrev pub text_before : ℕ → List ℕ
text_before w = cond (is_filled w) (decimal (w % 2 ^ 30)) (ascii "-")

pub record CellsAsBefore (a b : List ℕ) : Type 0 where
  -- question 7 says the same of both images
  pub first_cells : cells_right a ≡ cells_before a
  pub second_cells : cells_right b ≡ cells_before b
  -- no row of a result has `none`
  pub outer : (r : List ℕ) → Member r (union_rows a b) → WithoutNone r
  pub minimum : (r : List ℕ) → Member r (minimum_rows (union_rows a b)) → WithoutNone r
  pub fused : (r : List ℕ) → Member r (fused_rows (union_columns a b) (union_rows a b)) → WithoutNone r
  -- and the text of every other cell is document 01's
  pub text : (w : ℕ) → (w ≡ none → ⊥) → cell_text w ≡ text_before w
