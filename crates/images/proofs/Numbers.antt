-- The number of an image, question by question: a no gives the question's number, a yes leaves the number to the questions after it.
-- Assumes nothing.
use mathlib.Core.Path.{◌≡◌, refl, sym, ◌∙◌, ap}
use mathlib.Core.Bool.{Bool, true, false}
use mathlib.Core.List.{List, map}
use Prim.Native.Nat.{ℕ, ◌+◌, ◌-◌, ◌*◌, ◌≤◌}
use native.Mathlib.Omega.{arith}
use lib.Dec.{eqb}
use lib.ListN.{length, take, drop}
use borrow.Author.Tests.{lt-ltb, le-leb, eq-eqb}
use Rattle.definitions.specs.Limits.{max_columns}
use Rattle.definitions.specs.Word.{id_of, is_cell}
use Rattle.definitions.specs.Lists.{all, distinct}
use Rattle.definitions.specs.Image.{header, is_header, is_column, column_count, row_count}
use Rattle.images.proofs.Parts.{columns_part, cells_part}
use Rattle.definitions.specs.Questions.{image_number, has_header, columns_fit, rows_fit, length_fits, columns_right, ids_distinct, cells_right, ask}

-- what the questions from the seventh, sixth, .. second on give
abbrev pub from7 : List ℕ → ℕ
from7 w = ask (cells_right w) 7 0

abbrev pub from6 : List ℕ → ℕ
from6 w = ask (ids_distinct w) 6 (from7 w)

abbrev pub from5 : List ℕ → ℕ
from5 w = ask (columns_right w) 5 (from6 w)

abbrev pub from4 : List ℕ → ℕ
from4 w = ask (length_fits w) 4 (from5 w)

abbrev pub from3 : ℕ → List ℕ → ℕ
from3 m w = ask (rows_fit m w) 3 (from4 w)

abbrev pub from2 : ℕ → List ℕ → ℕ
from2 m w = ask (columns_fit w) 2 (from3 m w)

pub from1 : (m : ℕ) (w : List ℕ) → image_number m w ≡ ask (has_header w) 1 (from2 m w)
unfolding image_number
from1 m w = refl

-- where a number is what a question and the rest give: after a yes it is what the rest gives, after a no the question's number
module _ (x : ℕ) (b : Bool) (k rest : ℕ) (e : x ≡ ask b k rest) where
  pub on_yes : b ≡ true → x ≡ rest
  on_yes y = e ∙ rw y

  pub on_no : b ≡ false → k ≡ x
  on_no n = rw (e, n)

-- ---- what a question asks, by what the code was told of it

pub header_told : (w : List ℕ) {told : Bool} → (length w ≡ 0 → ⊥) → told ≡ is_header (header w) → has_header w ≡ told
header_told w some e = rw (lt-ltb 0 (length w) (omega arith)) (sym e)

module _ (w : List ℕ) {k : ℕ} {told : Bool} (e : k ≡ column_count w) where
  pub columns_told : told ≡ all is_column (take (1 + k - 1) (drop 1 w)) → columns_right w ≡ told
  columns_told t = ap (all is_column) (sym (columns_part k w e)) ∙ sym t

  pub ids_told : told ≡ distinct eqb (map id_of (take (1 + k - 1) (drop 1 w))) → ids_distinct w ≡ told
  ids_told t = ap (λ (l : List ℕ). distinct eqb (map id_of l)) (sym (columns_part k w e)) ∙ sym t

  pub cells_told : told ≡ all is_cell (take (length w - (1 + k)) (drop (1 + k) w)) → cells_right w ≡ told
  cells_told t = ap (all is_cell) (sym (cells_part k w e)) ∙ sym t

-- ---- the first four questions, each answered yes

module _ (m : ℕ) (w : List ℕ) where
  pub past1 : has_header w ≡ true → image_number m w ≡ from2 m w
  past1 y = on_yes (image_number m w) (has_header w) 1 (from2 m w) (from1 m w) y

  pub past2 : {columns : ℕ} → columns ≡ column_count w → 1 ≤ columns → columns ≤ max_columns
      → image_number m w ≡ from2 m w → image_number m w ≡ from3 m w
  past2 {columns} e low high x =
      on_yes (image_number m w) (columns_fit w) 2 (from3 m w) x (rw (← e, le-leb 1 columns low, le-leb columns max_columns high))

  pub past3 : {rows : ℕ} → rows ≡ row_count w → rows ≤ m → image_number m w ≡ from3 m w → image_number m w ≡ from4 w
  past3 {rows} e few x = on_yes (image_number m w) (rows_fit m w) 3 (from4 w) x (rw (← e, le-leb rows m few))

  pub past4 : {columns rows : ℕ} → columns ≡ column_count w → rows ≡ row_count w → length w ≡ 1 + columns + rows * columns
      → image_number m w ≡ from4 w → image_number m w ≡ from5 w
  past4 {columns} {rows} e f size x =
      on_yes (image_number m w) (length_fits w) 4 (from5 w) x (rw (← e, ← f) (eq-eqb (length w) (1 + columns + rows * columns) size))

  -- all four: what is left to ask is about the column words and the cells
  pub opened : {told : Bool} {columns rows : ℕ} → (length w ≡ 0 → ⊥) → told ≡ is_header (header w) → told ≡ true
      → columns ≡ column_count w → 1 ≤ columns → columns ≤ max_columns → rows ≡ row_count w → rows ≤ m
      → length w ≡ 1 + columns + rows * columns → image_number m w ≡ from5 w
  opened some h y e low high f few size = past4 e f size (past3 f few (past2 e low high (past1 (header_told w some h ∙ y))))

  -- and then the column words, and their ids
  pub past5 : columns_right w ≡ true → image_number m w ≡ from5 w → image_number m w ≡ from6 w
  past5 y x = on_yes (image_number m w) (columns_right w) 5 (from6 w) x y

  pub past6 : ids_distinct w ≡ true → image_number m w ≡ from6 w → image_number m w ≡ from7 w
  past6 y x = on_yes (image_number m w) (ids_distinct w) 6 (from7 w) x y
