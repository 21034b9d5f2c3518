-- The image of a table reads back as that table; the rows of an image that passes the questions have a cell for each of its columns; each
-- table of an accepted pair passes, and the union has its ids and its rows; and T has at most 64 rows. Assumes nothing.
use mathlib.Core.Path.{◌≡◌, refl, sym, ◌∙◌, ap, ap₂}
use mathlib.Core.Bool.{true}
use mathlib.Core.Logic.{inl, inr, ⊎_elim}
use mathlib.Core.List.{List, [], ◌∷◌, ◌++◌, flatten, append-nil, append_assoc}
use Prim.Native.Nat.{ℕ, zero, suc, ◌+◌, ◌*◌, ◌^◌, ◌<◌, ◌≤◌}
use native.Mathlib.Nat.{add_comm, suc-mul, zero-mul}
use native.Mathlib.Omega.{arith}
use lib.ListN.{length, take, drop, length-append, length-drop, length-map}
use lib.Seq.{length-take-le, take-add, take_at, drop_at}
use borrow.Author.Tests.{eq-eqb}
use Rattle.definitions.specs.Limits.{max_rows, max_union_rows}
use Rattle.definitions.specs.Word.{kind_of, rows_of, columns_of, header_spare, header_word, id_of}
use Rattle.definitions.specs.Image.{column_count, row_count, is_header, column_words, image_ids, cell_words, rows_in, image_rows, image_of}
use Rattle.definitions.specs.OuterUnion.{compare_row, union_ids, widened, widened_rows, union_rows}
use Rattle.definitions.specs.MinimumUnion.{minimum_rows}
use Rattle.definitions.specs.Statements.{Member}
use Rattle.definitions.specs.Claims.{Passed, WidenedOf}
use Rattle.std.proofs.lemmas.Bool.{and_from}
use Rattle.definitions.proofs.Counts.{ascending-length, minimum_count}
use Rattle.definitions.proofs.Unions.{ids_are, rows_are}
use Rattle.definitions.proofs.Questions.{passed_is}
use Rattle.definitions.specs.Calls.{Accepted}

-- ---- the image of a table

pub header_columns : (r c : ℕ) → c < 2 ^ 5 → columns_of (header_word r c) ≡ c
header_columns r c h = omega arith

pub header_rows : (r c : ℕ) → r < 2 ^ 12 → c < 2 ^ 5 → rows_of (header_word r c) ≡ r
header_rows r c h g = omega arith

pub header_is : (r c : ℕ) → r < 2 ^ 12 → c < 2 ^ 5 → is_header (header_word r c) ≡ true
header_is r c h g = and_from _ _ (eq-eqb (kind_of (header_word r c)) 3 (omega arith)) (eq-eqb (header_spare (header_word r c)) 0 (omega arith))

-- the rows of a list that begins with rows joined
pub rows_read : (c : ℕ) (rows : List (List ℕ)) (rest : List ℕ) → ((r : List ℕ) → Member r rows → length r ≡ c)
    → rows_in c (length rows) (flatten rows ++ rest) ≡ rows
unfolding flatten
rows_read c [] rest f = refl
rows_read c (r ∷ rows) rest f =
    let e = f r (inl refl) in
    let w : r ++ flatten rows ++ rest ≡ r ++ (flatten rows ++ rest) = append_assoc r (flatten rows) rest in
    ap₂ (λ (s : List ℕ) (l : List (List ℕ)). s ∷ l) (ap (take c) w ∙ take_at r (flatten rows ++ rest) c e)
    (ap (λ (l : List ℕ). rows_in c (length rows) (drop c l)) w
    ∙ ap (rows_in c (length rows)) (drop_at r (flatten rows ++ rest) c e)
    ∙ rows_read c rows rest (λ s h. f s (inr h)))

module _ (columns : List ℕ) (rows : List (List ℕ)) (few : length columns < 2 ^ 5) (rest : List ℕ) where
  -- an image at the front of a longer buffer
  abbrev front : List ℕ
  front = image_of columns rows ++ rest

  pub count_front : column_count front ≡ length columns
  unfolding image_of
  count_front = header_columns (length rows) (length columns) few

  pub words_front : column_words front ≡ columns
  unfolding image_of
  words_front =
      ap (λ (n : ℕ). take n (columns ++ flatten rows ++ rest)) count_front
      ∙ ap (take (length columns)) (append_assoc columns (flatten rows) rest)
      ∙ take_at columns (flatten rows ++ rest) (length columns) refl

  pub cells_front : cell_words front ≡ flatten rows ++ rest
  unfolding image_of
  cells_front =
      let past : 1 + column_count front ≡ suc (length columns) = omega (arith, count_front) in
      ap (λ (n : ℕ). drop n front) past
      ∙ ap (λ (l : List ℕ). drop (length columns) l) (append_assoc columns (flatten rows) rest)
      ∙ drop_at columns (flatten rows ++ rest) (length columns) refl

  pub image_rows_front : length rows < 2 ^ 12 → ((r : List ℕ) → Member r rows → length r ≡ length columns) → image_rows front ≡ rows
  unfolding image_of
  image_rows_front g f =
      let count : row_count front ≡ length rows = header_rows (length rows) (length columns) g few in
      ap₂ (λ (c n : ℕ). rows_in c n (cell_words front)) count_front count
      ∙ ap (rows_in (length columns) (length rows)) cells_front
      ∙ rows_read (length columns) rows rest f

-- an image that is not followed by other words
module _ (columns : List ℕ) (rows : List (List ℕ)) (few : length columns < 2 ^ 5) where
  pub image_columns : column_words (image_of columns rows) ≡ columns
  image_columns = ap column_words (sym (append-nil (image_of columns rows))) ∙ words_front columns rows few []

  pub image_cells : cell_words (image_of columns rows) ≡ flatten rows
  image_cells = ap cell_words (sym (append-nil (image_of columns rows))) ∙ cells_front columns rows few [] ∙ append-nil (flatten rows)

  pub image_rows_lem : length rows < 2 ^ 12 → ((r : List ℕ) → Member r rows → length r ≡ length columns) → image_rows (image_of columns rows) ≡ rows
  image_rows_lem g f = ap image_rows (sym (append-nil (image_of columns rows))) ∙ image_rows_front columns rows few [] g f

-- the words of the first n rows
pub words_rows : (c n : ℕ) (words : List ℕ) → flatten (rows_in c n words) ≡ take (n * c) words
unfolding flatten
words_rows c zero words = sym (rw zero-mul)
words_rows c (suc n) words =
    ap (λ (r : List ℕ). take c words ++ r) (words_rows c n (drop c words))
    ∙ sym (take-add c (n * c) words)
    ∙ ap (λ (k : ℕ). take k words) (add_comm c (n * c) ∙ sym (suc-mul n c))

pub rows_length : (c n : ℕ) (words : List ℕ) → length (rows_in c n words) ≡ n
rows_length c zero words = refl
rows_length c (suc n) words = ap suc (rows_length c n (drop c words))

-- rows cut from enough words have c cells each
pub rows_wide : (c n : ℕ) (words : List ℕ) → n * c ≤ length words → (r : List ℕ) → Member r (rows_in c n words) → length r ≡ c
rows_wide c zero words e r h = absurd h
rows_wide c (suc n) words e r h =
    let s = suc-mul n c in
    ⊎_elim (λ q. ap (λ (l : List ℕ). length l) q ∙ length-take-le c words (omega arith))
    (λ q. rows_wide c n (drop c words) (omega (arith, length-drop c words)) r q) h

-- ---- an image that passes

module _ (limit : ℕ) (image : List ℕ) (p : Passed limit image) where
  pub passed_ids : length (image_ids image) ≡ column_count image
  passed_ids =
      let d = length-drop 1 image in
      length-map (column_words image) id_of ∙ length-take-le (column_count image) (drop 1 image) (omega (arith, p.all_words))

  pub passed_rows : (r : List ℕ) → Member r (image_rows image) → length r ≡ column_count image
  passed_rows r h =
      rows_wide (column_count image) (row_count image) (cell_words image)
      (omega (arith, length-drop (1 + column_count image) image, p.all_words)) r h

  -- a row has a cell for each id
  pub row_size : (r : List ℕ) → Member r (image_rows image) → length r ≡ length (image_ids image)
  row_size r h = passed_rows r h ∙ sym passed_ids

-- ---- an accepted pair

pub widened_count : (union image : List ℕ) → length (widened_rows union image) ≡ row_count image
unfolding widened_rows
widened_count union image =
    length-map (image_rows image) (widened union (image_ids image)) ∙ rows_length (column_count image) (row_count image) (cell_words image)

-- one of the two tables: it passes, and the union has its ids and its rows, widened
pub record PartOf (a b image : List ℕ) : Type 0 where
  pub passed : Passed max_rows image
  pub ids : (id : ℕ) → Member id (image_ids image) → Member id (union_ids a b)
  pub rows : (r : List ℕ) → WidenedOf a b image r → Member r (union_rows a b)

pub first_part : (a b : List ℕ) → Accepted a b → PartOf a b a
first_part a b c = record {
  passed = (passed_is max_rows a).0 c.first;
  ids = λ id m. (ids_are a b id).1 (inl m);
  rows = λ r w. (rows_are a b r).1 (inl w);
}

pub second_part : (a b : List ℕ) → Accepted a b → PartOf a b b
second_part a b c = record {
  passed = (passed_is max_rows b).0 c.second;
  ids = λ id m. (ids_are a b id).1 (inr m);
  rows = λ r w. (rows_are a b r).1 (inr w);
}

pub accepted_rows : (a b : List ℕ) → Accepted a b → length (union_rows a b) ≤ max_union_rows
unfolding union_rows
accepted_rows a b c =
    let l = widened_rows (union_ids a b) a in
    let m = widened_rows (union_ids a b) b in
    let i = ascending-length compare_row (l ++ m) in
    let j = length-append l m in
    let x = widened_count (union_ids a b) a in
    let y = widened_count (union_ids a b) b in
    let p = (first_part a b c).passed.few_rows in
    let q = (second_part a b c).passed.few_rows in
    omega arith

-- so that a header's twelve bits hold how many of them stay
pub minimum_short : (a b : List ℕ) → Accepted a b → length (minimum_rows (union_rows a b)) < 2 ^ 12
minimum_short a b c = omega (arith, accepted_rows a b c, minimum_count (union_rows a b))
