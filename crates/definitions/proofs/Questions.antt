-- What it is for an image to pass the questions 1 to 7, and that the third alone depends on the limit of rows. Assumes nothing.
use mathlib.Core.Path.{◌≡◌, refl, ◌∙◌, ap}
use mathlib.Core.Bool.{Bool, true, false, ◌&&◌}
use mathlib.Core.Logic.{◌↔◌}
use mathlib.Core.List.{List}
use Prim.Native.Nat.{ℕ, suc}
use native.Mathlib.Omega.{arith}
use lib.Dec.{eqb, leb, ltb}
use lib.ListN.{length}
use borrow.Author.Tests.{leb-true, le-leb, ltb-true, lt-ltb, eqb-true, eq-eqb}
use Rattle.definitions.specs.Limits.{max_columns}
use Rattle.definitions.specs.Lists.{all, distinct}
use Rattle.definitions.specs.Word.{is_cell}
use Rattle.definitions.specs.Image.{header, column_count, row_count, is_header, is_column, column_words, image_ids, cell_words, image_length}
use Rattle.definitions.specs.Questions.{ask, image_number}
use Rattle.definitions.specs.Answer.{no}
use Rattle.definitions.specs.Claims.{Passed}
use Rattle.std.proofs.lemmas.Bool.{and_from, and_parts}

pub ask_passed : (b : Bool) (number rest : ℕ) → ask b (suc number) rest ≡ 0 → (b ≡ true) × (rest ≡ 0)
ask_passed true number rest e = (refl, e)
ask_passed false number rest e = absurd (omega arith)

asked : (b : Bool) (number rest : ℕ) → b ≡ true → ask b number rest ≡ rest
asked b number rest e = ap (λ (x : Bool). ask x number rest) e

pub asks : (b : Bool) (number rest : ℕ) → b ≡ true → rest ≡ 0 → ask b number rest ≡ 0
asks b number rest e f = asked b number rest e ∙ f

pub passed_is : (limit : ℕ) (image : List ℕ) → (image_number limit image ≡ 0) ↔ Passed limit image
unfolding image_number
passed_is limit image = (to, from)
  where
    to : image_number limit image ≡ 0 → Passed limit image
    to e =
        let q1 = ask_passed (ltb 0 (length image) && is_header (header image)) 0 _ e in
        let q2 = ask_passed (leb 1 (column_count image) && leb (column_count image) max_columns) 1 _ q1.1 in
        let q3 = ask_passed (leb (row_count image) limit) 2 _ q2.1 in
        let q4 = ask_passed (eqb (length image) (image_length image)) 3 _ q3.1 in
        let q5 = ask_passed (all is_column (column_words image)) 4 _ q4.1 in
        let q6 = ask_passed (distinct eqb (image_ids image)) 5 _ q5.1 in
        let q7 = ask_passed (all is_cell (cell_words image)) 6 _ q6.1 in
        record {
          first_word = ltb-true 0 (length image) (and_parts (ltb 0 (length image)) (is_header (header image)) q1.0).0;
          is_header_word = (and_parts (ltb 0 (length image)) (is_header (header image)) q1.0).1;
          some_column = leb-true 1 (column_count image) (and_parts (leb 1 (column_count image)) (leb (column_count image) max_columns) q2.0).0;
          few_columns = leb-true (column_count image) max_columns (and_parts (leb 1 (column_count image)) (leb (column_count image) max_columns) q2.0).1;
          few_rows = leb-true (row_count image) limit q3.0;
          all_words = eqb-true (length image) (image_length image) q4.0;
          all_column_words = q5.0;
          distinct_ids = q6.0;
          all_cell_words = q7.0;
        }

    from : Passed limit image → image_number limit image ≡ 0
    from p =
        asks _ 1 _ (and_from _ _ (lt-ltb 0 (length image) p.first_word) p.is_header_word)
        (asks _ 2 _ (and_from _ _ (le-leb 1 (column_count image) p.some_column) (le-leb (column_count image) max_columns p.few_columns))
        (asks _ 3 _ (le-leb (row_count image) limit p.few_rows)
        (asks _ 4 _ (eq-eqb (length image) (image_length image) p.all_words)
        (asks _ 5 _ p.all_column_words
        (asks _ 6 _ p.distinct_ids
        (asks _ 7 _ p.all_cell_words refl))))))

-- an image that passes with some limit of rows can fail only the third question with another one
pub rows_asked : (wide limit : ℕ) (image : List ℕ) → Passed wide image → image_number limit image ≡ no (leb (row_count image) limit) 3
unfolding image_number
rows_asked wide limit image p =
    let header = and_from _ _ (lt-ltb 0 (length image) p.first_word) p.is_header_word in
    let columns = and_from _ _ (le-leb 1 (column_count image) p.some_column) (le-leb (column_count image) max_columns p.few_columns) in
    let rest = asks _ 4 _ (eq-eqb (length image) (image_length image) p.all_words)
    (asks _ 5 _ p.all_column_words (asks _ 6 _ p.distinct_ids (asks _ 7 _ p.all_cell_words refl))) in
    asked _ 1 _ header ∙ asked _ 2 _ columns ∙ last (leb (row_count image) limit) _ rest
  where
    last : (b : Bool) (rest : ℕ) → rest ≡ 0 → ask b 3 rest ≡ no b 3
    last true rest e = e
    last false rest e = refl
