-- The image of rows that are told by their indices, written over the front of a buffer: what `write_image` and `put_image` give.
-- Assumes nothing.
use mathlib.Core.Path.{◌≡◌, refl, sym, ◌∙◌, ap, ap₂}
use mathlib.Core.List.{List, [], ◌∷◌, flatten}
use Prim.Native.Nat.{ℕ, ◌+◌, ◌-◌, ◌*◌, ◌≤◌, ◌<◌}
use native.Mathlib.Nat.{mul-le-mul, add-sub_cancel_left}
use native.Mathlib.Omega.{arith}
use lib.ListN.{length, take, drop, length-map, length-append}
use lib.Seq.{paste, length-paste}
use Rattle.definitions.specs.Limits.{max_columns, max_sets}
use Rattle.definitions.specs.Word.{header_word}
use Rattle.definitions.specs.Image.{image_of}
use Rattle.definitions.specs.MinimumUnion.{filled}
use Rattle.definitions.specs.Answer.{done, refused}
use Rattle.definitions.specs.Refusal.{question_number, table_number, put_to}
use Rattle.definitions.specs.declared.refusal.Subject.TheVariants.{Both}
use Rattle.definitions.specs.declared.refusal.Refusal.{Refusal}
use Rattle.definitions.specs.declared.refusal.Question.TheVariants.{TableRoom}
use Rattle.std.proofs.Common.{Ok, Err}
use Rattle.definitions.proofs.Outcomes.{asked_no, asked_yes}
use Rattle.rows.specs.declared.named.Rows.{Rows}
use Rattle.rows.specs.Indices.{row_at, Fit}
use Rattle.rows.proofs.Indices.{below_fit}
use Rattle.rows.proofs.Writing.{row_words_length, words_stand}
use Rattle.images.specs.Writing.{chosen, image_size, Writable, WrittenImage, PutImage}
use Rattle.images.proofs.Writing.{image_written}

module _ {columns : List ℕ} {t : Rows} {order : List ℕ} (k : Writable columns t order) where
  abbrev rows : List (List ℕ)
  rows = chosen t order

  abbrev image : List ℕ
  image = image_of columns rows

  abbrev n : ℕ
  n = length columns

  abbrev m : ℕ
  m = length order

  fit : Fit t.width (length t.cells.now) order
  fit = below_fit t.width t.len (length t.cells.now) order t.fits k.below

  count : length rows ≡ m
  count = length-map order (row_at t.width t.cells.now)

  words : length (flatten rows) ≡ m * n
  words = row_words_length [] t.cells.now order 0 t.width fit ∙ ap (λ (w : ℕ). m * w) k.wide

  pub image_words : image_size columns order ≡ length image
  unfolding image_of
  image_words =
      let a = length-append columns (flatten rows) in
      omega (arith, words)

  pub image_cells : m * n ≤ max_sets * max_columns
  image_cells = mul-le-mul k.few_rows k.few_columns

  -- the head and then the rows, written over the front of a buffer, and the cells read back
  pub image_rows_written : (d x y : List ℕ) → image_size columns order ≤ length d → x ≡ paste d 0 (header_word m n ∷ columns) (1 + n)
      → y ≡ paste x (1 + n) (flatten rows) (m * t.width)
      → (f : ℕ) → f ≡ filled (take (1 + n + m * n - (1 + n)) (drop (1 + n) y))
      → WrittenImage columns rows d y f
  image_rows_written d x y fits ex ey f e =
      let long : length x ≡ length d = ap length ex ∙ length-paste d 0 (header_word m n ∷ columns) (1 + n) (omega arith) (omega arith) in
      record {
        words = image_written d x y columns rows n (m * n) refl words fits
            (ex ∙ ap (λ (j : ℕ). paste d 0 (header_word j n ∷ columns) (1 + n)) (sym count))
            (ey ∙ ap (λ (w : ℕ). paste x (1 + n) (flatten rows) (m * w)) k.wide);
        count = e ∙ ap (λ (j : ℕ). filled (take j (drop (1 + n) y))) (add-sub_cancel_left (1 + n) (m * n) ∙ ap (λ (w : ℕ). m * w) (sym k.wide))
            ∙ ap (λ (l : List ℕ). filled (take (m * t.width) (drop (1 + n) l))) ey
            ∙ ap filled (words_stand x t.cells.now order (1 + n) t.width fit (omega arith));
      }

  -- the counts of a done answer, and further values
  pub image_values : (found after : List ℕ) (f : ℕ) → WrittenImage columns rows found after f → (more : List ℕ)
      → m ∷ image_size columns order ∷ f ∷ more ≡ length rows ∷ length image ∷ filled (flatten rows) ∷ more
  image_values found after f w more =
      ap₂ (λ (x : ℕ) (l : List ℕ). x ∷ l) (sym count) (ap₂ (λ (x y : ℕ). x ∷ y ∷ more) image_words w.count)

  -- ---- the returns of `put_image`

  module _ (found : List ℕ) where
    pub no_room : length found < image_size columns order → (r : Refusal) → r ≡ put_to Both TableRoom → PutImage columns rows m found (Err r) found
    no_room h r e = record {
      promise = λ more. record {
        answers = ap (λ (q : Refusal). refused (question_number q.question) (table_number q.subject)) e
            ∙ asked_no (length image) (length found) 9 _ (omega (arith, image_words));
        writes = refl;
      };
    }

    pub room : image_size columns order ≤ length found → (after : List ℕ) (f : ℕ) → WrittenImage columns rows found after f
        → PutImage columns rows m found (Ok (record { words = image_size columns order; filled = f })) after
    room h after f w = record {
      promise = λ more. record {
        answers = ap done (image_values found after f w more)
            ∙ asked_yes (length image) (length found) 10 _ (omega (arith, image_words));
        writes = w.words;
      };
    }
