-- What the writing of an image asks for, and what it leaves.
use Rattle.std.specs.Prelude.{◌≡◌, ℕ, ◌+◌, ◌*◌, ◌≤◌, length, drop, Result}
use mathlib.Core.List.{List, ◌∷◌, ◌++◌, flatten}
use Rattle.definitions.specs.Limits.{max_columns, max_sets}
use Rattle.definitions.specs.Image.{image_of}
use Rattle.definitions.specs.MinimumUnion.{filled}
use Rattle.definitions.specs.Answer.{done, says}
use Rattle.definitions.specs.Calls.{enough_room}
use Rattle.definitions.specs.Promise.{BufferPromise}
use Rattle.rows.specs.Indices.{rows_at, Below}
use Rattle.rows.specs.declared.named.Rows.{Rows}
use Rattle.images.specs.declared.write.Written.{Written}
use Rattle.definitions.specs.declared.refusal.Refusal.{Refusal}

-- the rows at the indices
abbrev pub chosen : Rows → List ℕ → List (List ℕ)
chosen t order = rows_at t.width t.cells.now order

-- how many words the image of these columns and so many rows has
abbrev pub image_size : List ℕ → List ℕ → ℕ
image_size columns order = 1 + length columns + length order * length columns

-- column words, and indices of rows with a cell for each, that an image can hold
pub record Writable (columns : List ℕ) (t : Rows) (order : List ℕ) : Type 0 where
  pub wide : t.width ≡ length columns
  pub few_columns : length columns ≤ max_columns
  pub few_rows : length order ≤ max_sets
  pub below : Below t.len order

-- the image of these rows stands over the front of what was found, and so many of their cells are filled
pub record WrittenImage (columns : List ℕ) (rows : List (List ℕ)) (found after : List ℕ) (f : ℕ) : Type 0 where
  pub words : after ≡ image_of columns rows ++ drop (length (image_of columns rows)) found
  pub count : f ≡ filled (flatten rows)

-- what question 10 leaves of a call whose result is this image, with whatever values its answer carries beyond the counts
pub record PutImage (columns : List ℕ) (rows : List (List ℕ)) (m : ℕ) (found : List ℕ) (r : Result Written Refusal) (after : List ℕ) : Type 0 where
  pub promise : (more : List ℕ)
      → BufferPromise
      (enough_room (image_of columns rows) (length found) (done (length rows ∷ length (image_of columns rows) ∷ filled (flatten rows) ∷ more)))
      (image_of columns rows) found
      (says (λ w. m ∷ w.words ∷ w.filled ∷ more) r) after
