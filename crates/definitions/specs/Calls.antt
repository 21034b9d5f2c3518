-- Document 01, "The questions a call goes through": the answers of the three calls, and their results.
use Rattle.std.specs.Prelude.{◌≡◌, ℕ, ◌≤◌, leb, length}
use mathlib.Core.List.{List, [], ◌∷◌, flatten}
use Rattle.definitions.specs.Limits.{max_columns, max_rows, max_sets}
use Rattle.definitions.specs.Image.{image_of}
use Rattle.definitions.specs.OuterUnion.{union_ids, union_columns, union_rows}
use Rattle.definitions.specs.MinimumUnion.{filled, minimum_rows, pairs_tried}
use Rattle.definitions.specs.ComplementUnion.{union_sets, fused_rows}
use Rattle.definitions.specs.SetList.{set_list}
use Rattle.definitions.specs.Questions.{image_number}
use Rattle.definitions.specs.Answer.{Outcome, done, unless, no}

-- "Questions 1–7 are all put to the first table, then all to the second", then "Has the union at most 16 columns?"
unfoldable pub pair_outcome : List ℕ → List ℕ → Outcome → Outcome
pair_outcome a b rest =
    unless (image_number max_rows a) 0
    (unless (image_number max_rows b) 1
    (unless (no (leb (length (union_ids a b)) max_columns) 8) 2 rest))

-- accepted pair, a term of document 01: "A pair with eight yeses to 1–8 is accepted."
pub record Accepted (a b : List ℕ) : Type 0 where
  pub first : image_number max_rows a ≡ 0
  pub second : image_number max_rows b ≡ 0
  pub columns : length (union_ids a b) ≤ max_columns

-- "Has the table buffer as many words as the result image?" `room` counts the words of the buffer that the result is
-- written into
abbrev pub enough_room : List ℕ → ℕ → Outcome → Outcome
enough_room result room rest = unless (no (leb (length result) room) 10) 2 rest

-- the results: images with the union's columns; "Result images carry the marks" of request A2
unfoldable pub outer_image : List ℕ → List ℕ → List ℕ
outer_image a b = image_of (union_columns a b) (union_rows a b)

unfoldable pub minimum_image : List ℕ → List ℕ → List ℕ
minimum_image a b = image_of (union_columns a b) (minimum_rows (union_rows a b))

-- the fused table of T with these columns and rows
abbrev pub fused_table : List ℕ → List (List ℕ) → List ℕ
fused_table columns rows = image_of columns (fused_rows columns rows)

unfoldable pub fused_image : List ℕ → List ℕ → List ℕ
fused_image a b = fused_table (union_columns a b) (union_rows a b)

unfoldable pub outer_outcome : List ℕ → List ℕ → ℕ → Outcome
outer_outcome a b room =
    pair_outcome a b
    (enough_room (outer_image a b) room
    (done (length (union_rows a b) ∷ length (outer_image a b) ∷ filled (flatten (union_rows a b)) ∷ [])))

unfoldable pub minimum_outcome : List ℕ → List ℕ → ℕ → Outcome
minimum_outcome a b room =
    pair_outcome a b
    (enough_room (minimum_image a b) room
    (done (length (minimum_rows (union_rows a b)) ∷ length (minimum_image a b)
    ∷ filled (flatten (minimum_rows (union_rows a b))) ∷ pairs_tried (union_rows a b) ∷ [])))

-- what complement union's done answer carries, for T with these columns and rows
abbrev pub complement_values : List ℕ → List (List ℕ) → List ℕ
complement_values columns rows =
    length (fused_rows columns rows) ∷ length (fused_table columns rows) ∷ filled (flatten (fused_rows columns rows))
    ∷ length (union_sets columns rows) ∷ length (set_list columns rows) ∷ []

-- the questions 10 and 11: the table's room, and "has the set buffer the words that the set list takes?"
abbrev pub rooms_outcome : List ℕ → List (List ℕ) → ℕ → ℕ → Outcome
rooms_outcome columns rows room sets_room =
    enough_room (fused_table columns rows) room
    (unless (no (leb (length (set_list columns rows)) sets_room) 11) 2
    (done (complement_values columns rows)))

-- from question 9 on: "are there at most 1,024 maximal sets?"
abbrev pub sets_outcome : List ℕ → List (List ℕ) → ℕ → ℕ → Outcome
sets_outcome columns rows room sets_room =
    unless (no (leb (length (union_sets columns rows)) max_sets) 9) 2 (rooms_outcome columns rows room sets_room)

unfoldable pub complement_outcome : List ℕ → List ℕ → ℕ → ℕ → Outcome
complement_outcome a b room sets_room =
    pair_outcome a b (sets_outcome (union_columns a b) (union_rows a b) room sets_room)
