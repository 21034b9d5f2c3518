-- What each call promises, whatever words its inputs and its lent buffers hold: the answer, every word of
-- each buffer afterwards, and of complement union demand 3. This is all that a call promises; its `ensures` says it by name.
use Rattle.std.specs.Prelude.{◌≡◌, ◌⊎◌, ◌↔◌, List, [], ◌∷◌, ℕ, ◌+◌, ◌*◌, ◌<◌, ◌≤◌, length, get_or, take, drop}
use Rattle.definitions.specs.Limits.{mark_words, max_stored_rows}
use Rattle.definitions.specs.Word.{none}
use Rattle.definitions.specs.Image.{row_count, column_count, image_rows}
use Rattle.definitions.specs.OuterUnion.{union_columns, union_rows}
use Rattle.definitions.specs.SetList.{set_list}
use Rattle.definitions.specs.ComplementUnion.{members, union_sets}
use Rattle.definitions.specs.Answer.{Outcome, done, afterwards}
use Rattle.definitions.specs.Calls.{Accepted, outer_image, minimum_image, fused_image}
use Rattle.definitions.specs.Calls.{outer_outcome, minimum_outcome, complement_outcome}
use Rattle.definitions.specs.ReadBack.{words_room, read_outcome, read_words, made_words, entries_of, list_again}
use Rattle.definitions.specs.Reading.{set_count}
use Rattle.definitions.specs.Text.{ascii}
use Rattle.definitions.specs.Page.{cell_width, page, page_count, page_bytes, page_outcome}
use Rattle.definitions.specs.PageClaims.{line_bytes, IsPage, CellPlace, before_field, bytes_at, CellShown}
use Rattle.definitions.specs.Statements.{Member}
use Rattle.definitions.specs.Claims.{Passed, Filled}
use Rattle.definitions.specs.NoneClaims.{StandsIn}
use Rattle.definitions.specs.Demand3.{listed_sets, position_at, MeetsDemand3, words_of_table, words_of_sets, SameResult}

-- a call with one lent buffer, by its outcome and its result
pub record BufferPromise (outcome : Outcome) (result found : List ℕ) (answer : Outcome) (after : List ℕ) : Type 0 where
  pub answers : answer ≡ outcome
  pub writes : after ≡ afterwards answer result found

abbrev pub OuterPromise : (a b table : List ℕ) (answer : Outcome) (table_after : List ℕ) → Type 0
OuterPromise a b table = BufferPromise (outer_outcome a b (length table)) (outer_image a b) table

abbrev pub MinimumPromise : (a b table : List ℕ) (answer : Outcome) (table_after : List ℕ) → Type 0
MinimumPromise a b table = BufferPromise (minimum_outcome a b (length table)) (minimum_image a b) table

pub record ComplementPromise (a b table sets : List ℕ) (answer : Outcome) (table_after sets_after : List ℕ) : Type 0 where
  pub answers : answer ≡ complement_outcome a b (length table) (length sets)
  pub writes : table_after ≡ afterwards answer (fused_image a b) table
  pub lists : sets_after ≡ afterwards answer (set_list (union_columns a b) (union_rows a b)) sets
  -- a done call meets demand 3, sentence by sentence
  pub demand : MeetsDemand3 answer a b table_after sets_after

-- demand 3, last sentence, of two calls: "Any other accepted pair with the same union columns and the same T, given a table
-- buffer and a set buffer as long as the first pair's, gets from complement union the same answer, done or refused, and
-- the same written words." Request A2: the pairs "must agree in the union's marks too", and the column words hold ids and marks.
abbrev pub SameCalls : Type 0
SameCalls =
    (a b c d : List ℕ) → Accepted a b → Accepted c d → union_columns a b ≡ union_columns c d → union_rows a b ≡ union_rows c d
    → (table₁ table₂ sets₁ sets₂ : List ℕ) → length table₁ ≡ length table₂ → length sets₁ ≡ length sets₂
    → (x y : Outcome) (table_after₁ table_after₂ sets_after₁ sets_after₂ : List ℕ)
    → ComplementPromise a b table₁ sets₁ x table_after₁ sets_after₁ → ComplementPromise c d table₂ sets₂ y table_after₂ sets_after₂
    → SameResult x y table_after₁ table_after₂ sets_after₁ sets_after₂

-- ---- request A1

-- the reader of a set list, for a T of so many rows
abbrev pub ReadPromise : (list : List ℕ) (rows : ℕ) (words : List ℕ) (answer : Outcome) (words_after : List ℕ) → Type 0
ReadPromise list rows words = BufferPromise (read_outcome list rows (length words)) (read_words mark_words list) words

-- "Every list that complement union makes is read as the sets that made it": of the written words of a done call, with as many
-- rows as T has, the reader writes T's sets with the positions of their joined rows, or refuses the buffer as too short
abbrev pub MadeIsRead : Type 0
MadeIsRead =
    (a b table sets values table_after sets_after : List ℕ)
    → ComplementPromise a b table sets (done values) table_after sets_after
    → (words : List ℕ) (answer : Outcome) (words_after : List ℕ)
    → ReadPromise (take (words_of_sets (done values)) sets_after) (length (union_rows a b)) words answer words_after
    → BufferPromise
    (words_room (length (union_sets (union_columns a b) (union_rows a b))) (made_words (union_columns a b) (union_rows a b)) (length words))
    (made_words (union_columns a b) (union_rows a b)) words answer words_after

-- "the records of any accepted list, written again by document 01's layout, are the same words": from the words that a done
-- call of the reader wrote, as many sets and words as its answer says
abbrev pub WrittenAgain : Type 0
WrittenAgain =
    (list : List ℕ) (rows : ℕ) (words : List ℕ) (sets count : ℕ) (words_after : List ℕ)
    → ReadPromise list rows words (done (sets ∷ count ∷ [])) words_after
    → list_again mark_words (entries_of sets (take count words_after)) ≡ list

-- ---- request A3

-- a page of an image, counted from 0
abbrev pub PagePromise : (image : List ℕ) (n : ℕ) (bytes : List ℕ) (answer : Outcome) (bytes_after : List ℕ) → Type 0
PagePromise image n bytes = BufferPromise (page_outcome image n (length bytes)) (page image n) bytes

-- "A page is 60 lines of exactly 80 characters and a byte 10, 4,860 bytes"; "Bytes after the 4,860 stay as found."
abbrev pub PagesAreWhole : Type 0
PagesAreWhole =
    (image : List ℕ) (n : ℕ) (bytes values bytes_after : List ℕ) → PagePromise image n bytes (done values) bytes_after
    → IsPage (take page_bytes bytes_after) × (drop page_bytes bytes_after ≡ drop page_bytes bytes)

-- "Pages count from 0, and a done answer carries how many there are": one at least, and 54 at most; of the calls with at least 4,860
-- bytes exactly those of the pages below that number are done
abbrev pub PagesAreCounted : Type 0
PagesAreCounted =
    (image : List ℕ) (n : ℕ) (bytes values bytes_after : List ℕ) → PagePromise image n bytes (done values) bytes_after
    → (values ≡ page_count image ∷ []) × (0 < page_count image) × (page_count image ≤ 54)
    × ((other : ℕ) (lent : List ℕ) (answer : Outcome) (lent_after : List ℕ) → page_bytes ≤ length lent
    → PagePromise image other lent answer lent_after
    → (answer ≡ done values) ↔ (other < page_count image))

-- no cell is lost or cut: for every row and column of an accepted image there is a page, and on it a place; every call of that page
-- with at least 4,860 bytes is done, and shows the cell there
abbrev pub NoCellIsLost : Type 0
NoCellIsLost =
    (image : List ℕ) → Passed max_stored_rows image → (row column : ℕ) → row < row_count image → column < column_count image
    → (place : CellPlace) × ((bytes : List ℕ) (answer : Outcome) (bytes_after : List ℕ) → page_bytes ≤ length bytes
    → PagePromise image place.on_page bytes answer bytes_after
    → (answer ≡ done (page_count image ∷ [])) × CellShown image row column place bytes_after)

-- "Installers hang the fused table inside the cabinet": what a done complement union wrote has pages, and every one of them is
-- written, given at least 4,860 bytes
abbrev pub FusedHasPages : Type 0
FusedHasPages =
    (a b table sets values table_after sets_after : List ℕ)
    → ComplementPromise a b table sets (done values) table_after sets_after
    → (0 < page_count (fused_image a b)) × ((n : ℕ) (bytes : List ℕ) (answer : Outcome) (bytes_after : List ℕ)
    → n < page_count (fused_image a b) → page_bytes ≤ length bytes
    → PagePromise (take (words_of_table (done values)) table_after) n bytes answer bytes_after
    → BufferPromise (done (page_count (fused_image a b) ∷ [])) (page (fused_image a b) n) bytes answer bytes_after)

-- ---- request A4

-- "Every union reads it so": a filled word, a number or `none`, stands in a column of the result of a done call exactly if it stands in
-- that column of either table
abbrev pub UnionsKeepCells : Type 0
UnionsKeepCells =
    (a b table sets values table_after sets_after : List ℕ)
    → OuterPromise a b table (done values) table_after
    ⊎ (MinimumPromise a b table (done values) table_after ⊎ ComplementPromise a b table sets (done values) table_after sets_after)
    → (id w : ℕ) → Filled w → StandsIn table_after id w ↔ (StandsIn a id w ⊎ StandsIn b id w)

-- "a joined row takes it from a member as it takes a number": the fused row of a listed set has a filled word in a column exactly if a
-- member of the set has it there
abbrev pub JoinedRowsTake : Type 0
JoinedRowsTake =
    (a b table sets values table_after sets_after : List ℕ)
    → ComplementPromise a b table sets (done values) table_after sets_after
    → (k column w : ℕ) → k < set_count sets_after → Filled w
    → (get_or (get_or (image_rows table_after) (position_at sets_after k) []) column 0 ≡ w)
    ↔ ((r : List ℕ) × Member r (members (union_rows a b) (get_or (listed_sets (union_rows a b) sets_after) k [])) × (get_or r column 0 ≡ w))

-- "Listings and pages show `none`": for every row and column of an accepted image that has it there is a page, and on it a place; every
-- call of that page with at least 4,860 bytes is done, and shows it there
abbrev pub NoneIsShown : Type 0
NoneIsShown =
    (image : List ℕ) → Passed max_stored_rows image → (row column : ℕ) → row < row_count image → column < column_count image
    → get_or (get_or (image_rows image) row []) column 0 ≡ none
    → (place : CellPlace) × ((bytes : List ℕ) (answer : Outcome) (bytes_after : List ℕ) → page_bytes ≤ length bytes
    → PagePromise image place.on_page bytes answer bytes_after
    → (answer ≡ done (page_count image ∷ [])) × CellShown image row column place bytes_after
    × (bytes_at (place.on_line * line_bytes + before_field place.field) cell_width bytes_after ≡ ascii "        none"))

-- ---- request A5

-- the words at the beginning of a table buffer that a done answer says were written
abbrev pub WrittenWords : (values table_after words : List ℕ) → Type 0
WrittenWords values table_after words = take (words_of_table (done values)) table_after ≡ words

-- a done call of minimum union of a and b wrote these words
pub record MinimumWrote (a b words : List ℕ) : Type 0 where
  pub table : List ℕ
  pub values : List ℕ
  pub table_after : List ℕ
  pub call : MinimumPromise a b table (done values) table_after
  pub written : WrittenWords values table_after words

-- the same of complement union
pub record ComplementWrote (a b words : List ℕ) : Type 0 where
  pub table : List ℕ
  pub sets : List ℕ
  pub values : List ℕ
  pub table_after : List ℕ
  pub sets_after : List ℕ
  pub call : ComplementPromise a b table sets (done values) table_after sets_after
  pub written : WrittenWords values table_after words

-- four done calls on three tables, where the words that one wrote are handed to the next: the first two united with the third, and the first
-- united with the last two
abbrev pub OfBothGroupings : (Wrote : (a b words : List ℕ) → Type 0) (x y z : List ℕ) (Claim : (left right : List ℕ) → Type 0) → Type 0
OfBothGroupings Wrote x y z Claim =
    (first_two left last_two right : List ℕ)
    → Wrote x y first_two → Wrote first_two z left → Wrote y z last_two → Wrote x last_two right
    → Claim left right

-- "the minimum union of the first two, united with the third, has the same words as the first united with the minimum union of the last two"
abbrev pub CallsAssociative : Type 0
CallsAssociative = (x y z : List ℕ) → OfBothGroupings MinimumWrote x y z (λ left right. left ≡ right)

-- with the same words go the same rows, words written and filled cells, the first three values of an answer; the pairs tried need not
abbrev pub CallsCounted : Type 0
CallsCounted =
    (a b c d words : List ℕ) (v : MinimumWrote a b words) (w : MinimumWrote c d words) → take 3 v.values ≡ take 3 w.values

-- "The minimum union of such a result with itself, where accepted, is that result."
abbrev pub CallsIdempotent : Type 0
CallsIdempotent = (x y result again : List ℕ) → MinimumWrote x y result → MinimumWrote result result again → again ≡ result

-- "Complement union doesn't have the first property": whatever four done calls on these tables wrote, the words of both groupings differ. That
-- four such calls are done, given room, `NotAssociative` tells.
abbrev pub CallsNotAssociative : (x y z : List ℕ) → Type 0
CallsNotAssociative x y z = OfBothGroupings ComplementWrote x y z (λ left right. left ≡ right → ⊥)
