-- Request A3: the pages of a table. Each has 60 lines, no cell is lost or cut, and there are at most 54. Assumes nothing.
use mathlib.Core.Path.{◌≡◌, refl, sym, ◌∙◌, ap, ap₂, subst}
use mathlib.Core.Logic.{◌↔◌, ⊎_elim}
use mathlib.Core.List.{List, [], ◌∷◌, ◌++◌, map, flatten}
use Prim.Native.Nat.{ℕ, suc, ◌+◌, ◌*◌, ◌/◌, ◌%◌, ◌^◌, ◌≤◌, ◌<◌}
use native.Mathlib.Nat.{mul-le-mul, mul-le-mul_right, suc-mul, mul-add-div_right, mul-add-mod_self_right, div-eq_of_lt, mod-eq_of_lt, div-add-mod', add-zero}
use native.Mathlib.Omega.{arith}
use lib.Dec.{leb, ltb}
use lib.ListN.{length, get_or, take, drop, length-map, length-take, length-drop}
use lib.Seq.{take_at, drop_at, drop-append-le, take-append-le, get_or-take, get_or-drop}
use borrow.Author.Tests.{lt-ltb, ltb-true}
use Rattle.std.proofs.lemmas.List.{get_or-map}
use Rattle.std.specs.Int.{div_ceil}
use Rattle.definitions.specs.Limits.{max_stored_rows}
use Rattle.definitions.specs.Lists.{all, tabulate}
use Rattle.definitions.specs.Word.{id_of}
use Rattle.definitions.specs.Image.{column_count, row_count, column_words, image_rows, cell_words}
use Rattle.definitions.specs.Questions.{image_number}
use Rattle.definitions.specs.Answer.{Outcome, done, no, afterwards}
use Rattle.definitions.specs.Statements.{Member}
use Rattle.definitions.specs.Claims.{Passed}
use Rattle.definitions.specs.Text.{decimal, id_text, cell_text}
use Rattle.definitions.specs.Page.{position_width, cell_width, flush_right, page_line, band_columns, in_band, page_rows, ids_line, cells_line, line_at, line_on}
use Rattle.definitions.specs.Page.{band_page, band_pages, page_count, page, page_bytes, page_outcome}
use Rattle.definitions.specs.PageClaims.{line_bytes, page_lines, IsPage, CellPlace, before_field, bytes_at, CellShown, PageDone}
use Rattle.definitions.specs.Promise.{BufferPromise, PagePromise, PagesAreWhole, PagesAreCounted, NoCellIsLost}
use Rattle.definitions.proofs.Bools.{bool_cases}
use Rattle.definitions.proofs.Lists.{member-get}
use Rattle.definitions.proofs.Counts.{flatten-length}
use Rattle.definitions.proofs.Flat.{Wide, flat_row, flat_part}
use Rattle.definitions.proofs.Tabulate.{tabulate-length, tabulate-get, tabulate-member}
use Rattle.definitions.proofs.Questions.{passed_is}
use Rattle.definitions.proofs.Images.{passed_ids, passed_rows, rows_length}
use Rattle.definitions.proofs.Outcomes.{unless_done, unless_passed, within_done, within_passed, same_values}
use Rattle.definitions.proofs.Digits.{decimal-length}
use Rattle.definitions.proofs.Cells.{cell_length}
use Rattle.definitions.proofs.PageLines.{Characters, LineFits, line_fits, IsLine, is_line, line_position, line_cell, decimal_characters, cell_characters}

-- ---- the texts fit their fields

pub four_digits : (position : ℕ) → position < 10 ^ 4 → length (decimal position) ≤ position_width
four_digits position h = decimal-length 3 position h

-- the position of a row of any image: a header counts at most 4,095 rows
pub position_fits : (image : List ℕ) (position : ℕ) → position < row_count image → length (decimal position) ≤ position_width
position_fits image position h = four_digits position (omega arith)

pub id_fits : (w : ℕ) → length (id_text w) ≤ cell_width
id_fits w = omega (arith, decimal-length 4 (id_of w) (omega arith))

pub cell_fits : (w : ℕ) → length (cell_text w) ≤ cell_width
cell_fits w = omega (arith, cell_length w)

-- ---- the columns of a band

band_few : {A : Type 0} (band : ℕ) (l : List A) → length (in_band band l) ≤ band_columns
band_few band l = omega (arith, length-take band_columns (drop (band_columns * band) l))

band_element : {A : Type 0} (d : A) (band k : ℕ) (l : List A) → k < band_columns → get_or (in_band band l) k d ≡ get_or l (band_columns * band + k) d
band_element d band k l h = get_or-take band_columns (drop (band_columns * band) l) k d h ∙ get_or-drop (band_columns * band) l k d

-- a column's band, and its index there
module _ {A : Type 0} (d : A) (l : List A) (c : ℕ) (h : c < length l) where
  band_within : c % band_columns < length (in_band (c / band_columns) l)
  band_within =
      omega (
        arith,
        length-take band_columns (drop (band_columns * (c / band_columns)) l),
        length-drop (band_columns * (c / band_columns)) l,
      )

  band_column : get_or (in_band (c / band_columns) l) (c % band_columns) d ≡ get_or l c d
  band_column =
      let whole : band_columns * (c / band_columns) + c % band_columns ≡ c = omega arith in
      band_element d (c / band_columns) (c % band_columns) l (omega arith) ∙ ap (λ (k : ℕ). get_or l k d) whole

-- ---- the lines of a page

pub no_characters : Characters []
unfolding all
no_characters = refl

id_line_fits : (image : List ℕ) (band : ℕ) → LineFits [] (map id_text (in_band band (column_words image)))
id_line_fits image band =
    line_fits id_text [] (in_band band (column_words image)) (omega arith) no_characters (band_few band (column_words image))
    (λ w m. (id_fits w, decimal_characters (id_of w)))

row_line_fits : (image : List ℕ) (band position : ℕ) → position < row_count image
    → LineFits (decimal position) (map cell_text (in_band band (get_or (image_rows image) position [])))
row_line_fits image band position h =
    line_fits cell_text (decimal position) (in_band band (get_or (image_rows image) position []))
    (position_fits image position h) (decimal_characters position) (band_few band (get_or (image_rows image) position []))
    (λ w m. (cell_fits w, cell_characters w))

-- characters 1 to 4 of a row's line hold its position
row_position : (image : List ℕ) (band position : ℕ) → position < row_count image
    → take position_width (cells_line image band position) ≡ flush_right position_width (decimal position)
row_position image band position h = line_position (decimal position) _ (row_line_fits image band position h)

blank_line : IsLine (page_line [] [])
blank_line = is_line [] [] (line_fits decimal [] [] (omega arith) no_characters (omega arith) (λ w m. absurd m))

module _ (image : List ℕ) (band part : ℕ) where
  pub line_at_lem : (position : ℕ) → IsLine (line_at image band position)
  line_at_lem position =
      bool_cases (ltb position (row_count image))
      (λ e. rw e (is_line _ _ (row_line_fits image band position (ltb-true position (row_count image) e))))
      (λ e. rw e blank_line)

  abbrev row_texts : List (List ℕ)
  row_texts = tabulate page_rows (line_on image band part)

  abbrev lines : List (List ℕ)
  lines = ids_line image band ∷ row_texts

  page_flat : band_page image band part ≡ flatten lines
  unfolding band_page flatten
  page_flat = refl

  lines_count : length lines ≡ page_lines
  lines_count = ap suc (tabulate-length page_rows (line_on image band part))

  lines_are : (l : List ℕ) → Member l lines → IsLine l
  lines_are l m =
      ⊎_elim (λ e. subst IsLine (sym e) (is_line [] _ (id_line_fits image band)))
      (λ r.
      let i = tabulate-member page_rows (line_on image band part) l r in
      subst IsLine (sym i.1) (line_at_lem (page_rows * part + i.0))) m

  lines_wide : Wide line_bytes lines
  lines_wide l m = (lines_are l m).size

  pub band_page-length : length (band_page image band part) ≡ page_bytes
  band_page-length = ap length page_flat ∙ flatten-length line_bytes lines lines_wide ∙ ap (λ (k : ℕ). k * line_bytes) lines_count

  byte_at : (i : ℕ) → i < page_bytes → get_or (flatten lines) i 0 ≡ get_or (get_or lines (i / line_bytes) []) (i % line_bytes) 0
  byte_at i h =
      ap (λ (n : ℕ). get_or (flatten lines) n 0) (sym (div-add-mod' i line_bytes))
      ∙ sym (get_or-drop (i / line_bytes * line_bytes) (flatten lines) (i % line_bytes) 0)
      ∙ sym (get_or-take line_bytes (drop (i / line_bytes * line_bytes) (flatten lines)) (i % line_bytes) 0 (omega arith))
      ∙ ap (λ (l : List ℕ). get_or l (i % line_bytes) 0) (flat_row line_bytes [] lines (i / line_bytes) lines_wide (omega (arith, lines_count)))

  pub band_page_lines : IsPage (band_page image band part)
  band_page_lines = record {
    size = band_page-length;
    lines = λ i h.
        let e = ap (λ (l : List ℕ). get_or l i 0) page_flat ∙ byte_at i h in
        let line = lines_are (get_or lines (i / line_bytes) []) (member-get [] lines (i / line_bytes) (omega (arith, lines_count))) in
        let ends = line.ends (i % line_bytes) (omega arith) in
        (λ q. ends.0 (sym e ∙ q), λ q. e ∙ ends.1 q);
  }

-- ---- how many pages there are

module _ (image : List ℕ) where
  pub page-length : (n : ℕ) → length (page image n) ≡ page_bytes
  unfolding page
  page-length n = band_page-length image (n / band_pages image) (n % band_pages image)

  pub page_lines_lem : (n : ℕ) → IsPage (page image n)
  unfolding page
  page_lines_lem n = band_page_lines image (n / band_pages image) (n % band_pages image)

  -- a table without rows has pages too
  pub some_page : {limit : ℕ} → Passed limit image → 0 < page_count image
  some_page p =
      let bands : 1 ≤ div_ceil (column_count image) band_columns = omega (arith, p.some_column) in
      let parts : 1 ≤ band_pages image = omega arith in
      omega (arith, mul-le-mul bands parts)

  pub few_pages : Passed max_stored_rows image → page_count image ≤ 54
  few_pages p =
      let bands : div_ceil (column_count image) band_columns ≤ 3 = omega (arith, p.few_columns) in
      let parts : band_pages image ≤ 18 = omega (arith, p.few_rows) in
      omega (arith, mul-le-mul bands parts)

  -- the page of a band and a part
  module _ (band part : ℕ) (h : part < band_pages image) where
    pub page_at : page image (band * band_pages image + part) ≡ band_page image band part
    unfolding page
    page_at =
        let some : 0 < band_pages image = omega arith in
        ap₂ (band_page image)
        (mul-add-div_right some band part ∙ ap (λ (k : ℕ). band + k) (div-eq_of_lt h) ∙ add-zero band)
        (mul-add-mod_self_right band (band_pages image) part ∙ mod-eq_of_lt h)

    pub page_exists : band < div_ceil (column_count image) band_columns → band * band_pages image + part < page_count image
    page_exists g =
        omega (arith, mul-le-mul_right {m = suc band} (band_pages image) g, suc-mul band (band_pages image))

-- ---- no cell is lost or cut

module _ (image : List ℕ) (p : Passed max_stored_rows image) (row column : ℕ) (r : row < row_count image) (c : column < column_count image) where
  abbrev band : ℕ
  band = column / band_columns

  abbrev part : ℕ
  part = row / page_rows

  part_within : part < band_pages image
  part_within = omega arith

  abbrev placed : CellPlace
  placed = record {
    on_page = band * band_pages image + part;
    on_line = 1 + row % page_rows;
    field = column % band_columns;
    a_line = omega arith;
    a_field = omega arith;
  }

  abbrev all_lines : List (List ℕ)
  all_lines = lines image band part

  abbrev cells : List ℕ
  cells = get_or (image_rows image) row []

  cells_count : length cells ≡ column_count image
  cells_count =
      passed_rows max_stored_rows image p cells
      (member-get [] (image_rows image) row (omega (arith, rows_length (column_count image) (row_count image) (cell_words image))))

  row_line_lem : get_or all_lines (1 + row % page_rows) [] ≡ cells_line image band row
  row_line_lem =
      let next : 1 + row % page_rows ≡ suc (row % page_rows) = omega arith in
      let whole : page_rows * part + row % page_rows ≡ row = omega arith in
      ap (λ (k : ℕ). get_or all_lines k []) next
      ∙ tabulate-get [] page_rows (line_on image band part) (row % page_rows) (omega arith)
      ∙ ap (line_at image band) whole
      ∙ rw (lt-ltb row (row_count image) r)

  on_lines : (line a b : ℕ) → line < page_lines → a + b ≤ line_bytes
      → bytes_at (line * line_bytes + a) b (band_page image band part) ≡ bytes_at a b (get_or all_lines line [])
  on_lines line a b h g =
      ap (bytes_at (line * line_bytes + a) b) (page_flat image band part)
      ∙ flat_part line_bytes [] all_lines line a b (lines_wide image band part) (omega (arith, lines_count image band part)) g

  abbrev at : ℕ
  at = before_field (column % band_columns)

  shown : CellShown image row column placed (band_page image band part)
  shown = record {
    cell = on_lines (1 + row % page_rows) at cell_width (omega arith) (omega arith)
        ∙ ap (bytes_at at cell_width) row_line_lem
        ∙ line_cell (decimal row) (map cell_text (in_band band cells)) (row_line_fits image band row r) (column % band_columns)
        (omega (arith, length-map (in_band band cells) cell_text, cells_within))
        ∙ ap (flush_right cell_width)
        (get_or-map cell_text (in_band band cells) (column % band_columns) 0 [] cells_within
        ∙ ap cell_text (band_column 0 cells column (omega (arith, cells_count))));
    position = ap (λ (k : ℕ). bytes_at k position_width (band_page image band part)) (sym (add-zero ((1 + row % page_rows) * line_bytes)))
        ∙ on_lines (1 + row % page_rows) 0 position_width (omega arith) (omega arith)
        ∙ ap (take position_width) row_line_lem
        ∙ row_position image band row r;
    id = ap (λ (k : ℕ). bytes_at k cell_width (band_page image band part)) first
        ∙ on_lines 0 at cell_width (omega arith) (omega arith)
        ∙ line_cell [] (map id_text (in_band band (column_words image))) (id_line_fits image band) (column % band_columns)
        (omega (arith, length-map (in_band band (column_words image)) id_text, ids_within))
        ∙ ap (flush_right cell_width)
        (get_or-map id_text (in_band band (column_words image)) (column % band_columns) 0 [] ids_within
        ∙ ap id_text (band_column 0 (column_words image) column columns_count));
  }
    where
      first : at ≡ 0 * line_bytes + at
      first = omega arith

      columns_count : column < length (column_words image)
      columns_count = omega (arith, passed_ids max_stored_rows image p, length-map (column_words image) id_of)

      cells_within : column % band_columns < length (in_band band cells)
      cells_within = band_within 0 cells column (omega (arith, cells_count))

      ids_within : column % band_columns < length (in_band band (column_words image))
      ids_within = band_within 0 (column_words image) column columns_count

-- bytes that begin with a page
bytes_front : (at n : ℕ) (l rest : List ℕ) → at + n ≤ length l → bytes_at at n (l ++ rest) ≡ bytes_at at n l
bytes_front at n l rest h =
    ap (take n) (drop-append-le at l rest (omega arith)) ∙ take-append-le n (drop at l) rest (omega (arith, length-drop at l))

shown_front : (image : List ℕ) (row column : ℕ) (place : CellPlace) (l rest : List ℕ) → length l ≡ page_bytes
    → CellShown image row column place l → CellShown image row column place (l ++ rest)
shown_front image row column place l rest size s = record {
  cell = bytes_front (place.on_line * line_bytes + before_field place.field) cell_width l rest (omega (arith, place.a_line, place.a_field)) ∙ s.cell;
  position = bytes_front (place.on_line * line_bytes) position_width l rest (omega (arith, place.a_line)) ∙ s.position;
  id = bytes_front (before_field place.field) cell_width l rest (omega (arith, place.a_field)) ∙ s.id;
}

-- ---- which calls are done

-- done exactly when every check is passed: "no other call is refused"
pub page_done : (image : List ℕ) (n room : ℕ) (values : List ℕ) → (page_outcome image n room ≡ done values) ↔ PageDone image n room values
unfolding page_outcome
page_done image n room values = (
  λ e.
      let p = unless_done (image_number max_stored_rows image) 0 _ values e in
      let q = unless_done (no (ltb n (page_count image)) 15) 2 _ values p.1 in
      let s = unless_done (no (leb page_bytes room) 16) 2 _ values q.1 in
      record {
        accepted = (passed_is max_stored_rows image).0 p.0;
        exists = omega (arith, within_done (suc n) (page_count image) 14 q.0);
        bytes_room = within_done page_bytes room 15 s.0;
        carries = same_values _ values s.1;
      },
  λ d.
      unless_passed _ 0 _ ((passed_is max_stored_rows image).1 d.accepted)
      ∙ unless_passed _ 2 _ (within_passed (suc n) (page_count image) 15 (omega (arith, d.exists)))
      ∙ unless_passed _ 2 _ (within_passed page_bytes room 16 d.bytes_room)
      ∙ ap done (sym d.carries),
)

-- a done call of a page has passed every check, and carries the number of pages
pub page_complete : {image : List ℕ} {n : ℕ} {bytes values bytes_after : List ℕ} → PagePromise image n bytes (done values) bytes_after
    → PageDone image n (length bytes) values
page_complete {image} {n} {bytes} {values} p = (page_done image n (length bytes) values).0 (sym p.answers)

-- a page that exists is written, given room
pub page_written : {image : List ℕ} {n : ℕ} {bytes : List ℕ} {answer : Outcome} {bytes_after : List ℕ} → PagePromise image n bytes answer bytes_after
    → Passed max_stored_rows image → n < page_count image → page_bytes ≤ length bytes
    → BufferPromise (done (page_count image ∷ [])) (page image n) bytes answer bytes_after
page_written {image} {n} {bytes} promise p exists room = record {
  answers = promise.answers
      ∙ (page_done image n (length bytes) _).1 (record { accepted = p; exists = exists; bytes_room = room; carries = refl });
  writes = promise.writes;
}

-- ---- the claims

pub pages_are_whole : PagesAreWhole
pages_are_whole image n bytes values bytes_after promise =
    let size = page-length image n in
    let front : take page_bytes bytes_after ≡ page image n = ap (take page_bytes) promise.writes ∙ take_at (page image n) _ page_bytes size in (
      subst IsPage (sym front) (page_lines_lem image n),
      ap (drop page_bytes) promise.writes ∙ drop_at (page image n) _ page_bytes size ∙ ap (λ (k : ℕ). drop k bytes) size,
    )

pub pages_are_counted : PagesAreCounted
pages_are_counted image n bytes values bytes_after promise =
    let d = page_complete promise in (
      d.carries,
      some_page image d.accepted,
      few_pages image d.accepted,
      λ other lent answer lent_after room call. (
        λ e. (page_complete (subst (λ (o : Outcome). PagePromise image other lent o lent_after) e call)).exists,
        λ exists. (page_written call d.accepted exists room).answers ∙ ap done (sym d.carries),
      ),
    )

pub no_cell_is_lost : NoCellIsLost
no_cell_is_lost image p row column r c = (
  placed image p row column r c,
  λ bytes answer bytes_after room promise.
      let place = placed image p row column r c in
      let n = place.on_page in
      let part = part_within image p row column r c in
      let exists = page_exists image (column / band_columns) (row / page_rows) part (omega arith) in
      let w = page_written promise p exists room in
      let after : bytes_after ≡ page image n ++ drop (length (page image n)) bytes =
      w.writes ∙ ap (λ (o : Outcome). afterwards o (page image n) bytes) w.answers in
      let on_page = subst (CellShown image row column place) (sym (page_at image (column / band_columns) (row / page_rows) part)) (shown image p row column r c) in
      (w.answers, subst (CellShown image row column place) (sym after) (shown_front image row column place (page image n) _ (page-length image n) on_page)),
)
