-- The words of a band that a line shows, and which band of an image a page shows. Assumes nothing.
use Rattle.std.proofs.Common.{◌≡◌, sym, ◌∙◌, ap, ℕ, Bool, cond, ◌*◌, ◌/◌, ◌%◌, ◌<◌, List, [], get_or, map, arith}
use native.Mathlib.Nat.{div-lt_iff_lt-mul}
use Rattle.std.specs.Int.{div_ceil}
use borrow.Author.Tests.{lt-ltb}
use Rattle.definitions.specs.Image.{column_count, row_count, column_words, image_rows}
use Rattle.definitions.specs.Text.{decimal, id_text, cell_text}
use Rattle.definitions.specs.Page.{in_band, page_line, ids_line, cells_line, line_at, band_columns, band_page, band_pages, page_count, page}

module _ (image : List ℕ) (band : ℕ) (whole part : List ℕ) (shown : part ≡ in_band band whole) where
  -- the line of the ids
  pub ids_shown : whole ≡ column_words image → page_line [] (map id_text part) ≡ ids_line image band
  ids_shown e = rw (shown, e)

  -- the line of a row that the image has
  pub row_shown : (position : ℕ) → position < row_count image → whole ≡ get_or (image_rows image) position []
      → page_line (decimal position) (map cell_text part) ≡ line_at image band position
  row_shown position h e =
      ap (λ (l : List ℕ). page_line (decimal position) (map cell_text l)) (shown ∙ ap (in_band band) e)
      ∙ sym (ap (λ (b : Bool). cond b (cells_line image band position) (page_line [] [])) (lt-ltb position (row_count image) h))

module _ (image : List ℕ) (n parts : ℕ) (parts_are : parts ≡ band_pages image) (exists : n < page_count image) where
  pub band_starts : band_columns * (n / parts) < column_count image
  band_starts =
      let some : 0 < band_pages image = omega arith in
      let less : n / band_pages image < div_ceil (column_count image) band_columns = (div-lt_iff_lt-mul some).1 exists in
      rw parts_are (omega arith)

-- the page of a part of a band
pub page_is : (image : List ℕ) (n parts : ℕ) → parts ≡ band_pages image → page image n ≡ band_page image (n / parts) (n % parts)
unfolding page
page_is image n parts e = ap (λ (k : ℕ). band_page image (n / k) (n % k)) (sym e)
