-- A line of a page by its parts: the position, the cells, and the end. Assumes nothing.
use Rattle.std.proofs.Common.{◌≡◌, ◌∙◌, ap, ap₂, ℕ, ◌+◌, ◌*◌, ◌^◌, ◌<◌, ◌≤◌, List, [], ◌++◌, map, length, arith}
use mathlib.Core.List.{flatten, map-map}
use Rattle.std.proofs.lemmas.List.{length-map}
use Rattle.definitions.specs.Word.{id_of}
use Rattle.definitions.specs.Text.{decimal, id_text, cell_text}
use Rattle.definitions.specs.Page.{position_width, cell_width, blanks, flush_right, line_text, page_line, band_columns}
use Rattle.definitions.proofs.PageLines.{LineFits, line_fits, line_end, line_parts, text_length, decimal_characters, cell_characters}
use Rattle.definitions.proofs.Pages.{four_digits, id_fits, cell_fits, no_characters}
use Rattle.pages.specs.Lines.{cells_text}

line_cells : (f : ℕ → List ℕ) (position words : List ℕ) → LineFits position (map f words)
    → page_line position (map f words) ≡ flush_right position_width position ++ cells_text f words
line_cells f position words fits =
    let used : length (line_text position (map f words)) ≡ position_width + length words * cell_width =
    text_length position (map f words) fits ∙ ap (λ (n : ℕ). position_width + n * cell_width) (length-map words f) in
    line_parts position (map f words)
    ∙ ap₂ (λ (l : List (List ℕ)) (n : ℕ). flush_right position_width position ++ (flatten l ++ line_end n)) (map-map (flush_right cell_width) f words) used

pub ids_parts : (columns : List ℕ) → length columns ≤ band_columns
    → page_line [] (map id_text columns) ≡ blanks position_width ++ cells_text id_text columns
ids_parts columns few =
    line_cells id_text [] columns
    (line_fits id_text [] columns (omega arith) no_characters few (λ w m. (id_fits w, decimal_characters (id_of w))))

pub row_parts : (position : ℕ) (cells : List ℕ) → position < 10 ^ 4 → length cells ≤ band_columns
    → page_line (decimal position) (map cell_text cells) ≡ flush_right position_width (decimal position) ++ cells_text cell_text cells
row_parts position cells small few =
    line_cells cell_text (decimal position) cells
    (line_fits cell_text (decimal position) cells (four_digits position small) (decimal_characters position) few
    (λ w m. (cell_fits w, cell_characters w)))
