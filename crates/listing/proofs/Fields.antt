-- Laws of a line by its parts: its first field and the others, and the words that stand between fields. Assumes nothing.
use Rattle.std.proofs.Common.{◌≡◌, refl, sym, ◌∙◌, ap, ap₂, ℕ, List, [], ◌∷◌, ◌++◌, ◌-◌, ◌<◌, ◌≤◌, map, length, get_or, take, drop, append_assoc, arith}
use mathlib.Core.List.{flatten, map-map}
use Rattle.std.proofs.lemmas.List.{take_rest}
use Rattle.definitions.specs.Word.{id_of}
use Rattle.definitions.specs.Text.{ascii, decimal, id_text, cell_text}
use Rattle.definitions.specs.Listing.{line, columns_line, union_title, row_line, ragged_line, refused_line}
use Rattle.definitions.specs.Program.{row_lines}
use Rattle.definitions.proofs.Images.{rows_length}
use Rattle.definitions.proofs.Lines.{later, line_first}
use Rattle.rows.specs.Rows.{rows_of}
use Rattle.rows.specs.declared.named.Rows.{Rows}
use Rattle.text.specs.Bytes.{space, newline, spaced}
use Rattle.listing.specs.Lines.{union_lines}

module _ {A : Type 0} (f : A → List ℕ) where
  later_fields : (values : List A) → later (map f values) ≡ spaced f values ++ (newline ∷ [])
  unfolding flatten
  later_fields [] = refl
  later_fields (v ∷ values) =
      ap (λ (l : List ℕ). space ∷ (f v ++ l)) (later_fields values)
      ∙ ap (λ (l : List ℕ). space ∷ l) (sym (append_assoc (f v) (spaced f values) (newline ∷ [])))

  -- a first field, a space and a field for each value, and the end
  pub line_fields : (first : List ℕ) (values : List A) → line (first ∷ map f values) ≡ first ++ (spaced f values ++ (newline ∷ []))
  line_fields first values = line_first first (map f values) ∙ ap (λ (l : List ℕ). first ++ l) (later_fields values)

-- a field with the space behind it, and the other fields
pub line_next : (f g : List ℕ) (fields : List (List ℕ)) → line (f ∷ g ∷ fields) ≡ (f ++ (space ∷ [])) ++ line (g ∷ fields)
unfolding line
line_next f g fields = sym (append_assoc f (space ∷ []) (line (g ∷ fields)))

pub ragged_text : (name : List ℕ) → ragged_line name ≡ ascii "ragged " ++ line (name ∷ [])
unfolding line
ragged_text name = refl

pub refused_text : (number table : ℕ) → refused_line number table ≡ ascii "refused " ++ (decimal number ++ line (ascii " table" ∷ decimal table ∷ []))
unfolding line
refused_text number table = refl

ids_text : (columns : List ℕ) → columns_line (map id_of columns) ≡ line (ascii "columns" ∷ map id_text columns)
ids_text columns = ap (λ (fields : List (List ℕ)). line (ascii "columns" ∷ fields)) (map-map decimal id_of columns)

-- the columns' line, and the lines of T, whose title has the count of rows
pub union_text_lem : (columns : List ℕ) (t : Rows) (filled : ℕ)
    → union_lines columns (rows_of t) filled ≡ line (ascii "columns" ∷ map id_text columns) ++ (union_title t.len filled ++ row_lines (rows_of t))
union_text_lem columns t filled =
    ap₂ (λ (ids : List ℕ) (n : ℕ). ids ++ (union_title n filled ++ row_lines (rows_of t))) (ids_text columns) (rows_length t.width t.len t.cells.now)

-- ---- a row

pub no_cells : (cells : List ℕ) → length cells < 1 → row_line cells ≡ newline ∷ []
unfolding line
no_cells [] h = refl
no_cells (x ∷ cells) h = absurd (omega arith)

pub some_cells : (cells : List ℕ) → 1 ≤ length cells
    → row_line cells ≡ cell_text (get_or cells 0 0) ++ (spaced cell_text (take (length cells - 1) (drop 1 cells)) ++ (newline ∷ []))
some_cells [] h = absurd (omega arith)
some_cells (x ∷ cells) h =
    line_fields cell_text (cell_text x) cells
    ∙ ap (λ (l : List ℕ). cell_text x ++ (spaced cell_text l ++ (newline ∷ []))) (sym (take_rest (x ∷ cells) 1))
