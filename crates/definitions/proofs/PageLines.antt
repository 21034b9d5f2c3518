-- Laws of a line of a page: its parts, how long it is, what stands where, and that byte 10 stands at its end alone. Assumes nothing.
use mathlib.Core.Path.{◌≡◌, refl, sym, ◌∙◌, ap, subst}
use mathlib.Core.Bool.{true}
use mathlib.Core.Logic.{◌↔◌, inl, inr}
use mathlib.Core.List.{List, [], ◌∷◌, ◌++◌, map, flatten, append_assoc}
use Prim.Native.Nat.{ℕ, zero, suc, ◌+◌, ◌*◌, ◌-◌, ◌/◌, ◌%◌, ◌≤◌, ◌<◌}
use native.Mathlib.Omega.{arith}
use lib.Dec.{leb, ltb}
use lib.ListN.{length, get_or, take, drop, length-append, length-drop, length-map, length-replicate, get_or-append}
use lib.Seq.{take_at, drop-append-le, drop-append-add, take-append-le, get_or_at}
use borrow.Author.Tests.{le-leb, leb-true, ltb-true, ltb-false}
use Rattle.std.proofs.lemmas.List.{get_or-map}
use Rattle.definitions.specs.Lists.{all}
use Rattle.definitions.specs.Statements.{Member}
use Rattle.definitions.specs.Text.{digits, decimal, cell_text}
use Rattle.definitions.specs.Page.{line_width, position_width, cell_width, blanks, flush_right, line_text, page_line, band_columns}
use Rattle.definitions.specs.PageClaims.{line_bytes}
use Rattle.std.proofs.lemmas.Bool.{and_from}
use Rattle.definitions.proofs.Bools.{bool_cases}
use Rattle.definitions.proofs.Lists.{member-get, all_true, all_append, map-member}
use Rattle.definitions.proofs.Counts.{flatten-length}
use Rattle.definitions.proofs.Flat.{Wide, flat_row}
use Rattle.definitions.proofs.Cells.{each_text}

-- ---- characters

-- no byte is below the blank, so that none is byte 10
abbrev pub Characters : List ℕ → Type 0
Characters text = all (leb 32) text ≡ true

characters_append : (s t : List ℕ) → Characters s → Characters t → Characters (s ++ t)
characters_append s t h k = all_append (leb 32) s t ∙ and_from _ _ h k

pub blanks-length : (n : ℕ) → length (blanks n) ≡ n
blanks-length n = length-replicate {A = ℕ} n 32

blank_characters : (n : ℕ) → Characters (blanks n)
unfolding all
blank_characters zero = refl
blank_characters (suc n) = blank_characters n

digit_characters : (n : ℕ) → Characters ((48 + n) ∷ [])
unfolding all
digit_characters n = and_from _ _ (le-leb 32 (48 + n) (omega arith)) refl

digits_characters : (steps n : ℕ) → Characters (digits steps n)
unfolding digits
digits_characters zero n = digit_characters n
digits_characters (suc steps) n =
    bool_cases (ltb n 10)
    (λ e. rw e (digit_characters n))
    (λ e. rw e (characters_append (digits steps (n / 10)) ((48 + n % 10) ∷ []) (digits_characters steps (n / 10)) (digit_characters (n % 10))))

pub decimal_characters : (n : ℕ) → Characters (decimal n)
unfolding decimal
decimal_characters n = digits_characters n n

pub cell_characters : (w : ℕ) → Characters (cell_text w)
unfolding all
cell_characters = each_text Characters refl refl (λ n h. decimal_characters n)

-- ---- a text flushed right

pub right_length : (width : ℕ) (text : List ℕ) → length text ≤ width → length (flush_right width text) ≡ width
right_length width text h =
    omega (arith, length-append (blanks (width - length text)) text, blanks-length (width - length text))

right_characters : (width : ℕ) (text : List ℕ) → Characters text → Characters (flush_right width text)
right_characters width text h = characters_append (blanks (width - length text)) text (blank_characters (width - length text)) h

-- ---- a line

-- texts that fit the fields of a line
pub record LineFits (position : List ℕ) (cells : List (List ℕ)) : Type 0 where
  pub position_fits : length position ≤ position_width
  pub position_characters : Characters position
  pub cells_fit : (text : List ℕ) → Member text cells → (length text ≤ cell_width) × Characters text
  pub few : length cells ≤ band_columns

-- a line of the texts of words
pub line_fits : (f : ℕ → List ℕ) (position words : List ℕ) → length position ≤ position_width → Characters position
    → length words ≤ band_columns → ((w : ℕ) → Member w words → (length (f w) ≤ cell_width) × Characters (f w))
    → LineFits position (map f words)
line_fits f position words h g few right = record {
  position_fits = h;
  position_characters = g;
  cells_fit = λ t m.
      let i = map-member f t words m in
      subst (λ (x : List ℕ). (length x ≤ cell_width) × Characters x) (sym i.2) (right i.0 i.1);
  few = omega (arith, length-map words f);
}

abbrev pub fields : List (List ℕ) → List ℕ
fields cells = flatten (map (flush_right cell_width) cells)

fields_characters : (cells : List (List ℕ)) → ((text : List ℕ) → Member text cells → Characters text) → Characters (fields cells)
unfolding flatten all
fields_characters [] h = refl
fields_characters (text ∷ cells) h =
    characters_append (flush_right cell_width text) (fields cells) (right_characters cell_width text (h text (inl refl)))
    (fields_characters cells (λ t m. h t (inr m)))

-- a line's bytes: byte 10 behind 80 characters
pub record IsLine (line : List ℕ) : Type 0 where
  pub size : length line ≡ line_bytes
  pub ends : (i : ℕ) → i < line_bytes → (get_or line i 0 ≡ 10) ↔ (i ≡ line_width)

characters_line : (text : List ℕ) → length text ≡ line_width → Characters text → IsLine (text ++ (10 ∷ []))
characters_line text size h = record {
  size = omega (arith, length-append text (10 ∷ []));
  ends = λ i less. (
    λ e. bool_cases (ltb i line_width)
        (λ q.
        let within : i < length text = omega (arith, ltb-true i line_width q) in
        let least = leb-true 32 (get_or text i 0) (all_true (leb 32) text h (get_or text i 0) (member-get 0 text i within)) in
        absurd (omega (arith, get_or-append text (10 ∷ []) 0 i within)))
        (λ q. omega (arith, ltb-false i line_width q)),
    λ e. ap (λ (k : ℕ). get_or (text ++ (10 ∷ [])) k 0) e ∙ get_or_at text 10 [] 0 line_width size,
  );
}

-- what follows so many characters of a line
abbrev pub line_end : ℕ → List ℕ
line_end used = blanks (line_width - used) ++ (10 ∷ [])

-- the parts of a line
pub line_parts : (position : List ℕ) (cells : List (List ℕ))
    → page_line position cells ≡ flush_right position_width position ++ (fields cells ++ line_end (length (line_text position cells)))
unfolding page_line
line_parts position cells =
    let text = line_text position cells in
    append_assoc text (blanks (line_width - length text)) (10 ∷ [])
    ∙ append_assoc (flush_right position_width position) (fields cells) (line_end (length text))

module _ (position : List ℕ) (cells : List (List ℕ)) (f : LineFits position cells) where
  abbrev ending : List ℕ
  ending = line_end (length (line_text position cells))

  fields_wide : Wide cell_width (map (flush_right cell_width) cells)
  fields_wide r h =
      let i = map-member (flush_right cell_width) r cells h in
      ap length i.2 ∙ right_length cell_width i.0 (f.cells_fit i.0 i.1).0

  fields_length : length (fields cells) ≡ length cells * cell_width
  fields_length =
      flatten-length cell_width (map (flush_right cell_width) cells) fields_wide
      ∙ ap (λ (k : ℕ). k * cell_width) (length-map cells (flush_right cell_width))

  pub text_length : length (line_text position cells) ≡ position_width + length cells * cell_width
  text_length =
      omega (
        arith,
        length-append (flush_right position_width position) (fields cells),
        right_length position_width position f.position_fits,
        fields_length,
      )

  pub is_line : IsLine (page_line position cells)
  unfolding page_line
  is_line =
      let text = line_text position cells in
      let n = line_width - length text in
      let size : length (text ++ blanks n) ≡ line_width =
      omega (arith, length-append text (blanks n), blanks-length n, text_length, f.few) in
      let right : Characters (text ++ blanks n) =
      characters_append text (blanks n)
      (characters_append (flush_right position_width position) (fields cells)
      (right_characters position_width position f.position_characters)
      (fields_characters cells (λ t m. (f.cells_fit t m).1)))
      (blank_characters n) in
      characters_line (text ++ blanks n) size right

  -- characters 1 to 4
  pub line_position : take position_width (page_line position cells) ≡ flush_right position_width position
  line_position =
      ap (take position_width) (line_parts position cells)
      ∙ take_at (flush_right position_width position) (fields cells ++ ending) position_width
      (right_length position_width position f.position_fits)

  -- the 12 characters of a cell
  pub line_cell : (k : ℕ) → k < length cells
      → take cell_width (drop (position_width + k * cell_width) (page_line position cells)) ≡ flush_right cell_width (get_or cells k [])
  line_cell k h =
      let front = flush_right position_width position in
      let rest = fields cells ++ ending in
      let size : length front ≡ position_width = right_length position_width position f.position_fits in
      let within : k * cell_width ≤ length (fields cells) = omega (arith, fields_length) in
      let room : cell_width ≤ length (drop (k * cell_width) (fields cells)) =
      omega (arith, fields_length, length-drop (k * cell_width) (fields cells)) in
      ap (λ (l : List ℕ). take cell_width (drop (position_width + k * cell_width) l)) (line_parts position cells)
      ∙ ap (λ (n : ℕ). take cell_width (drop (n + k * cell_width) (front ++ rest))) (sym size)
      ∙ ap (take cell_width)
      (drop-append-add front rest (k * cell_width) ∙ drop-append-le (k * cell_width) (fields cells) (ending) within)
      ∙ take-append-le cell_width (drop (k * cell_width) (fields cells)) (ending) room
      ∙ flat_row cell_width [] (map (flush_right cell_width) cells) k fields_wide (omega (arith, length-map cells (flush_right cell_width)))
      ∙ get_or-map (flush_right cell_width) cells k [] [] h
