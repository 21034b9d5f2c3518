-- Laws of a set line: the positions of a record, bit by bit and word by word, and the fields behind them. Assumes nothing.
use Rattle.std.proofs.Common.{◌≡◌, refl, sym, ◌∙◌, ap, ℕ, ◌+◌, ◌*◌, ◌%◌, ◌^◌, ◌<◌, ◌≤◌, List, [], ◌∷◌, ◌++◌, map, length, get_or, take, append_assoc, arith}
use mathlib.Core.Bool.{Bool}
use Rattle.bitsets.specs.Members.{Next}
use Rattle.bitsets.proofs.Positions.{positions_below, positions_none}
use Rattle.definitions.specs.Limits.{mark_words, marks_per_word}
use Rattle.definitions.specs.Reading.{positions_of, positions_in, joined_position}
use Rattle.definitions.specs.Text.{ascii, decimal}
use Rattle.definitions.specs.Listing.{title_line, set_line}
use Rattle.definitions.proofs.Marks.{front_set}
use Rattle.set_lists.specs.Marks.{word_positions}
use Rattle.set_lists.proofs.Positions.{word_positions_lem, others_small, next_position, marked_from, marked_next, marked_end}
use Rattle.text.specs.declared.Writer.{Writer}
use Rattle.text.specs.Writer.{HasRoom, Wrote}
use Rattle.text.specs.Bytes.{space}
use Rattle.text.proofs.Writing.{then_wrote, first_fits, behind_fits, Begun, begun_start, begun_turn, begun_fits, begun_end}
use Rattle.listing.specs.Lines.{positions_text, record_line}
use Rattle.listing.proofs.Fields.{line_next}

-- ---- positions

no_positions : {ps : List ℕ} → ps ≡ [] → positions_text ps ≡ []
unfolding positions_text
no_positions e = rw e refl

first_position : (p : ℕ) (ps : List ℕ) → positions_text (p ∷ ps) ≡ (decimal p ++ (space ∷ [])) ++ positions_text ps
unfolding positions_text
first_position p ps = sym (append_assoc (decimal p) (space ∷ []) (positions_text ps))

append_positions : (s t : List ℕ) → positions_text (s ++ t) ≡ positions_text s ++ positions_text t
unfolding positions_text
append_positions [] t = refl
append_positions (p ∷ s) t =
    ap (λ (l : List ℕ). decimal p ++ (space ∷ l)) (append_positions s t)
    ∙ sym (append_assoc (decimal p) (space ∷ positions_text s) (positions_text t))

-- ---- a mark word

-- the positions of a mark word are written but for those of the bits that are left
pub record WordPut (from w : ℕ) (a : Writer) (rest : ℕ) (b : Writer) : Type 0 where
  pub small : rest < 2 ^ marks_per_word
  pub begun : Begun (positions_text (word_positions from w)) (positions_text (positions_below marks_per_word from rest)) a b

pub word_start : (from w : ℕ) (a : Writer) (rest : ℕ) → HasRoom a (positions_text (word_positions from w)) → rest ≡ w % 2 ^ marks_per_word
    → WordPut from w a rest a
word_start from w a rest h e =
    record {
      small = omega arith;
      begun = begun_start a (ap positions_text (word_positions_lem from w ∙ ap (positions_below marks_per_word from) (sym e))) h;
    }

module _ {from w rest : ℕ} {a b : Writer} (t : WordPut from w a rest b) where
  module _ {position others : ℕ} (n : Next rest position others) where
    abbrev left : List ℕ
    left = positions_text (positions_below marks_per_word from others)

    bit_text : positions_text (positions_below marks_per_word from rest) ≡ (decimal (from + position) ++ (space ∷ [])) ++ left
    bit_text = ap positions_text (next_position t.small n from) ∙ first_position (from + position) (positions_below marks_per_word from others)

    bit_room : HasRoom b (decimal (from + position) ++ (space ∷ []))
    bit_room = begun_fits t.begun left bit_text

    pub number_fits : HasRoom b (decimal (from + position))
    number_fits = first_fits (space ∷ []) refl bit_room

    pub space_fits : {c : Writer} → Wrote b (decimal (from + position)) c → HasRoom c (space ∷ [])
    space_fits q = behind_fits refl bit_room q

    pub bit_turn : {c d : Writer} → Wrote b (decimal (from + position)) c → Wrote c (space ∷ []) d → WordPut from w a others d
    bit_turn p q =
        record {
          small = others_small t.small n;
          begun = begun_turn t.begun left bit_text (then_wrote p q);
        }

  pub word_end : rest ≡ 0 → Wrote a (positions_text (word_positions from w)) b
  word_end e = begun_end t.begun (no_positions (ap (positions_below marks_per_word from) e ∙ positions_none marks_per_word from))

-- ---- mark words

-- the positions of the words before i are written
pub record MarksPut (marks : List ℕ) (a : Writer) (i : ℕ) (b : Writer) : Type 0 where
  pub begun : Begun (positions_text (positions_in (length marks) marks)) (positions_text (marked_from marks i)) a b

pub marks_start : (marks : List ℕ) (a : Writer) → HasRoom a (positions_text (positions_in (length marks) marks)) → MarksPut marks a 0 a
marks_start marks a h = record { begun = begun_start a refl h }

module _ {marks : List ℕ} {a b : Writer} {i : ℕ} (t : MarksPut marks a i b) where
  module _ (h : i < length marks) (w : ℕ) (e : w ≡ get_or marks i 0) where
    abbrev behind : List ℕ
    behind = positions_text (marked_from marks (i + 1))

    word_text : positions_text (marked_from marks i) ≡ positions_text (word_positions (marks_per_word * i) w) ++ behind
    word_text =
        rw e
        (ap positions_text (marked_next marks i h)
        ∙ append_positions (word_positions (marks_per_word * i) (get_or marks i 0)) (marked_from marks (i + 1)))

    pub word_fits : HasRoom b (positions_text (word_positions (marks_per_word * i) w))
    word_fits = begun_fits t.begun behind word_text

    pub word_turn : {c : Writer} → Wrote b (positions_text (word_positions (marks_per_word * i) w)) c → MarksPut marks a (i + 1) c
    word_turn q = record { begun = begun_turn t.begun behind word_text q }

  pub marks_end : length marks ≤ i → Wrote a (positions_text (positions_in (length marks) marks)) b
  marks_end h = begun_end t.begun (no_positions (marked_end marks i h))

-- ---- the line

-- the positions, and then a title line
set_text : (ps : List ℕ) (position : ℕ) → set_line ps position ≡ positions_text ps ++ title_line (ascii ">") (position ∷ [])
unfolding positions_text
set_text [] position = refl
set_text (p ∷ []) position = line_next (decimal p) (ascii ">") (decimal position ∷ [])
set_text (p ∷ q ∷ ps) position =
    line_next (decimal p) (decimal q) (map decimal ps ++ (ascii ">" ∷ decimal position ∷ []))
    ∙ ap (λ (l : List ℕ). (decimal p ++ (space ∷ [])) ++ l) (set_text (q ∷ ps) position)
    ∙ append_assoc (decimal p) (space ∷ []) (positions_text (q ∷ ps) ++ title_line (ascii ">") (position ∷ []))
    ∙ sym (append_assoc (decimal p) (space ∷ positions_text (q ∷ ps)) (title_line (ascii ">") (position ∷ [])))

-- of a record, with the position in its row word
record_text : (words : List ℕ) (n : ℕ) → n ≡ joined_position mark_words words
    → record_line words ≡ positions_text (positions_in mark_words words) ++ title_line (ascii ">") (n ∷ [])
record_text words n e =
    set_text (positions_in mark_words words) (joined_position mark_words words)
    ∙ ap (λ (k : ℕ). positions_text (positions_in mark_words words) ++ title_line (ascii ">") (k ∷ [])) (sym e)

-- its mark words alone tell
pub front_text : (words : List ℕ) (n : ℕ) → mark_words ≤ length words → n ≡ joined_position mark_words words
    → record_line words ≡ positions_text (positions_in (length (take mark_words words)) (take mark_words words)) ++ title_line (ascii ">") (n ∷ [])
front_text words n h e =
    record_text words n e
    ∙ ap (λ (set : List Bool). positions_text (positions_of 0 set) ++ title_line (ascii ">") (n ∷ [])) (sym (front_set mark_words words refl h))
