-- What a mark word says where it is one of several: its positions, counted from the first that it holds.
use Rattle.std.specs.Prelude.{ℕ, Bool, ◌&&◌, eqb, ltb, length}
use mathlib.Core.List.{List, [], ◌∷◌, map, flatten}
use Rattle.definitions.specs.Limits.{mark_words}
use Rattle.definitions.specs.Lists.{all}
use Rattle.definitions.specs.Word.{kind_of}
use Rattle.definitions.specs.Reading.{set_in, positions_of, positions_in}
use Rattle.definitions.specs.ReadBack.{are_mark_words, read_record}

-- the positions that a word marks
abbrev pub word_positions : ℕ → ℕ → List ℕ
word_positions from w = positions_of from (set_in 1 (w ∷ []))

-- a word of kind 2 that marks positions below `rows` alone
abbrev pub is_mark_word : ℕ → ℕ → ℕ → Bool
is_mark_word from rows w = eqb (kind_of w) 2 && all (λ p. ltb p rows) (word_positions from w)

-- mark words of kind 2 that mark positions below `rows` alone
abbrev pub marks_fit : ℕ → List ℕ → Bool
marks_fit rows marks = are_mark_words marks && all (λ p. ltb p rows) (positions_in (length marks) marks)

-- the words that are written of records
abbrev pub entries : List (List ℕ) → List ℕ
entries records = flatten (map (read_record mark_words) records)
