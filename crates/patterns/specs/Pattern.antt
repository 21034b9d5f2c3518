-- The filled pattern of a row: the set of its filled columns as a number.
use Rattle.std.specs.Prelude.{List, map, ℕ}
use Rattle.definitions.specs.Word.{is_filled}
use Rattle.definitions.specs.SetList.{bits}

-- the bits of the word that holds a pattern
abbrev pub pattern_bits : ℕ
pattern_bits = 32

-- bit i says that cell i is filled
unfoldable pub pattern_of : List ℕ → ℕ
pattern_of row = bits (map is_filled row)
