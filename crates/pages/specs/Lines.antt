-- What follows the position on a line of a page.
use Rattle.std.specs.Prelude.{ℕ, ◌+◌, ◌*◌, ◌-◌, length}
use mathlib.Core.List.{List, [], ◌∷◌, ◌++◌, map, flatten}
use Rattle.definitions.specs.Page.{line_width, position_width, cell_width, blanks, flush_right}

-- so many cells, the blanks behind them, and byte 10
abbrev pub cells_text : (ℕ → List ℕ) → List ℕ → List ℕ
cells_text shown words =
    flatten (map (λ w. flush_right cell_width (shown w)) words)
    ++ (blanks (line_width - (position_width + length words * cell_width)) ++ (10 ∷ []))
