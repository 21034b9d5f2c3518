-- The rows of T that `UnionRows` holds.
use Rattle.std.specs.Prelude.{List, ℕ}
use Rattle.rows.specs.Rows as rows
use Rattle.fusing.specs.declared.union_rows.UnionRows.{UnionRows}

-- its rows, a cell for each column word
abbrev pub rows_of : UnionRows → List (List ℕ)
rows_of t = rows.rows_of t.rows
