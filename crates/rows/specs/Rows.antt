-- The rows that `Rows` stands for: a file of its own, since it names the struct.
use Rattle.std.specs.Prelude.{List, ℕ}
use Rattle.definitions.specs.Image.{rows_in}
use Rattle.rows.specs.declared.named.Rows.{Rows}

-- all of them, in their order
abbrev pub rows_of : Rows → List (List ℕ)
rows_of t = rows_in t.width t.len t.cells.now
