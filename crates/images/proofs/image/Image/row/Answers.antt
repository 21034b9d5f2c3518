-- A row is within the image, and stands there after the header, the column words and the rows before it.
use mathlib.Core.Path.{refl, sym, ◌∙◌, ap}
use Prim.Native.Nat.{ℕ, ◌*◌}
use native.Mathlib.Omega.{arith}
use Rattle.definitions.specs.Image.{column_count, row_count, cell_words}
use Rattle.definitions.proofs.Questions.{passed_is}
use Rattle.lists.proofs.Flat.{rows_at_lem, row_fits}
use Rattle.images.proofs.Parts.{row_part}
use Rattle.images.proofs.image.Image.row.Goals as goal

pub slice_bounds-result-end : goal.slice_bounds-result-end
slice_bounds-result-end g c =
    let image = c.args.self.words.now in
    let p = (passed_is _ image).0 c.args.self.accepted in
    let f = row_fits (column_count image) (row_count image) c.args.i c.requires in
    let e = ap (λ (x : ℕ). c.args.i * x) c.columns-columns.ensures.count in
    omega (arith, p.all_words, c.columns-columns.ensures.count)

pub returns-clause-cells : goal.returns-clause-cells
returns-clause-cells g c =
    let image = c.args.self.words.now in
    row_part c.columns-columns.result image c.columns-columns.ensures.count c.args.i _ refl
    ∙ sym (rows_at_lem (column_count image) (row_count image) c.args.i (cell_words image) c.requires)
