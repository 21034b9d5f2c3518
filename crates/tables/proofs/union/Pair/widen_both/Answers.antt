-- The widened rows of the first image stand in the cells, and those of the second after them.
use mathlib.Core.Path.{◌≡◌, refl, ◌∙◌}
use Prim.Native.Nat.{◌*◌}
use native.Mathlib.Omega.{arith}
use lib.ListN.{length}
use borrow.Author.Rules.{rules}
use borrow.Rule.Slice.PartMut.{same_len_mid}
use Rattle.definitions.specs.Limits.{max_columns, max_union_rows}
use Rattle.tables.proofs.UnionLaws.{sources, rows_few, fits_all, first_empty, first_kept, second_empty, both-widened}
use Rattle.tables.proofs.union.Pair.widen_both.Goals as goal

pub slice_bounds-widen_image-end : goal.slice_bounds-widen_image-end
slice_bounds-widen_image-end c =
    omega (arith, fits_all c.args.cells.now c.args.self.now.found (search rules) c.requires c.rows-first.ensures.count c.rows-second.ensures.count refl)

pub widen_image-requires : goal.widen_image-requires
widen_image-requires c =
    ((sources c.args.self.now.found).first, first_empty c.args.cells.now c.args.self.now.found (search rules) c.requires c.rows-first.ensures.count c.rows-second.ensures.count refl)

pub slice_bounds-widen_image-end-3 : goal.slice_bounds-widen_image-end-3
slice_bounds-widen_image-end-3 c =
    let fits = fits_all c.args.cells.now c.args.self.now.found (search rules) c.requires c.rows-first.ensures.count c.rows-second.ensures.count refl in
    let kept = first_kept c.args.cells.now c.args.self.now.found (search rules) c.requires c.rows-first.ensures.count c.rows-second.ensures.count refl c.widen_image.ensures in
    omega arith

pub widen_image-requires-2 : goal.widen_image-requires-2
widen_image-requires-2 c = (
  (sources c.args.self.now.found).second,
  second_empty c.args.cells.now c.args.self.now.found (search rules) c.requires c.rows-first.ensures.count c.rows-second.ensures.count refl c.widen_image.ensures,
)

pub returns : goal.returns
returns c =
    let room : length c.args.cells.now ≡ max_union_rows * max_columns = search rules in
    record {
      rows_are = both-widened c.args.cells.now c.args.self.now.found room c.requires c.rows-first.ensures.count c.rows-second.ensures.count refl c.widen_image.ensures _ c.widen_image-2.ensures;
      few_rows = rows_few c.args.cells.now c.args.self.now.found room c.requires c.rows-first.ensures.count c.rows-second.ensures.count refl;
      all_cell_words = same_len_mid _ _ _ _ c.widen_image-2.auto.cells
          ∙ first_kept c.args.cells.now c.args.self.now.found room c.requires c.rows-first.ensures.count c.rows-second.ensures.count refl c.widen_image.ensures ∙ room;
    }
