-- The indices of the image's columns in the union give its widened rows.
use mathlib.Core.Path.{◌∙◌, ap}
use mathlib.Core.List.{List, map}
use Prim.Native.Nat.{ℕ}
use native.Mathlib.Omega.{arith}
use lib.ListN.{replicate}
use lib.Seq.{length-take-le}
use Rattle.definitions.specs.Limits.{max_columns}
use Rattle.definitions.specs.Word.{id_of}
use Rattle.definitions.specs.Image.{image_ids}
use Rattle.tables.specs.UnionIds.{indices_in}
use Rattle.tables.proofs.Scatter.{indices_ordered}
use Rattle.tables.proofs.widen.widen_image.Goals as goal

pub column_indices-requires : goal.column_indices-requires
column_indices-requires c =
    (length-take-le _ (replicate max_columns 0) c.column_words-columns.ensures.few, omega (arith, c.requires.0.few))

pub widen_rows-requires : goal.widen_rows-requires
widen_rows-requires c =
    let all = c.args.all.now in (
      c.requires.0,
      c.column_indices.ensures
          ∙ ap (λ (l : List ℕ). indices_in all (map id_of l)) c.column_words-columns.ensures.words ∙ indices_ordered all (image_ids c.args.image.words.now) c.requires.0.differ,
      c.requires.1,
    )
