-- The column words are within the image.
use native.Mathlib.Omega.{arith}
use Rattle.definitions.proofs.Questions.{passed_is}
use Rattle.images.proofs.image.Image.column_words.Goals as goal

pub slice_bounds-result-end : goal.slice_bounds-result-end
slice_bounds-result-end g c =
    let p = (passed_is _ c.args.self.words.now).0 c.args.self.accepted in
    omega (arith, p.all_words, c.columns-end.ensures.count)
