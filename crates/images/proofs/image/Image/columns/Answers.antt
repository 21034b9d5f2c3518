-- The header says that the columns are few.
use native.Mathlib.Omega.{arith}
use Rattle.definitions.proofs.Questions.{passed_is}
use Rattle.images.proofs.image.Image.columns.Goals as goal

pub returns-clause-few : goal.returns-clause-few
returns-clause-few g c =
    let few = ((passed_is _ c.args.self.words.now).0 c.args.self.accepted).few_columns in
    omega (arith, c.columns.ensures)
