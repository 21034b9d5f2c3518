-- The header says that the rows are few.
use native.Mathlib.Omega.{arith}
use Rattle.definitions.proofs.Questions.{passed_is}
use Rattle.images.proofs.image.Image.rows.Goals as goal

pub returns-clause-few : goal.returns-clause-few
returns-clause-few g c =
    let few = ((passed_is _ c.args.self.words.now).0 c.args.self.accepted).few_rows in
    omega (arith, c.rows.ensures)
