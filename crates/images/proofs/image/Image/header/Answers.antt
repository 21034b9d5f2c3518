-- The header is there.
use Rattle.definitions.proofs.Questions.{passed_is}
use Rattle.images.proofs.image.Image.header.Goals as goal

pub bounds-self-0 : goal.bounds-self-0
bounds-self-0 g c = ((passed_is _ c.args.self.words.now).0 c.args.self.accepted).first_word
