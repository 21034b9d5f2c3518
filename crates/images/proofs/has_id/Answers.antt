-- `any` of the library asks each word in turn.
use mathlib.Core.Path.{◌∙◌}
use borrow.Author.Rules.{rules}
use borrow.Author.Tests.{tests}
use lib.Dec.{eqb}
use Rattle.std.proofs.lemmas.Iterator.{YieldsList-from_slice}
use Rattle.std.proofs.lemmas.Iterator.Search.{any_from_yields_List}
use Rattle.definitions.specs.Word.{id_of}
use Rattle.lists.proofs.Chains.{any_is, any_map}
use Rattle.images.proofs.has_id.Goals as goal

pub returns : goal.returns
returns c =
    let id = c.args.id in
    any_from_yields_List (λ w. eqb id (id_of w)) _ _ _ c.any.ensures.ran (YieldsList-from_slice c.args.w.now cc) (λ x b q k. search (rules, tests))
    ∙ any_is (λ w. eqb id (id_of w)) c.args.w.now ∙ any_map (eqb id) id_of c.args.w.now
