-- `any` of the library asks each column word in turn.
use mathlib.Core.Path.{◌∙◌}
use borrow.Author.Rules.{rules}
use borrow.Author.Tests.{tests}
use Rattle.std.proofs.lemmas.Iterator.{YieldsList-from_slice}
use Rattle.std.proofs.lemmas.Iterator.Search.{any_from_yields_List}
use Rattle.definitions.specs.Word.{mark_of}
use Rattle.lists.proofs.Chains.{any_is}
use Rattle.fusing.proofs.graph.any_marked.Goals as goal

pub returns : goal.returns
returns c =
    any_from_yields_List mark_of _ _ _ c.any.ensures.ran (YieldsList-from_slice c.args.column_words.now cc) (λ x b q k. search (rules, tests))
    ∙ any_is mark_of c.args.column_words.now
