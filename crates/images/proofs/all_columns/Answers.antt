-- `all` of the library asks each word in turn.
use mathlib.Core.Path.{◌∙◌}
use borrow.Author.Rules.{rules}
use borrow.Author.Tests.{tests}
use Rattle.std.proofs.lemmas.Iterator.{YieldsList-from_slice}
use Rattle.std.proofs.lemmas.Iterator.Search.{all_from_yields_List}
use Rattle.definitions.specs.Image.{is_column}
use Rattle.lists.proofs.Chains.{all_is}
use Rattle.images.proofs.all_columns.Goals as goal

pub returns : goal.returns
returns c =
    all_from_yields_List is_column _ _ _ c.all.ensures.ran (YieldsList-from_slice c.args.w.now cc) (λ x b q k. search (rules, tests))
    ∙ all_is is_column c.args.w.now
