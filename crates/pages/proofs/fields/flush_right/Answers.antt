-- The text of the value, flushed right.
use Rattle.std.proofs.Common.{ap, ◌∙◌}
use Rattle.definitions.specs.Page.{flush_right}
use Rattle.text.proofs.Writing.{wrote_as, new_text}
use Rattle.pages.proofs.fields.flush_right.Goals as goal

pub returns : goal.returns
returns g c =
    let made = c.new-field.ensures in
    wrote_as (ap (flush_right c.args.width) (c.written.ensures ∙ new_text made.found made.nothing c.put.ensures)) c.flush_right.ensures
