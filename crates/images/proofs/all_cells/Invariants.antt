-- Whether every word passed may stand as one of the cells.
use Rattle.std.proofs.Common.{◌≡◌, take}
use Rattle.definitions.specs.Lists.{all}
use Rattle.definitions.specs.Word.{is_cell}
use Rattle.images.proofs.all_cells.Given as goal

abbrev pub invariant-loop-word : goal.invariant-loop-word
invariant-loop-word l = l.fit ≡ all is_cell (take l.word-index l.w)
