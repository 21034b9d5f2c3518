-- The header and then the column words are the head.
use mathlib.Core.Path.{refl, ◌∙◌, ap}
use mathlib.Core.List.{◌∷◌}
use Prim.Native.Nat.{ℕ, ◌+◌}
use lib.ListN.{length}
use lib.Seq.{paste}
use Rattle.images.proofs.Writing.{head_written}
use Rattle.images.proofs.write.write_head.Goals as goal

pub returns : goal.returns
returns c =
    let s = c.args in
    let w = s.column_words.now in
    head_written s.buffer.now _ _ w _ c.requires.0 refl c.write_over.ensures
    ∙ ap (λ (h : ℕ). paste s.buffer.now 0 (h ∷ w) (1 + length w)) c.header_word.ensures
