-- What the methods of a writer ask for and promise.
use Rattle.std.specs.Prelude.{◌≡◌, List, ℕ}
use Rattle.lists.specs.Written.{Fits, Written}
use Rattle.text.specs.declared.Writer.{Writer}

-- there is room for a text behind what is written
pub record HasRoom (w : Writer) (text : List ℕ) : Type 0 where
  pub fits : Fits w.bytes.now w.length text

-- a text was written behind what was written before, into the same bytes
pub record Wrote (before : Writer) (text : List ℕ) (after : Writer) : Type 0 where
  pub same : after.bytes.ghost_name ≡ before.bytes.ghost_name
  pub written : Written before.bytes.now before.length text after.bytes.now after.length
