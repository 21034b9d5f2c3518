-- What `fuse_text`, and `output_text` for each program, promise of their answer and of each byte of their buffer, whatever the two
-- files hold: by the text, which is `fuse_text` or `whole_output` of the files' bytes.
use Rattle.std.specs.Prelude.{◌≡◌, cond, List, ◌++◌, ℕ, leb, length, drop, Option, Some, None}
use Rattle.definitions.specs.Program.{max_text}

-- the length of the text, or none where a buffer of so many bytes is shorter than the longest text
abbrev pub text_answer : List ℕ → ℕ → Option ℕ
text_answer text room = cond (leb max_text room) (Some (length text)) None

-- the text and then what was found behind it; a buffer that is too short stays as it is
abbrev pub text_after : List ℕ → List ℕ → List ℕ
text_after text found = cond (leb max_text (length found)) (text ++ drop (length text) found) found

pub record TextPromise (text found : List ℕ) (answer : Option ℕ) (after : List ℕ) : Type 0 where
  pub answers : answer ≡ text_answer text (length found)
  pub writes : after ≡ text_after text found
