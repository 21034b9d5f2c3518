-- What the functions of a program's text know of the words that the three calls leave in lent buffers.
use Rattle.std.specs.Prelude.{◌≡◌, List, ◌++◌, ℕ, ◌+◌, ◌*◌, ◌≤◌, length, take, Result}
use Rattle.definitions.specs.declared.answers.ComplementCounts.{ComplementCounts}
use Rattle.definitions.specs.declared.refusal.Refusal.{Refusal}
use Rattle.definitions.specs.Limits.{set_width}
use Rattle.definitions.specs.Answer.{done, complement_says}
use Rattle.definitions.specs.Calls.{complement_outcome}
use Rattle.definitions.specs.Promise.{ComplementPromise}
use Rattle.definitions.specs.Listing.{sets_title, fused_title}
use Rattle.definitions.specs.Program.{words_of, lent_table, lent_sets, sets_text, fused_text}
use Rattle.listing.specs.Lines.{HasRows, table_lines, list_lines}
use Rattle.text.specs.declared.Writer.{Writer}
use Rattle.text.specs.Writer.{HasRoom}

-- the first n words are those of the bytes
pub record Decoded (bytes words : List ℕ) (n : ℕ) : Type 0 where
  pub within : n ≤ length words
  pub holds : take n words ≡ words_of bytes

-- complement union of the pair is done
pub record IsDone (a b : List ℕ) : Type 0 where
  pub values : List ℕ
  pub outcome : complement_outcome a b lent_table lent_sets ≡ done values

-- what a section of the listing asks for: complement union of the pair is done, a table is lent to a call,
-- and there is room for the section's text
pub record Section (a b table : List ℕ) (out : Writer) (text : List ℕ) : Type 0 where
  pub is_done : IsDone a b
  pub table_words : length table ≡ lent_table
  pub room : HasRoom out text

-- complement union of the pair has answered this, and left these words in buffers that are lent as a program does
pub record FusedAnswer (a b : List ℕ) (answer : Result ComplementCounts Refusal) (fused sets : List ℕ) : Type 0 where
  pub found_table : List ℕ
  pub found_sets : List ℕ
  pub table_words : length found_table ≡ lent_table
  pub set_words : length found_sets ≡ lent_sets
  pub promise : ComplementPromise a b found_table found_sets (complement_says answer) fused sets

-- complement union of the pair is done with these counts, and these are its fused table and its set list
pub record FusedWords (a b fused sets : List ℕ) (counts : ComplementCounts) : Type 0 where
  pub is_done : IsDone a b
  pub table_within : HasRows fused counts.rows
  pub table_text : fused_title counts.rows counts.filled ++ table_lines fused counts.rows ≡ fused_text a b
  pub list_within : 1 + counts.sets * set_width ≤ length sets
  pub list_text : sets_title counts.sets ++ list_lines sets counts.sets ≡ sets_text a b
