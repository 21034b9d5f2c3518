-- What is put into the answer buffer, and returned.
use Rattle.std.specs.Prelude.{◌≡◌, List, [], ◌∷◌, ℕ, ◌<◌, ◌^◌, get_or}
use Rattle.definitions.specs.Answer.{Outcome, done, refused}
use Rattle.definitions.specs.CInterface.{put_over}

-- each number of the list is a word of 32 bits
abbrev pub FitWords : List ℕ → Type 0
FitWords [] = Unit {0}
FitWords (x ∷ l) = (x < 2 ^ 32) × FitWords l

-- the values of an answer do, if it is done
abbrev pub CountsFit : Outcome → Type 0
CountsFit (done values) = FitWords values
CountsFit (refused number table) = Unit {0}

-- the words stand over the front of the buffer, as far as they fit, and the first of them is returned
pub record PutWords (words found : List ℕ) (r : ℕ) (after : List ℕ) : Type 0 where
  pub first : r ≡ get_or words 0 0
  pub puts : after ≡ put_over words found
