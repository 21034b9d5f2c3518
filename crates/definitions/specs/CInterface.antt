-- The answer of a call as the C interface gives it: the number is returned, and nine words are put into the answer buffer.
use Rattle.std.specs.Prelude.{◌≡◌, ℕ, List, [], ◌∷◌, ◌++◌, length, take, drop}
use Rattle.definitions.specs.Answer.{Outcome, done, refused}

-- the number of the refusal, 0 for done
abbrev pub number_of : Outcome → ℕ
number_of (done values) = 0
number_of (refused number table) = number

-- number and table, and no values
abbrev pub refusal_words : ℕ → ℕ → List ℕ
refusal_words number table = number ∷ table ∷ 0 ∷ 0 ∷ 0 ∷ 0 ∷ 0 ∷ 0 ∷ 0 ∷ []

-- number, table, rows, words, filled cells, pairs tried, sets, words of the set list, and a word for what a request adds;
-- `fill` puts a call's values into the last seven
abbrev pub answer_words : (List ℕ → List ℕ) → Outcome → List ℕ
answer_words fill (done values) = 0 ∷ 0 ∷ fill values
answer_words fill (refused number table) = refusal_words number table

-- rows, words and filled cells
abbrev pub outer_words : Outcome → List ℕ
outer_words = answer_words (λ values. values ++ 0 ∷ 0 ∷ 0 ∷ 0 ∷ [])

-- rows, words, filled cells and pairs tried
abbrev pub minimum_words : Outcome → List ℕ
minimum_words = answer_words (λ values. values ++ 0 ∷ 0 ∷ 0 ∷ [])

-- rows, words and filled cells, no pairs tried, sets and words of the set list
abbrev pub complement_words : Outcome → List ℕ
complement_words = answer_words (λ values. take 3 values ++ 0 ∷ drop 3 values ++ 0 ∷ [])

-- request A1: no rows, the words written, no filled cells and no pairs tried, the sets
abbrev pub list_words : Outcome → List ℕ
list_words = answer_words (λ values. 0 ∷ drop 1 values ++ 0 ∷ 0 ∷ take 1 values ++ 0 ∷ 0 ∷ [])

-- request A3: none of these, and in the last word the pages
abbrev pub page_words : Outcome → List ℕ
page_words = answer_words (λ values. 0 ∷ 0 ∷ 0 ∷ 0 ∷ 0 ∷ 0 ∷ values)

-- a buffer with the words over its front, as far as they fit: the rest is as found
abbrev pub put_over : List ℕ → List ℕ → List ℕ
put_over words found = take (length found) words ++ drop (length words) found

-- what a C function promises: what the call promises of an answer, that answer's number, and its words in the answer buffer.
-- A promise of a call holds of one answer alone: its field `answers` says which.
pub record Answered (P : Outcome → Type 0) (words : Outcome → List ℕ) (found : List ℕ) (r : ℕ) (after : List ℕ) : Type 0 where
  pub answer : Outcome
  pub promise : P answer
  pub returns : r ≡ number_of answer
  pub puts : after ≡ put_over (words answer) found
