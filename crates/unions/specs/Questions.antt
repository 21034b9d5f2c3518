-- What the questions 1 to 8 have told of a pair of images, and 10 and 11 of the lent buffers.
use Rattle.std.specs.Prelude.{◌≡◌, List, ℕ, ◌≤◌, leb, Result, Ok, ⊤}
use Rattle.definitions.specs.declared.refusal.Refusal.{Refusal}
use Rattle.definitions.specs.Answer.{Outcome, unless, no, or_refused}
use Rattle.definitions.specs.Calls.{pair_outcome}
use Rattle.tables.specs.declared.union.Pair.{Pair}

-- the first question answered no, or an accepted pair
pub record Checked (a b : List ℕ) (r : Result Pair Refusal) : Type 0 where
  pub says : (rest : Outcome) → pair_outcome a b rest ≡ or_refused r rest
  pub lends : (pair : Pair) → r ≡ Ok pair → (pair.first.words.now ≡ a) × (pair.second.words.now ≡ b)

-- the first of 10 and 11 answered no, for so many words and so much room, or room for both
pub record Roomy (words room words_of_sets sets_room : ℕ) (r : Result ⊤ Refusal) : Type 0 where
  pub says : (rest : Outcome)
      → unless (no (leb words room) 10) 2 (unless (no (leb words_of_sets sets_room) 11) 2 rest) ≡ or_refused r rest
  pub fits : (u : ⊤) → r ≡ Ok u → (words ≤ room) × (words_of_sets ≤ sets_room)
