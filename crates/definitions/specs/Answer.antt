-- Document 01, "The questions a call goes through": answers, and what a lent buffer holds afterwards.
use Rattle.std.specs.Prelude.{ℕ, zero, suc, Bool, true, false, List, [], ◌∷◌, ◌++◌, length, drop, Result, Ok, Err}
use Rattle.definitions.specs.declared.answers.OuterCounts.{OuterCounts}
use Rattle.definitions.specs.declared.answers.MinimumCounts.{MinimumCounts}
use Rattle.definitions.specs.declared.answers.ComplementCounts.{ComplementCounts}
use Rattle.definitions.specs.declared.refusal.Refusal.{Refusal}
use Rattle.definitions.specs.declared.answers.ReadingCounts.{ReadingCounts}
use Rattle.definitions.specs.Refusal.{question_number, table_number}

-- an answer of this paper: done with its values, or a refusal with its number and table
pub data Outcome : Type 0 where
  done : List ℕ → Outcome
  refused : ℕ → ℕ → Outcome

-- what each case of an answer says, where `values` are those of a done call
abbrev pub says : {A : Type 0} → (A → List ℕ) → Result A Refusal → Outcome
says values (Ok a) = done (values a)
says values (Err r) = refused (question_number r.question) (table_number r.subject)

-- a part of a call refuses it, or the rest goes on
abbrev pub or_refused : {A : Type 0} → Result A Refusal → Outcome → Outcome
or_refused (Ok a) rest = rest
or_refused (Err r) rest = refused (question_number r.question) (table_number r.subject)

-- "A done answer carries rows, words written and filled cells of the result;"
abbrev pub outer_says : Result OuterCounts Refusal → Outcome
outer_says = says (λ o. o.rows ∷ o.words ∷ o.filled ∷ [])

-- "minimum union adds pairs tried,"
abbrev pub minimum_says : Result MinimumCounts Refusal → Outcome
minimum_says = says (λ m. m.rows ∷ m.words ∷ m.filled ∷ m.pairs ∷ [])

-- "complement union the number of sets and the words of the set list."
abbrev pub complement_says : Result ComplementCounts Refusal → Outcome
complement_says = says (λ c. c.rows ∷ c.words ∷ c.filled ∷ c.sets ∷ c.set_words ∷ [])

-- request A1: "the done answer carries the sets and the words written"
abbrev pub read_says : Result ReadingCounts Refusal → Outcome
read_says = says (λ r. r.sets ∷ r.words ∷ [])

-- request A3: "a done answer carries how many there are"
abbrev pub page_says : Result ℕ Refusal → Outcome
page_says = says (λ pages. pages ∷ [])

-- a number is a refusal with its table, 0 goes on
abbrev pub unless : ℕ → ℕ → Outcome → Outcome
unless zero table rest = rest
unless (suc number) table rest = refused (suc number) table

-- the number of a question that is answered no, 0 for a yes
abbrev pub no : Bool → ℕ → ℕ
no true number = 0
no false number = number

-- "Words past the written ones stay as found." A refusal "changes no buffer".
abbrev pub afterwards : Outcome → List ℕ → List ℕ → List ℕ
afterwards (done values) result found = result ++ drop (length result) found
afterwards (refused number table) result found = found
