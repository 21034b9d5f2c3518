-- Document 01, "The questions a call goes through", and the requests' checks: the number of each question, and of a table.
use Rattle.std.specs.Prelude.{ℕ, Result, Ok, Err}
use Rattle.definitions.specs.declared.refusal.Question.{Question}
use Rattle.definitions.specs.declared.refusal.Question.TheVariants as question
use Rattle.definitions.specs.declared.refusal.Subject.{Subject}
use Rattle.definitions.specs.declared.refusal.Subject.TheVariants as subject
use Rattle.definitions.specs.declared.refusal.Refusal.{Refusal}

-- "In order; the first no gives its number."
abbrev pub question_number : Question → ℕ
question_number question.Header = 1
question_number question.Columns = 2
question_number question.Rows = 3
question_number question.Length = 4
question_number question.ColumnWords = 5
question_number question.Ids = 6
question_number question.Cells = 7
question_number question.UnionColumns = 8
question_number question.Sets = 9
question_number question.TableRoom = 10
question_number question.SetRoom = 11
-- request A1: 12, 13 and 14
question_number question.ListLayout = 12
question_number question.Records = 13
question_number question.SetOrder = 14
-- request A3: 15 and 16
question_number question.Page = 15
question_number question.PageRoom = 16

-- "the table (0 first or only, 1 second, 2 for all numbers from 8)"
abbrev pub table_number : Subject → ℕ
table_number subject.First = 0
table_number subject.Second = 1
table_number subject.Both = 2

-- a no to a question that is put to this table
abbrev pub put_to : Subject → Question → Refusal
put_to s q = record { question = q; subject = s }

-- the number of the question that is answered no, 0 where none is
abbrev pub number_said : {A : Type 0} → Result A Question → ℕ
number_said (Ok a) = 0
number_said (Err q) = question_number q
