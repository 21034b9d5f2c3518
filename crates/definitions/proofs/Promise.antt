-- Over the promises of the calls: the words that complement union's equations name meet demand 3, and two calls with the
-- same T, columns and room get the same. Assumes nothing.
use mathlib.Core.Path.{◌≡◌, refl, sym, ◌∙◌, ap, ap₂, subst}
use mathlib.Core.Bool.{Bool, cond}
use lib.Dec.{eqb}
use mathlib.Core.List.{List, [], ◌∷◌, ◌++◌, flatten}
use Prim.Native.Nat.{ℕ, ◌<◌}
use native.Mathlib.Omega.{arith}
use lib.ListN.{length, get_or, take, drop}
use lib.Seq.{take_at, drop_at}
use Rattle.std.proofs.Common.{Result, Ok, Err}
use Rattle.definitions.specs.declared.answers.ComplementCounts.{ComplementCounts}
use Rattle.definitions.specs.declared.refusal.Question.{Question}
use Rattle.definitions.specs.declared.refusal.Question.TheVariants as question
use Rattle.definitions.specs.declared.refusal.Subject.{Subject}
use Rattle.definitions.specs.declared.refusal.Subject.TheVariants as subject
use Rattle.definitions.specs.declared.refusal.Refusal.{Refusal}
use Rattle.definitions.specs.Refusal.{question_number, table_number}
use Rattle.definitions.specs.Image.{image_of, image_rows}
use Rattle.definitions.specs.OuterUnion.{compare_row, union_columns, union_rows}
use Rattle.definitions.specs.MinimumUnion.{filled, minimum_rows, pairs_tried}
use Rattle.definitions.specs.ComplementUnion.{compare_set, joined, union_sets, fused_rows}
use Rattle.definitions.specs.SetList.{fused_position, set_list}
use Rattle.definitions.specs.Answer.{Outcome, done, refused, complement_says, afterwards}
use Rattle.definitions.specs.Calls.{Accepted, outer_image, minimum_image, fused_image, complement_outcome}
use Rattle.definitions.specs.Reading.{set_count}
use Rattle.definitions.specs.Statements.{Member, StrictlyAscending}
use Rattle.definitions.specs.Demand3.{listed_sets, position_at, Demand3, MeetsDemand3, words_of_table, words_of_sets}
use Rattle.definitions.specs.Promise.{BufferPromise, OuterPromise, MinimumPromise, ComplementPromise, SameCalls}
use Rattle.definitions.specs.Claims.{TableDone, ComplementDone}
use Rattle.definitions.proofs.Lists.{member-get}
use Rattle.definitions.proofs.Counts.{fused_count}
use Rattle.definitions.proofs.Unions.{rows_even, fused_even}
use Rattle.definitions.proofs.UnionColumns.{columns_narrow}
use Rattle.definitions.proofs.Outcomes.{accepted_on, outer_done, minimum_done, complement_done}
use Rattle.definitions.proofs.Images.{image_rows_front, accepted_rows}
use Rattle.definitions.proofs.Reading.{count_read, sets_read, positions_at}
use Rattle.definitions.proofs.Demand3.{listed_exactly, listed_once, listed_with_row, fused_exactly, fused_once}
use Rattle.definitions.proofs.Demand3.{every_row, every_minimum_row}

-- ---- demand 3 from what is read

module _ (a b table sets : List ℕ) (rows : image_rows table ≡ fused_rows (union_columns a b) (union_rows a b))
    (listed : listed_sets (union_rows a b) sets ≡ union_sets (union_columns a b) (union_rows a b))
    (count : set_count sets ≡ length (union_sets (union_columns a b) (union_rows a b)))
    (positions : (k : ℕ) → k < length (union_sets (union_columns a b) (union_rows a b))
    → position_at sets k ≡ fused_position (union_columns a b) (union_rows a b) (get_or (union_sets (union_columns a b) (union_rows a b)) k [])) where
  abbrev columns : List ℕ
  columns = union_columns a b

  abbrev T : List (List ℕ)
  T = union_rows a b

  to_listed : (s : List Bool) → Member s (union_sets columns T) → Member s (listed_sets T sets)
  to_listed s = subst (λ (l : List (List Bool)). Member s l) (sym listed)

  to_sets : (s : List Bool) → Member s (listed_sets T sets) → Member s (union_sets columns T)
  to_sets s = subst (λ (l : List (List Bool)). Member s l) listed

  to_table : (r : List ℕ) → Member r (fused_rows columns T) → Member r (image_rows table)
  to_table r = subst (λ (l : List (List ℕ)). Member r l) (sym rows)

  to_rows : (r : List ℕ) → Member r (image_rows table) → Member r (fused_rows columns T)
  to_rows r = subst (λ (l : List (List ℕ)). Member r l) rows

  read_demand : Demand3 columns T table sets
  read_demand = record {
    exactly = λ s. let i = listed_exactly a b s in (λ h. i.0 (to_sets s h), λ m. to_listed s (i.1 m));
    once_in_order = subst (λ (l : List (List Bool)). StrictlyAscending compare_set l) (sym listed) (listed_once a b);
    with_its_row = λ k h.
        let g : k < length (union_sets columns T) = subst (λ (n : ℕ). k < n) count h in
        let i = listed_with_row a b (get_or (union_sets columns T) k []) (member-get [] (union_sets columns T) k g) in
        let p = positions k g in (
          subst (λ (l : List (List ℕ)). position_at sets k < length l) (sym rows)
              (subst (λ (q : ℕ). q < length (fused_rows columns T)) (sym p) i.0),
          ap₂ (λ (l : List (List ℕ)) (q : ℕ). get_or l q []) rows p ∙ i.1
              ∙ ap (λ (l : List (List Bool)). joined T (get_or l k [])) (sym listed),
        );
    all_joined_rows = λ r.
        let i = fused_exactly a b r in (
          λ h. let j = i.0 (to_rows r h) in (j.0, to_listed j.0 j.1, j.2),
          λ j. to_table r (i.1 (j.0, to_sets j.0 j.1, j.2)),
        );
    rows_once = subst (λ (l : List (List ℕ)). StrictlyAscending compare_row l) (sym rows) (fused_once a b);
    every_row = λ t h. let i = every_row a b t h in (i.0, to_table i.0 i.1, i.2);
    every_minimum_row = λ t h. let i = every_minimum_row a b t h in (i.0, to_table i.0 i.1, i.2);
  }

-- a fused table and a set list at the front of the buffers
module _ (a b rest rest_sets : List ℕ) (room sets_room : ℕ) (values : List ℕ) (d : ComplementDone a b room sets_room values) where
  table_read : image_rows (fused_image a b ++ rest) ≡ fused_rows (union_columns a b) (union_rows a b)
  unfolding fused_image
  table_read =
      image_rows_front (union_columns a b) (fused_rows (union_columns a b) (union_rows a b)) (columns_narrow a b d.accepted) rest
      (omega (arith, d.few_sets, fused_count (union_columns a b) (union_rows a b)))
      (fused_even (union_columns a b) (union_rows a b) (length (union_columns a b)) (rows_even a b))

  written_demand : Demand3 (union_columns a b) (union_rows a b) (fused_image a b ++ rest) (set_list (union_columns a b) (union_rows a b) ++ rest_sets)
  written_demand =
      let columns = union_columns a b in
      let t = union_rows a b in
      read_demand a b (fused_image a b ++ rest) (set_list columns t ++ rest_sets) table_read
      (sets_read columns t rest_sets d.few_sets (accepted_rows a b d.accepted))
      (count_read columns t rest_sets d.few_sets)
      (positions_at columns t rest_sets d.few_sets)

-- ---- the equations of the promise give its demand

module _ (a b table sets : List ℕ) (answer : Outcome) (table_after sets_after : List ℕ)
    (answers : answer ≡ complement_outcome a b (length table) (length sets))
    (writes : table_after ≡ afterwards answer (fused_image a b) table)
    (lists : sets_after ≡ afterwards answer (set_list (union_columns a b) (union_rows a b)) sets) where
  meets_demand : MeetsDemand3 answer a b table_after sets_after
  unfolding MeetsDemand3
  meets_demand = λ values e.
      let image = fused_image a b in
      let list = set_list (union_columns a b) (union_rows a b) in
      let t : table_after ≡ image ++ drop (length image) table = writes ∙ ap (λ (o : Outcome). afterwards o image table) e in
      let s : sets_after ≡ list ++ drop (length list) sets = lists ∙ ap (λ (o : Outcome). afterwards o list sets) e in
      subst (λ (x : List ℕ). Demand3 (union_columns a b) (union_rows a b) x sets_after) (sym t)
      (subst (λ (x : List ℕ). Demand3 (union_columns a b) (union_rows a b) (image ++ drop (length image) table) x) (sym s)
      (written_demand a b (drop (length image) table) (drop (length list) sets) (length table) (length sets) values
      ((complement_done a b (length table) (length sets) values).0 (sym answers ∙ e))))

  pub complement_promised : ComplementPromise a b table sets answer table_after sets_after
  complement_promised = record { answers = answers; writes = writes; lists = lists; demand = meets_demand }

-- ---- the words that a call has written, and those past them

-- the words of a result that an answer writes: all, or on a refusal none
abbrev pub written_words : Outcome → List ℕ → List ℕ
written_words (done values) result = result
written_words (refused number table) result = []

-- a buffer begins with the written words, and has past them what was found there
module _ (answer : Outcome) (result found after : List ℕ) (w : after ≡ afterwards answer result found) (n : ℕ)
    (size : length (written_words answer result) ≡ n) where
  parts : after ≡ written_words answer result ++ drop (length (written_words answer result)) found
  parts = w ∙ apart answer
    where
      apart : (o : Outcome) → afterwards o result found ≡ written_words o result ++ drop (length (written_words o result)) found
      apart (done values) = refl
      apart (refused number table) = refl

  front : take n after ≡ written_words answer result
  front = ap (take n) parts ∙ take_at (written_words answer result) _ n size

  past : drop n after ≡ drop n found
  past = ap (drop n) parts ∙ drop_at (written_words answer result) _ n size ∙ ap (λ (k : ℕ). drop k found) size

-- the counts that an answer of complement union carries
table_count : (a b : List ℕ) (room sets_room : ℕ) (x : Outcome) → x ≡ complement_outcome a b room sets_room
    → length (written_words x (fused_image a b)) ≡ words_of_table x
unfolding fused_image
table_count a b room sets_room (done values) e =
    sym (ap (λ (l : List ℕ). get_or l 1 0) ((complement_done a b room sets_room values).0 (sym e)).carries)
table_count a b room sets_room (refused number table) e = refl

set_count_lem : (a b : List ℕ) (room sets_room : ℕ) (x : Outcome) → x ≡ complement_outcome a b room sets_room
    → length (written_words x (set_list (union_columns a b) (union_rows a b))) ≡ words_of_sets x
set_count_lem a b room sets_room (done values) e =
    sym (ap (λ (l : List ℕ). get_or l 4 0) ((complement_done a b room sets_room values).0 (sym e)).carries)
set_count_lem a b room sets_room (refused number table) e = refl

module _ {a b table sets : List ℕ} {answer : Outcome} {table_after sets_after : List ℕ}
    (p : ComplementPromise a b table sets answer table_after sets_after) where
  table_size : length (written_words answer (fused_image a b)) ≡ words_of_table answer
  table_size = table_count a b (length table) (length sets) answer p.answers

  set_size : length (written_words answer (set_list (union_columns a b) (union_rows a b))) ≡ words_of_sets answer
  set_size = set_count_lem a b (length table) (length sets) answer p.answers

  pub table_front : take (words_of_table answer) table_after ≡ written_words answer (fused_image a b)
  table_front = front answer (fused_image a b) table table_after p.writes (words_of_table answer) table_size

  pub set_front : take (words_of_sets answer) sets_after ≡ written_words answer (set_list (union_columns a b) (union_rows a b))
  set_front = front answer (set_list (union_columns a b) (union_rows a b)) sets sets_after p.lists (words_of_sets answer) set_size

  -- "Words past the written ones stay as found."
  pub table_past : drop (words_of_table answer) table_after ≡ drop (words_of_table answer) table
  table_past = past answer (fused_image a b) table table_after p.writes (words_of_table answer) table_size

  pub sets_past : drop (words_of_sets answer) sets_after ≡ drop (words_of_sets answer) sets
  sets_past = past answer (set_list (union_columns a b) (union_rows a b)) sets sets_after p.lists (words_of_sets answer) set_size

-- ---- demand 3, last sentence

-- "Any other accepted pair with the same union columns and the same T,"
module _ (a b c d : List ℕ) (ab : Accepted a b) (cd : Accepted c d) (columns : union_columns a b ≡ union_columns c d)
    (rows : union_rows a b ≡ union_rows c d) where
  same_image : fused_image a b ≡ fused_image c d
  unfolding fused_image
  same_image = ap₂ (λ (l : List ℕ) (t : List (List ℕ)). image_of l (fused_rows l t)) columns rows

  same_outcome : (room sets_room : ℕ) → complement_outcome a b room sets_room ≡ complement_outcome c d room sets_room
  unfolding complement_outcome
  same_outcome room sets_room = accepted_on a b _ ab ∙ rw (columns, rows) (sym (accepted_on c d _ cd))

pub same_calls : SameCalls
same_calls a b c d ab cd columns rows table₁ table₂ sets₁ sets₂ room sets_room x y table_after₁ table_after₂ sets_after₁ sets_after₂ p q =
    let outcome = same_outcome a b c d ab cd columns rows (length table₁) (length sets₁) in
    let e : x ≡ y = p.answers ∙ outcome ∙ ap₂ (complement_outcome c d) room sets_room ∙ sym q.answers in
    record {
      answer = e;
      table_words = table_front p ∙ ap₂ written_words e (same_image a b c d ab cd columns rows) ∙ sym (table_front q);
      set_words = set_front p ∙ ap₂ written_words e (ap₂ set_list columns rows) ∙ sym (set_front q);
    }

-- a question by its number, and a table by its number
abbrev question_of : ℕ → Question
question_of n =
    (cond (eqb n 1) question.Header
    (cond (eqb n 2) question.Columns
    (cond (eqb n 3) question.Rows
    (cond (eqb n 4) question.Length
    (cond (eqb n 5) question.ColumnWords
    (cond (eqb n 6) question.Ids
    (cond (eqb n 7) question.Cells
    (cond (eqb n 8) question.UnionColumns
    (cond (eqb n 9) question.Sets
    (cond (eqb n 10) question.TableRoom
    (cond (eqb n 11) question.SetRoom
    (cond (eqb n 12) question.ListLayout
    (cond (eqb n 13) question.Records
    (cond (eqb n 14) question.SetOrder
    (cond (eqb n 15) question.Page
    question.PageRoom)))))))))))))))

question_back : (q : Question) → question_of (question_number q) ≡ q
question_back question.Header = refl
question_back question.Columns = refl
question_back question.Rows = refl
question_back question.Length = refl
question_back question.ColumnWords = refl
question_back question.Ids = refl
question_back question.Cells = refl
question_back question.UnionColumns = refl
question_back question.Sets = refl
question_back question.TableRoom = refl
question_back question.SetRoom = refl
question_back question.ListLayout = refl
question_back question.Records = refl
question_back question.SetOrder = refl
question_back question.Page = refl
question_back question.PageRoom = refl

abbrev subject_of : ℕ → Subject
subject_of n = cond (eqb n 0) subject.First (cond (eqb n 1) subject.Second subject.Both)

subject_back : (s : Subject) → subject_of (table_number s) ≡ s
subject_back subject.First = refl
subject_back subject.Second = refl
subject_back subject.Both = refl

-- the answer of complement union that says this
abbrev answer_of : Outcome → Result ComplementCounts Refusal
answer_of (done values) = Ok (record {
  rows = get_or values 0 0;
  words = get_or values 1 0;
  filled = get_or values 2 0;
  sets = get_or values 3 0;
  set_words = get_or values 4 0;
})
answer_of (refused number table) = Err (record { question = question_of number; subject = subject_of table })

answer_back : (x : Result ComplementCounts Refusal) → answer_of (complement_says x) ≡ x
answer_back (Ok c) = refl
answer_back (Err r) = ap₂ (λ (q : Question) (t : Subject). Err (record { question = q; subject = t })) (question_back r.question) (subject_back r.subject)

-- answers of complement union that say the same are the same
pub says_same : (x y : Result ComplementCounts Refusal) → complement_says x ≡ complement_says y → x ≡ y
says_same x y e = sym (answer_back x) ∙ ap answer_of e ∙ answer_back y

-- ---- demand 1, over the promises

-- "a refusal changes no word of a lent buffer"
pub refusal_keeps : {outcome : Outcome} {image table table_after : List ℕ} (number k : ℕ)
    → BufferPromise outcome image table (refused number k) table_after → table_after ≡ table
refusal_keeps number k p = p.writes

pub refusal_keeps_both : {a b table sets table_after sets_after : List ℕ} (number k : ℕ)
    → ComplementPromise a b table sets (refused number k) table_after sets_after → (table_after ≡ table) × (sets_after ≡ sets)
refusal_keeps_both number k p = (p.writes, p.lists)

-- "no other call is refused": a done call has had a yes to each question, and carries its counts
pub outer_complete : (a b table table_after values : List ℕ) → OuterPromise a b table (done values) table_after
    → TableDone a b (outer_image a b) (length table)
    (length (union_rows a b) ∷ length (outer_image a b) ∷ filled (flatten (union_rows a b)) ∷ []) values
outer_complete a b table table_after values p = (outer_done a b (length table) values).0 (sym p.answers)

pub minimum_complete : (a b table table_after values : List ℕ) → MinimumPromise a b table (done values) table_after
    → TableDone a b (minimum_image a b) (length table)
    (length (minimum_rows (union_rows a b)) ∷ length (minimum_image a b) ∷ filled (flatten (minimum_rows (union_rows a b)))
    ∷ pairs_tried (union_rows a b) ∷ []) values
minimum_complete a b table table_after values p = (minimum_done a b (length table) values).0 (sym p.answers)

-- the words that a done minimum union wrote are its image
pub minimum_front : (a b table table_after values : List ℕ) → MinimumPromise a b table (done values) table_after
    → take (words_of_table (done values)) table_after ≡ minimum_image a b
minimum_front a b table table_after values p =
    front (done values) (minimum_image a b) table table_after p.writes (words_of_table (done values))
    (sym (ap (λ (l : List ℕ). get_or l 1 0) (minimum_complete a b table table_after values p).carries))

pub complement_complete : {a b table sets table_after sets_after values : List ℕ} → ComplementPromise a b table sets (done values) table_after sets_after
    → ComplementDone a b (length table) (length sets) values
complement_complete {a} {b} {table} {sets} {values = values} p = (complement_done a b (length table) (length sets) values).0 (sym p.answers)
