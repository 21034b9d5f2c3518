-- The lines of the words that the three calls leave in their buffers are the sections of the listing, and the pages of those that
-- complement union leaves are those of the fused table. Assumes nothing.
use mathlib.Core.Path.{◌≡◌, refl, sym, ◌∙◌, ap, ap₂, subst}
use mathlib.Core.Bool.{Bool}
use mathlib.Core.List.{List, [], ◌∷◌, ◌++◌, map, map-map, flatten}
use Prim.Native.Nat.{ℕ, ◌+◌, ◌-◌, ◌*◌, ◌/◌, ◌≤◌}
use native.Mathlib.Omega.{arith}
use lib.ListN.{length, take, drop, length-append, length-drop}
use lib.Seq.{take_at, length-take-le}
use Rattle.std.specs.Prelude.{Result, Ok, Err}
use Rattle.std.specs.Simd.{first_chunks}
use Rattle.definitions.specs.declared.answers.OuterCounts.{OuterCounts}
use Rattle.definitions.specs.declared.answers.MinimumCounts.{MinimumCounts}
use Rattle.definitions.specs.declared.answers.ComplementCounts.{ComplementCounts}
use Rattle.definitions.specs.declared.refusal.Refusal.{Refusal}
use Rattle.definitions.specs.Refusal.{question_number, table_number}
use Rattle.definitions.specs.declared.Output.{Output}
use Rattle.definitions.specs.declared.Output.TheVariants.{Listing, Pages}
use Rattle.definitions.specs.Limits.{set_width, max_union_rows, max_stored_rows}
use Rattle.definitions.specs.Word.{id_of}
use Rattle.definitions.specs.Image.{column_count, column_words, rows_in, image_of}
use Rattle.definitions.specs.OuterUnion.{union_ids, union_columns, union_rows}
use Rattle.definitions.specs.MinimumUnion.{filled, minimum_rows, pairs_tried}
use Rattle.definitions.specs.ComplementUnion.{union_sets, fused_rows}
use Rattle.definitions.specs.SetList.{fused_position, set_record, set_list}
use Rattle.definitions.specs.Answer.{Outcome, done, refused, outer_says, minimum_says, complement_says, afterwards}
use Rattle.definitions.specs.Calls.{outer_image, minimum_image, fused_image, outer_outcome, minimum_outcome, complement_outcome}
use Rattle.definitions.specs.Promise.{OuterPromise, MinimumPromise}
use Rattle.definitions.specs.Reading.{positions_of}
use Rattle.definitions.specs.Listing.{columns_line, union_title, minimum_title, sets_title, fused_title, set_line, refused_line}
use Rattle.definitions.specs.Program.{row_lines, set_lines, lent_table, lent_sets, union_text, minimum_text, sets_text, fused_text, listing}
use Rattle.definitions.specs.Program.{unless_refused, unions_text}
use Rattle.definitions.specs.Outputs.{printed}
use Rattle.definitions.specs.Page.{all_pages}
use Rattle.definitions.specs.Statements.{Member}
use Rattle.definitions.specs.Claims.{Passed, ComplementDone}
use Rattle.definitions.proofs.Lists.{map_ext}
use Rattle.definitions.proofs.Counts.{fused_count, minimum_count, set_list-length}
use Rattle.definitions.proofs.Unions.{rows_even, minimum_even, fused_even}
use Rattle.definitions.proofs.Outcomes.{outer_done, minimum_done, complement_done}
use Rattle.definitions.proofs.Images.{accepted_rows, rows_length}
use Rattle.definitions.proofs.Reading.{positions_read, position_read, records_read, listed_length, listed_position}
use Rattle.definitions.proofs.UnionColumns.{columns_ids, columns_few}
use Rattle.definitions.proofs.TableWords.{Table, columns_front, rows_front, table_front, table_words}
use Rattle.definitions.proofs.FusedPasses.{fused_passes}
use Rattle.lists.proofs.Flat.{rows_local, chunk_rows}
use Rattle.listing.specs.Lines.{HasRows, first_rows, table_lines, union_lines, record_line, records_lines, list_lines}
use Rattle.fuse_body.specs.Parts.{IsDone, FusedAnswer, FusedWords}

-- ---- a table at the front of a buffer

-- its words hold these columns and these rows, n of them
pub record LinesOf (columns : List ℕ) (rows : List (List ℕ)) (n : ℕ) (table : List ℕ) : Type 0 where
  pub within : HasRows table n
  pub words : column_words table ≡ columns
  pub rows_are : first_rows table n ≡ rows

holds : (columns : List ℕ) (rows : List (List ℕ)) (n : ℕ) (table rest : List ℕ) → Table columns rows → n ≡ length rows
    → table ≡ image_of columns rows ++ rest → LinesOf columns rows n table
holds columns rows n table rest t e w =
    subst (λ (k : ℕ). LinesOf columns rows k table) (sym e)
    (subst (λ (x : List ℕ). LinesOf columns rows (length rows) x) (sym w)
    (record {
      within = table_front columns rows t rest;
      words = columns_front columns rows t rest;
      rows_are = rows_front columns rows t rest;
    }))

-- a title and the lines of the same rows
pub table_as : {rows others : List (List ℕ)} {text : List ℕ} (title : List ℕ) → rows ≡ others → title ++ row_lines others ≡ text
    → title ++ row_lines rows ≡ text
table_as title e w = ap (λ (r : List (List ℕ)). title ++ row_lines r) e ∙ w

-- ---- a set list at the front of a buffer

-- the words behind the header, cut into records: their lines are those of the list
module _ (list : List ℕ) (count : ℕ) (h : 1 + count * set_width ≤ length list) where
  abbrev words : List ℕ
  words = take (1 + count * set_width - 1) (drop 1 list)

  within : count * set_width ≤ length (drop 1 list)
  within = omega (arith, length-drop 1 list)

  number : length words / set_width ≡ count
  number =
      let size : 1 + count * set_width - 1 ≡ count * set_width = omega arith in
      rw size (omega (arith, length-take-le (count * set_width) (drop 1 list) within))

  module _ (records : List (List ℕ)) (e : records ≡ first_chunks set_width (length words / set_width) words) where
    records_are : records ≡ rows_in set_width count (drop 1 list)
    records_are =
        e ∙ chunk_rows set_width (length words / set_width) words
        ∙ ap (λ (n : ℕ). rows_in set_width n words) number
        ∙ ap (λ (k : ℕ). rows_in set_width count (take k (drop 1 list))) (omega arith)
        ∙ rows_local set_width count (drop 1 list) within

    records_number : length records ≡ count
    records_number = ap length records_are ∙ rows_length set_width count (drop 1 list)

    pub sets_as : {text : List ℕ} → sets_title count ++ list_lines list count ≡ text → sets_title (length records) ++ records_lines records ≡ text
    sets_as w = ap₂ (λ (n : ℕ) (r : List (List ℕ)). sets_title n ++ records_lines r) records_number records_are ∙ w

-- a done call has left its result
left : (o : Outcome) (values image found table : List ℕ) → done values ≡ o → table ≡ afterwards o image found
    → table ≡ image ++ drop (length image) found
left o values image found table e w = w ∙ ap (λ (x : Outcome). afterwards x image found) (sym e)

module _ (a b : List ℕ) where
  abbrev columns : List ℕ
  columns = union_columns a b

  abbrev T : List (List ℕ)
  T = union_rows a b

  -- ---- T

  -- the words of T: its lines are the first part of the listing
  pub record UnionWords (table : List ℕ) (rows cells : ℕ) : Type 0 where
    pub within : HasRows table rows
    pub text : union_lines (column_words table) (first_rows table rows) cells ≡ union_text a b

  -- the same of words that are lent of the buffer: n columns, and the rows
  pub union_lent : {table : List ℕ} {rows cells : ℕ} {t : List (List ℕ)} (n : ℕ) → UnionWords table rows cells → n ≡ column_count table
      → t ≡ first_rows table rows → union_lines (take (1 + n - 1) (drop 1 table)) t cells ≡ union_text a b
  union_lent {table} {cells = cells} n w e f =
      ap₂ (λ (k : ℕ) (r : List (List ℕ)). union_lines (take k (drop 1 table)) r cells) (omega (arith, e)) f ∙ w.text

  pub union_words : (found table : List ℕ) {answer : Result OuterCounts Refusal} {counts : OuterCounts}
      → OuterPromise a b found (outer_says answer) table → answer ≡ Ok counts → UnionWords table counts.rows counts.filled
  unfolding outer_image union_text
  union_words found table {counts = counts} call is =
      let rows = counts.rows in
      let cells = counts.filled in
      let values : List ℕ = rows ∷ counts.words ∷ cells ∷ [] in
      let said : done values ≡ _ = sym (ap outer_says is) in
      let e : done values ≡ outer_outcome a b (length found) = said ∙ call.answers in
      let d = (outer_done a b (length found) values).0 (sym e) in
      let carries = d.carries in
      let n : rows ≡ length T = cc in
      let m : cells ≡ filled (flatten T) = cc in
      let fits = accepted_rows a b d.accepted in
      let t : Table columns T =
      record { few_columns = columns_few a b d.accepted; few_rows = omega (arith, fits); even = rows_even a b } in
      let h = holds columns T rows table _ t n (left _ values (outer_image a b) found table said call.writes) in
      record {
        within = h.within;
        text = ap₂ (λ (ids : List ℕ) (r : List (List ℕ)). columns_line ids ++ (union_title (length r) cells ++ row_lines r))
            (ap (map id_of) h.words ∙ columns_ids a b) h.rows_are
            ∙ ap (λ (f : ℕ). columns_line (union_ids a b) ++ (union_title (length T) f ++ row_lines T)) m;
      }

  -- ---- the minimum union

  pub record MinimumWords (table : List ℕ) (rows cells pairs : ℕ) : Type 0 where
    pub within : HasRows table rows
    pub text : minimum_title rows cells pairs ++ table_lines table rows ≡ minimum_text a b

  pub minimum_words_lem : (found table : List ℕ) {answer : Result MinimumCounts Refusal} {counts : MinimumCounts}
      → MinimumPromise a b found (minimum_says answer) table → answer ≡ Ok counts
      → MinimumWords table counts.rows counts.filled counts.pairs
  unfolding minimum_image minimum_text
  minimum_words_lem found table {counts = counts} call is =
      let rows = counts.rows in
      let cells = counts.filled in
      let pairs = counts.pairs in
      let M = minimum_rows T in
      let values : List ℕ = rows ∷ counts.words ∷ cells ∷ pairs ∷ [] in
      let said : done values ≡ _ = sym (ap minimum_says is) in
      let e : done values ≡ minimum_outcome a b (length found) = said ∙ call.answers in
      let d = (minimum_done a b (length found) values).0 (sym e) in
      let carries = d.carries in
      let n : rows ≡ length M = cc in
      let m : cells ≡ filled (flatten M) = cc in
      let p : pairs ≡ pairs_tried T = cc in
      let fits = accepted_rows a b d.accepted in
      let t : Table columns M =
      record {
        few_columns = columns_few a b d.accepted;
        few_rows = omega (arith, fits, minimum_count T);
        even = minimum_even a b;
      } in
      let h = holds columns M rows table _ t n
      (left _ values (minimum_image a b) found table said call.writes) in
      record {
        within = h.within;
        text = ap (λ (r : List (List ℕ)). minimum_title rows cells pairs ++ row_lines r) h.rows_are
            ∙ ap₂ (λ (r f : ℕ). minimum_title r f pairs ++ row_lines M) n m
            ∙ ap (λ (k : ℕ). minimum_title (length M) (filled (flatten M)) k ++ row_lines M) p;
      }

  -- ---- where complement union is done, the other two are

  done_outer : IsDone a b → (number table : ℕ) → refused number table ≡ outer_outcome a b lent_table → ⊥
  unfolding outer_image
  done_outer i number table e =
      let accepted = ((complement_done a b lent_table lent_sets i.values).0 i.outcome).accepted in
      let room = table_words columns T max_union_rows (rows_even a b) (columns_few a b accepted) (accepted_rows a b accepted) in
      let is = (outer_done a b lent_table _).1 (record { accepted = accepted; table_room = omega (arith, room); carries = refl }) in
      let z : ◌≡◌ {A = ℕ} 0 1 = cc in omega arith

  done_minimum : IsDone a b → (number table : ℕ) → refused number table ≡ minimum_outcome a b lent_table → ⊥
  unfolding minimum_image
  done_minimum i number table e =
      let accepted = ((complement_done a b lent_table lent_sets i.values).0 i.outcome).accepted in
      let most = accepted_rows a b accepted in
      let room = table_words columns (minimum_rows T) max_union_rows (minimum_even a b) (columns_few a b accepted)
      (omega (arith, most, minimum_count T)) in
      let is = (minimum_done a b lent_table _).1 (record { accepted = accepted; table_room = omega (arith, room); carries = refl }) in
      let z : ◌≡◌ {A = ℕ} 0 1 = cc in omega arith

  pub not_refused_outer : {A : Type 0} {table_after : List ℕ} {answer : Result OuterCounts Refusal} {r : Refusal} → IsDone a b → (found : List ℕ)
      → length found ≡ lent_table → OuterPromise a b found (outer_says answer) table_after → answer ≡ Err r → A
  not_refused_outer i found h call is = absurd (done_outer i _ _ (sym (ap outer_says is) ∙ call.answers ∙ ap (outer_outcome a b) h))

  pub not_refused_minimum : {A : Type 0} {table_after : List ℕ} {answer : Result MinimumCounts Refusal} {r : Refusal} → IsDone a b → (found : List ℕ)
      → length found ≡ lent_table → MinimumPromise a b found (minimum_says answer) table_after → answer ≡ Err r → A
  not_refused_minimum i found h call is = absurd (done_minimum i _ _ (sym (ap minimum_says is) ∙ call.answers ∙ ap (minimum_outcome a b) h))

  -- ---- the sets and the fused table

  module _ (values : List ℕ) (d : ComplementDone a b lent_table lent_sets values) where
    -- the line of a set
    abbrev line_of : List Bool → List ℕ
    line_of s = set_line (positions_of 0 s) (fused_position columns T s)

    record_text : (s : List Bool) → Member s (union_sets columns T) → record_line (set_record columns T s) ≡ line_of s
    record_text s h =
        ap₂ set_line (positions_read columns T s (omega (arith, listed_length columns T [] s h, accepted_rows a b d.accepted)))
        (position_read columns T s (listed_position columns T [] d.few_sets s h))

    list_lines_lem : (rest : List ℕ) → list_lines (set_list columns T ++ rest) (length (union_sets columns T)) ≡ set_lines columns T (union_sets columns T)
    list_lines_lem rest =
        ap (λ (l : List (List ℕ)). flatten (map record_line l)) (records_read columns T rest)
        ∙ ap flatten (map-map record_line (set_record columns T) (union_sets columns T)
        ∙ map_ext (λ (s : List Bool). record_line (set_record columns T s)) line_of (union_sets columns T) record_text)

    sets_text_lem : (sets rest : List ℕ) (count : ℕ) → sets ≡ set_list columns T ++ rest → count ≡ length (union_sets columns T)
        → sets_title count ++ list_lines sets count ≡ sets_text a b
    unfolding sets_text
    sets_text_lem sets rest count w e =
        ap₂ (λ (l : List ℕ) (k : ℕ). sets_title k ++ list_lines l k) w e
        ∙ ap (λ (l : List ℕ). sets_title (length (union_sets columns T)) ++ l) (list_lines_lem rest)

  -- ---- the listing, part by part

  pub listing_parts : listing a b ≡ union_text a b ++ (minimum_text a b ++ (sets_text a b ++ fused_text a b))
  unfolding listing
  listing_parts = refl

-- ---- what complement union answered

module _ {a b fused sets : List ℕ} {answer : Result ComplementCounts Refusal} (w : FusedAnswer a b answer fused sets) where
  outcome : complement_says answer ≡ complement_outcome a b lent_table lent_sets
  outcome = w.promise.answers ∙ ap₂ (complement_outcome a b) w.table_words w.set_words

  pub refused_text : (output : Output) {r : Refusal} → answer ≡ Err r
      → refused_line (question_number r.question) (table_number r.subject) ≡ unions_text (printed output) a b
  unfolding unions_text
  refused_text output is = ap (λ (o : Outcome). unless_refused o (printed output a b)) (sym (ap complement_says is) ∙ outcome)

  module _ {counts : ComplementCounts} (is : answer ≡ Ok counts) where
    abbrev values : List ℕ
    values = counts.rows ∷ counts.words ∷ counts.filled ∷ counts.sets ∷ counts.set_words ∷ []

    said : done values ≡ complement_outcome a b lent_table lent_sets
    said = sym (ap complement_says is) ∙ outcome

    call_done : ComplementDone a b lent_table lent_sets values
    call_done = (complement_done a b lent_table lent_sets values).0 (sym said)

    table_left : fused ≡ fused_image a b ++ drop (length (fused_image a b)) w.found_table
    table_left = left _ values (fused_image a b) w.found_table fused (sym (ap complement_says is)) w.promise.writes

    printed_text : (output : Output) → printed output a b ≡ unions_text (printed output) a b
    unfolding unions_text
    printed_text output = ap (λ (o : Outcome). unless_refused o (printed output a b)) said

    -- ---- the listing

    pub listed_text : {output : Output} → output ≡ Listing → listing a b ≡ unions_text (printed output) a b
    listed_text {output} e = ap (λ (o : Output). printed o a b) (sym e) ∙ printed_text output

    pub listed_words : FusedWords a b fused sets counts
    unfolding fused_image fused_text
    listed_words =
        let F = fused_rows (columns a b) (T a b) in
        let rows = counts.rows in
        let cells = counts.filled in
        let count = counts.sets in
        let d = call_done in
        let carries = d.carries in
        let n : rows ≡ length F = cc in
        let m : cells ≡ filled (flatten F) = cc in
        let k : count ≡ length (union_sets (columns a b) (T a b)) = cc in
        let t : Table (columns a b) F =
        record {
          few_columns = columns_few a b d.accepted;
          few_rows = omega (arith, d.few_sets, fused_count (columns a b) (T a b));
          even = fused_even (columns a b) (T a b) (length (columns a b)) (rows_even a b);
        } in
        let h = holds (columns a b) F rows fused _ t n table_left in
        let list = left _ values (set_list (columns a b) (T a b)) w.found_sets sets (sym (ap complement_says is)) w.promise.lists in
        record {
          is_done = record { values = values; outcome = sym said };
          table_within = h.within;
          table_text = ap (λ (r : List (List ℕ)). fused_title rows cells ++ row_lines r) h.rows_are
              ∙ ap₂ (λ (r f : ℕ). fused_title r f ++ row_lines F) n m;
          list_within = omega (arith, k, simp length-append at (ap length list), set_list-length (columns a b) (T a b));
          list_text = sets_text_lem a b values d sets _ count list k;
        }

    -- ---- the pages

    table_size : length (fused_image a b) ≡ counts.words
    unfolding fused_image
    table_size = let carries = call_done.carries in cc

    pub table_within : counts.words ≤ length fused
    table_within = omega (arith, table_size, simp length-append at (ap length table_left))

    -- the words that the answer counts are the fused table
    fused_image_lem : take counts.words fused ≡ fused_image a b
    fused_image_lem = ap (take counts.words) table_left ∙ take_at (fused_image a b) _ counts.words table_size

    -- it is an image whose pages can be shown
    pub table_passes : Passed max_stored_rows (take counts.words fused)
    table_passes = rw fused_image_lem (fused_passes a b lent_table lent_sets values call_done)

    pub paged_text : {output : Output} → output ≡ Pages → all_pages (take counts.words fused) ≡ unions_text (printed output) a b
    paged_text {output} e = ap all_pages fused_image_lem ∙ ap (λ (o : Output). printed o a b) (sym e) ∙ printed_text output
