-- Each return is a case of the questions 1 to 7: the first no gives its number. After each yes, the number is what the questions from the
-- next on give.
use mathlib.Core.Path.{◌≡◌, sym, ◌∙◌}
use mathlib.Core.Bool.{false}
use lib.ListN.{length}
use borrow.Author.Rules.{rules}
use borrow.Author.Tests.{le-ltb, le-leb, lt-leb, ne_eqb}
use Rattle.definitions.specs.Limits.{max_columns}
use Rattle.definitions.specs.Questions.{has_header, columns_fit, rows_fit, length_fits, columns_right, ids_distinct, cells_right, image_number}
use Rattle.images.proofs.Numbers.{from1, from2, from3, from4, from5, from6, from7, on_yes, on_no}
use Rattle.images.proofs.Numbers.{header_told, columns_told, ids_told, cells_told, past1, past2, past3, opened, past5, past6}
use Rattle.images.proofs.check_image.Goals as goal
use Rattle.images.proofs.check_image.Goals.{After-columns-columns, After-all_columns, After-distinct_ids, After-all_cells}

-- ---- what is left to ask after the yes to the questions so far: to the first, the first four, the fifth and the sixth

header_here : (c : After-columns-columns) → image_number c.args.max_rows c.args.image.now ≡ from2 c.args.max_rows c.args.image.now
header_here c = past1 _ _ (header_told _ c.if-image-eq0.false c.is_header.ensures ∙ c.if-not-is_header.false)

opened_here : (c : After-all_columns) → image_number c.args.max_rows c.args.image.now ≡ from5 c.args.image.now
opened_here c =
    opened _ _ c.if-image-eq0.false c.is_header.ensures c.if-not-is_header.false c.columns-columns.ensures c.if-columns-lt1.false
    c.if-columns-gt-MAX_COLUMNS.false c.rows-rows.ensures c.if-max_rows-rows.false c.if-image-cells.false

columns_here : (c : After-distinct_ids) → image_number c.args.max_rows c.args.image.now ≡ from5 c.args.image.now
    → image_number c.args.max_rows c.args.image.now ≡ from6 c.args.image.now
columns_here c = past5 _ _ (columns_told c.args.image.now c.columns-columns.ensures c.all_columns.ensures ∙ c.if-not-all_columns.false)

ids_here : (c : After-all_cells) → image_number c.args.max_rows c.args.image.now ≡ from6 c.args.image.now
    → image_number c.args.max_rows c.args.image.now ≡ from7 c.args.image.now
ids_here c = past6 _ _ (ids_told c.args.image.now c.columns-columns.ensures c.distinct_ids.ensures ∙ c.if-not-distinct_ids.false)

pub returns-then-image-eq0 : goal.returns-then-image-eq0
returns-then-image-eq0 c =
    let m = c.args.max_rows in
    let w = c.args.image.now in
    on_no _ (has_header w) 1 (from2 m w) (from1 m w) (rw (le-ltb 0 (length w) (search rules)))

pub returns-then-not-is_header : goal.returns-then-not-is_header
returns-then-not-is_header c =
    let m = c.args.max_rows in
    let w = c.args.image.now in
    on_no _ (has_header w) 1 (from2 m w) (from1 m w) (header_told w c.if-image-eq0.false c.is_header.ensures ∙ c.if-not-is_header.true)

pub returns-then-columns-lt1 : goal.returns-then-columns-lt1
returns-then-columns-lt1 c =
    let m = c.args.max_rows in
    let w = c.args.image.now in
    let h = header_here (goal.at.returns-then-columns-lt1 c).After-columns-columns in
    let n : columns_fit w ≡ false = rw (← c.columns-columns.ensures, lt-leb 1 _ c.if-columns-lt1.true) in
    on_no _ (columns_fit w) 2 (from3 m w) h n

pub returns-then-columns-gt-MAX_COLUMNS : goal.returns-then-columns-gt-MAX_COLUMNS
returns-then-columns-gt-MAX_COLUMNS c =
    let m = c.args.max_rows in
    let w = c.args.image.now in
    let h = header_here (goal.at.returns-then-columns-gt-MAX_COLUMNS c).After-columns-columns in
    let n : columns_fit w ≡ false =
    rw (← c.columns-columns.ensures, le-leb 1 _ c.if-columns-lt1.false, lt-leb _ max_columns c.if-columns-gt-MAX_COLUMNS.true)
    in
    on_no _ (columns_fit w) 2 (from3 m w) h n

pub returns-then-max_rows-rows : goal.returns-then-max_rows-rows
returns-then-max_rows-rows c =
    let m = c.args.max_rows in
    let w = c.args.image.now in
    let h = header_here (goal.at.returns-then-max_rows-rows c).After-columns-columns in
    let k = past2 m w c.columns-columns.ensures c.if-columns-lt1.false c.if-columns-gt-MAX_COLUMNS.false h in
    let n : rows_fit m w ≡ false = rw (← c.rows-rows.ensures, lt-leb _ _ c.if-max_rows-rows.true) in
    on_no _ (rows_fit m w) 3 (from4 w) k n

pub returns-then-image-cells : goal.returns-then-image-cells
returns-then-image-cells c =
    let m = c.args.max_rows in
    let w = c.args.image.now in
    let h = header_here (goal.at.returns-then-image-cells c).After-columns-columns in
    let k = past2 m w c.columns-columns.ensures c.if-columns-lt1.false c.if-columns-gt-MAX_COLUMNS.false h in
    let r = past3 m w c.rows-rows.ensures c.if-max_rows-rows.false k in
    let n : length_fits w ≡ false = rw (← c.columns-columns.ensures, ← c.rows-rows.ensures) (ne_eqb _ _ c.if-image-cells.true) in
    on_no _ (length_fits w) 4 (from5 w) r n

pub returns-then-not-all_columns : goal.returns-then-not-all_columns
returns-then-not-all_columns c =
    let w = c.args.image.now in
    on_no _ (columns_right w) 5 (from6 w) (opened_here (goal.at.returns-then-not-all_columns c).After-all_columns)
    (columns_told w c.columns-columns.ensures c.all_columns.ensures ∙ c.if-not-all_columns.true)

pub returns-then-not-distinct_ids : goal.returns-then-not-distinct_ids
returns-then-not-distinct_ids c =
    let w = c.args.image.now in
    let at = goal.at.returns-then-not-distinct_ids c in
    on_no _ (ids_distinct w) 6 (from7 w) (columns_here at.After-distinct_ids (opened_here at.After-all_columns))
    (ids_told w c.columns-columns.ensures c.distinct_ids.ensures ∙ c.if-not-distinct_ids.true)

pub returns-then-not-all_cells : goal.returns-then-not-all_cells
returns-then-not-all_cells c =
    let w = c.args.image.now in
    let at = goal.at.returns-then-not-all_cells c in
    on_no _ (cells_right w) 7 0 (ids_here at.After-all_cells (columns_here at.After-distinct_ids (opened_here at.After-all_columns)))
    (cells_told w c.columns-columns.ensures c.all_cells.ensures ∙ c.if-not-all_cells.true)

pub returns : goal.returns
returns c =
    let w = c.args.image.now in
    let at = goal.at.returns c in
    sym (on_yes _ (cells_right w) 7 0 (ids_here at.After-all_cells (columns_here at.After-distinct_ids (opened_here at.After-all_columns)))
    (cells_told w c.columns-columns.ensures c.all_cells.ensures ∙ c.if-not-all_cells.false))
