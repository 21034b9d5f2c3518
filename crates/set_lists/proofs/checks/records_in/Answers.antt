-- `records_in` meets its contract: each test is a part of check 12, and the chunks of four words behind the header are the records.
use Rattle.std.proofs.Common.{◌≡◌, ◌*◌, ◌∙◌, length, sym, ap, arith}
use Rattle.definitions.specs.Image.{is_header}
use Rattle.definitions.specs.Word.{columns_of, rows_of}
use Rattle.definitions.proofs.Bools.{clash}
use Rattle.set_lists.proofs.Tests.{not_listed, header_is, rest_is, listed, chunks_are}
use Rattle.set_lists.proofs.checks.records_in.Goals as goal
use Rattle.set_lists.proofs.checks.records_in.Goals.{then-rows-via-then-rows, then-rows-via-else-rows+then-not-is_header, then-rows-via-else-rows+else-not-is_header+then-columns, then-rows-via-else-rows+else-not-is_header+else-columns+then-sets-gt-MAX_SETS, then-rows-via-else-rows+else-not-is_header+else-columns+else-sets-gt-MAX_SETS+then-rest-sets}

pub returns-in_err-header : goal.returns-in_err-header
returns-in_err-header c =
    rw c.from_residual.ensures (not_listed c.args.rows c.args.list.now (λ l. omega (arith, l.first_word, c.in_err-header.ensures.cases)))

pub returns-then-rows : goal.returns-then-rows
returns-then-rows c =
    let e = c.in_ok-header.ensures.cases.0 in
    let head = header_is c.args.rows e in
    not_listed c.args.rows c.args.list.now (λ l. elim c.then-rows.branch [
      | then-rows-via-then-rows w ↦ omega (arith, l.few_rows, w.if-rows.true)
      | then-rows-via-else-rows+then-not-is_header w ↦
          clash (ap is_header (sym head) ∙ l.is_header_word) (sym w.is_header.ensures ∙ w.if-not-is_header.true)
      | then-rows-via-else-rows+else-not-is_header+then-columns w ↦ w.if-columns.true (w.columns.ensures ∙ ap columns_of (sym head) ∙ l.width)
      | then-rows-via-else-rows+else-not-is_header+else-columns+then-sets-gt-MAX_SETS w ↦
          omega (arith, l.few_sets, w.if-sets-gt-MAX_SETS.true, c.rows-sets.ensures, ap rows_of head)
      | then-rows-via-else-rows+else-not-is_header+else-columns+else-sets-gt-MAX_SETS+then-rest-sets w ↦
          w.if-rest-sets.true (omega (arith, l.all_words, rest_is c.args.rows e, c.rows-sets.ensures, ap rows_of head))
    ])

pub returns : goal.returns
returns c =
    let e = c.in_ok-header.ensures.cases.0 in
    let size : length c.in_ok-header.rest.now ≡ 4 * rows_of c.in_ok-header.header.now = omega (arith, c.if-rest-sets.false, c.rows-sets.ensures) in (
      listed c.args.rows e size (omega arith) (sym c.is_header.ensures ∙ c.if-not-is_header.false) (sym c.columns.ensures ∙ c.if-columns.false)
          (omega (arith, c.rows-sets.ensures, c.if-sets-gt-MAX_SETS.false)),
      chunks_are c.args.rows e size c.as_chunks.ensures.front,
    )
