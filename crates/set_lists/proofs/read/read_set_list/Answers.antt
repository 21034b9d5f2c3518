-- `read_set_list` meets its promise: each return is a way out.
use Rattle.std.proofs.Common.{◌≡◌, Err, arith, rules}
use Rattle.definitions.specs.Refusal.{put_to}
use Rattle.definitions.specs.declared.refusal.Subject.TheVariants as subject
use Rattle.set_lists.proofs.Ends.{refused_list, few_records, short_buffer, done_reading}
use Rattle.set_lists.proofs.read.read_set_list.Goals as goal

pub returns-in_err-records : goal.returns-in_err-records
returns-in_err-records c =
    let q = c.in_err-records.field-0.0 in
    let answer : c.from_residual.result ≡ Err (put_to subject.Both q) = search rules in
    rw answer (refused_list c.args.rows c.args.list.now c.args.words.now q c.in_err-records.ensures.number)

pub count_words-requires : goal.count_words-requires
count_words-requires c =
    let known = c.in_ok-records.ensures in
    few_records c.args.rows c.args.list.now c.args.words.now known.number known.records

pub returns-then-words-count_words : goal.returns-then-words-count_words
returns-then-words-count_words c =
    let known = c.in_ok-records.ensures in
    rw c.from.ensures (short_buffer c.args.rows c.args.list.now c.args.words.now known.number known.records
    (omega (arith, c.count_words.ensures, c.if-words-count_words.true)))

pub returns : goal.returns
returns c =
    let known = c.in_ok-records.ensures in
    done_reading c.args.rows c.args.list.now c.args.words.now known.number known.records c.write_entries-words.ensures
