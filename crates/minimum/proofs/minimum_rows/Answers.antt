-- `minimum_rows` meets its contract: the rows are counted, the rows with more filled cells and those filled in each column are put into words, and
-- then each row is tried. Assumes nothing.
use mathlib.Core.Path.{◌≡◌}
use lib.ListN.{length}
use native.Mathlib.Omega.{arith}
use borrow.Author.Rules.{rules}
use Rattle.bitsets.proofs.Words.{in_word}
use Rattle.patterns.proofs.FilledRows.{columns_none}
use Rattle.minimum.proofs.Counting.{count_small}
use Rattle.minimum.proofs.minimum_rows.Goals as goal

pub fill_fuller-requires-clause-counts_len_bound : goal.fill_fuller-requires-clause-counts_len_bound
fill_fuller-requires-clause-counts_len_bound c =
    let counts = c.fill_counts.new.counts in
    let t = c.args.rows.now in
    let long : length counts ≡ t.len = search (rules, c.fill_counts.auto.counts) in (
      omega (arith, in_word c.requires.few_rows),
      count_small t.width t.len t.cells.now counts c.fill_counts.ensures c.requires.few_columns,
    )

pub fill_columns-requires : goal.fill_columns-requires
fill_columns-requires c =
    (in_word c.requires.few_rows, columns_none c.args.rows.now.width c.requires.few_columns)

pub invariant_of-trials : goal.invariant_of-trials
invariant_of-trials c =
    let counts = c.fill_counts.new.counts in
    let t = c.args.rows.now in
    record {
      prepared = record {
        few = c.requires.few_rows;
        size = search (rules, c.fill_counts.auto.counts);
        counted = c.fill_counts.ensures;
        room = λ j.
            omega (
              arith,
              count_small t.width t.len t.cells.now counts c.fill_counts.ensures c.requires.few_columns j,
              c.fill_fuller.auto.words,
            );
        fuller_rows = c.fill_fuller.ensures;
        filled_rows = c.fill_columns.ensures;
      };
    }
