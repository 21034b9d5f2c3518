-- `search` makes a run: a law for each return, and for what each call is asked (Turns). The measure is the count of undecided rows.
use mathlib.Core.Path.{◌≡◌, refl, sym, ◌∙◌}
use mathlib.Core.Bool.{false}
use Prim.Native.Nat.{suc, ◌<◌}
use native.Mathlib.Omega.{arith}
use borrow.Author.Rules.{rules}
use Rattle.definitions.specs.Limits.{max_sets}
use Rattle.cliques.specs.Search.{row_of}
use Rattle.cliques.proofs.Run.{split_some, split_row}
use Rattle.cliques.proofs.Turns.{turn_of, run_stops, run_lists, row_within, row_bit, asked, ready_joins, ready_leaves, ready_takes, run_joins, run_leaves, run_takes}
use Rattle.bitsets.specs.Bits.{is_sub}
use Rattle.cliques.proofs.search.+search.Goals as goal

pub returns-then-count-gt-MAX_SETS : goal.returns-then-count-gt-MAX_SETS
returns-then-count-gt-MAX_SETS t c =
    let s = c.args in (
      c.requires.few,
      run_stops (row_of s.neighbours.now) (suc max_sets) s.decided s.rest s.set s.count s.list.now
          (search rules) s.undecided (omega arith),
    )

pub returns-then-undecided-eq0 : goal.returns-then-undecided-eq0
returns-then-undecided-eq0 t c =
    let s = c.args in
    let few : s.count < suc max_sets = omega (arith, c.if-count-gt-MAX_SETS.false) in (
      omega (arith, c.append.ensures.0),
      run_lists (row_of s.neighbours.now) (suc max_sets) s.decided s.rest s.set s.count s.list.now
          (search rules) s.undecided c.if-undecided-eq0.true few _ c.append.ensures.1,
    )

pub lowest_row-i-requires : goal.lowest_row-i-requires
lowest_row-i-requires t c = split_some c.requires.split c.if-undecided-eq0.false

pub without_lowest-later-requires : goal.without_lowest-later-requires
without_lowest-later-requires t c = split_some c.requires.split c.if-undecided-eq0.false

pub with_row-known-requires : goal.with_row-known-requires
with_row-known-requires t c =
    let l = c.lowest_row-i in
    omega (arith, split_row c.requires.split c.if-undecided-eq0.false l.result l.ensures, c.requires.split.fits)

pub offset_bounds-neighbours-i : goal.offset_bounds-neighbours-i
offset_bounds-neighbours-i t c =
    let turn = turn_of c.requires c.if-undecided-eq0.false (omega (arith, c.if-count-gt-MAX_SETS.false))
    c.lowest_row-i.ensures c.without_lowest-later.ensures c.with_row-known.ensures
    in
    omega (arith, row_within turn)

pub bounds-neighbours-i : goal.bounds-neighbours-i
bounds-neighbours-i t c =
    let turn = turn_of c.requires c.if-undecided-eq0.false (omega (arith, c.if-count-gt-MAX_SETS.false))
    c.lowest_row-i.ensures c.without_lowest-later.ensures c.with_row-known.ensures
    in
    row_within turn

pub with_row-grown-requires : goal.with_row-grown-requires
with_row-grown-requires t c =
    let turn = turn_of c.requires c.if-undecided-eq0.false (omega (arith, c.if-count-gt-MAX_SETS.false))
    c.lowest_row-i.ensures c.without_lowest-later.ensures c.with_row-known.ensures
    in
    row_bit turn

pub search-requires : goal.search-requires
search-requires t c =
    let turn = turn_of c.requires c.if-undecided-eq0.false (omega (arith, c.if-count-gt-MAX_SETS.false))
    c.lowest_row-i.ensures c.without_lowest-later.ensures c.with_row-known.ensures
    in (
      omega (arith, c.decreases, c.if-undecided-eq0.false),
      ready_joins turn c.with_row-grown.result c.args.count c.requires.few
          (sym c.is_sub.ensures ∙ c.if-is_sub.true) c.with_row-grown.ensures,
    )

pub returns-then-is_sub : goal.returns-then-is_sub
returns-then-is_sub t c =
    let turn = turn_of c.requires c.if-undecided-eq0.false (omega (arith, c.if-count-gt-MAX_SETS.false))
    c.lowest_row-i.ensures c.without_lowest-later.ensures c.with_row-known.ensures
    in
    (c.search.ensures.0, run_joins turn c.args.list.now (search rules) _ (sym c.is_sub.ensures ∙ c.if-is_sub.true) c.with_row-grown.result c.with_row-grown.ensures c.search.ensures.1)

pub may_take-requires : goal.may_take-requires
may_take-requires t c =
    let turn = turn_of c.requires c.if-undecided-eq0.false (omega (arith, c.if-count-gt-MAX_SETS.false))
    c.lowest_row-i.ensures c.without_lowest-later.ensures c.with_row-known.ensures
    in
    asked turn

pub take_row-next-requires : goal.take_row-next-requires
take_row-next-requires t c =
    let turn = turn_of c.requires c.if-undecided-eq0.false (omega (arith, c.if-count-gt-MAX_SETS.false))
    c.lowest_row-i.ensures c.without_lowest-later.ensures c.with_row-known.ensures
    in
    (row_within turn, row_bit turn)

pub search-found-requires : goal.search-found-requires
search-found-requires t c =
    let turn = turn_of c.requires c.if-undecided-eq0.false (omega (arith, c.if-count-gt-MAX_SETS.false))
    c.lowest_row-i.ensures c.without_lowest-later.ensures c.with_row-known.ensures
    in
    let not-all : is_sub c.args.set (row_of c.args.neighbours.now c.lowest_row-i.result) ≡ false = sym c.is_sub.ensures ∙ c.if-is_sub.false in (
      omega (arith, c.decreases, c.if-undecided-eq0.false),
      ready_takes turn c.take_row-next.result c.args.count c.requires.few
          not-all (c.may_take.ensures.yes c.if-may_take.true) c.take_row-next.ensures,
    )

pub search-requires-then-may_take : goal.search-requires-then-may_take
search-requires-then-may_take t c =
    let turn = turn_of c.requires c.if-undecided-eq0.false (omega (arith, c.if-count-gt-MAX_SETS.false))
    c.lowest_row-i.ensures c.without_lowest-later.ensures c.with_row-known.ensures
    in
    let not-all : is_sub c.args.set (row_of c.args.neighbours.now c.lowest_row-i.result) ≡ false = sym c.is_sub.ensures ∙ c.if-is_sub.false in (
      omega (arith, c.decreases, c.if-undecided-eq0.false),
      ready_leaves turn c.args.set c.search-found.result c.search-found.ensures.0 not-all refl,
    )

pub returns-then-may_take : goal.returns-then-may_take
returns-then-may_take t c =
    let turn = turn_of c.requires c.if-undecided-eq0.false (omega (arith, c.if-count-gt-MAX_SETS.false))
    c.lowest_row-i.ensures c.without_lowest-later.ensures c.with_row-known.ensures
    in
    let not-all : is_sub c.args.set (row_of c.args.neighbours.now c.lowest_row-i.result) ≡ false = sym c.is_sub.ensures ∙ c.if-is_sub.false in (
      c.search-then-may_take.ensures.0,
      run_takes turn c.args.list.now (search rules) _ not-all (c.may_take.ensures.yes c.if-may_take.true)
          c.take_row-next.result c.take_row-next.ensures _ c.search-found.ensures.1 c.search-then-may_take.ensures.1,
    )

pub search-requires-2 : goal.search-requires-2
search-requires-2 t c =
    let turn = turn_of c.requires c.if-undecided-eq0.false (omega (arith, c.if-count-gt-MAX_SETS.false))
    c.lowest_row-i.ensures c.without_lowest-later.ensures c.with_row-known.ensures
    in
    let not-all : is_sub c.args.set (row_of c.args.neighbours.now c.lowest_row-i.result) ≡ false = sym c.is_sub.ensures ∙ c.if-is_sub.false in (
      omega (arith, c.decreases, c.if-undecided-eq0.false),
      ready_leaves turn c.args.set c.args.count c.requires.few
          not-all refl,
    )

pub returns : goal.returns
returns t c =
    let turn = turn_of c.requires c.if-undecided-eq0.false (omega (arith, c.if-count-gt-MAX_SETS.false))
    c.lowest_row-i.ensures c.without_lowest-later.ensures c.with_row-known.ensures
    in
    let not-all : is_sub c.args.set (row_of c.args.neighbours.now c.lowest_row-i.result) ≡ false = sym c.is_sub.ensures ∙ c.if-is_sub.false in
    (c.search-2.ensures.0, run_leaves turn c.args.list.now (search rules) _ not-all (c.may_take.ensures.no c.if-may_take.false) c.search-2.ensures.1)
