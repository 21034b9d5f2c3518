-- `list_part` lists the sets of a part: the search lists those of its core, and the common rows are put into each. A law for each (PartTurns).
use Prim.Native.Nat.{suc}
use native.Mathlib.Omega.{arith}
use borrow.Author.Rules.{rules}
use Rattle.definitions.specs.Limits.{max_sets}
use Rattle.cliques.proofs.PartTurns.{ran_grows, part_ready, part_searched}
use Rattle.cliques.proofs.parts.list_part.Goals as goal

pub search-found-requires : goal.search-found-requires
search-found-requires c =
    part_ready (suc max_sets) c.requires.0 c.common_rows-common.result c.minus-core.result c.common_rows-common.ensures c.minus-core.ensures c.size.result c.size.ensures
    c.args.count (omega (arith, c.requires.1))

pub slice_bounds-add_to_each-count : goal.slice_bounds-add_to_each-count
slice_bounds-add_to_each-count c =
    let f = c.search-found in
    ran_grows c.args.list.now f.new.list c.args.count f.result (search rules) (search rules) f.ensures.1

pub slice_bounds-add_to_each-start : goal.slice_bounds-add_to_each-start
slice_bounds-add_to_each-start c =
    let f = c.search-found in
    ran_grows c.args.list.now f.new.list c.args.count f.result (search rules) (search rules) f.ensures.1

pub returns : goal.returns
returns c =
    let f = c.search-found in (
      f.ensures.0,
      part_searched (suc max_sets) c.requires.0 c.common_rows-common.result c.minus-core.result c.common_rows-common.ensures c.minus-core.ensures c.size.result c.size.ensures
          c.args.list.now f.new.list c.args.count f.result (search rules) (search rules) f.ensures.1 _ _ c.add_to_each.ensures,
    )
