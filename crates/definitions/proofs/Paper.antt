-- Document 01, "Rows on paper": P1 to P9, seven cases of request A2 and seven of request A4, as the rows of one joint check of the definitions.
-- Assumes nothing.
use mathlib.Core.Path.{◌≡◌, refl}
use mathlib.Core.Bool.{Bool, true, false, ◌&&◌, beq}
use mathlib.Core.List.{List, [], ◌∷◌, map, flatten}
use mathlib.Core.Option.{Option, none, some}
use Prim.Native.Nat.{ℕ, ◌+◌, ◌*◌}
use lib.Dec.{eqb}
use lib.ListN.{length, get_or}
use Rattle.definitions.specs.Lists.{all, any, filter, find_index, distinct, all_below, sum_below}
use Rattle.definitions.specs.Image.{image_of, image_rows}
use Rattle.definitions.specs.Ascending.{insert, ascending}
use Rattle.definitions.specs.OuterUnion.{compare_row, union_ids, union_columns, widened, widened_rows, union_rows}
use Rattle.definitions.specs.MinimumUnion.{filled, covers, subsumes, minimum_rows}
use Rattle.definitions.specs.ComplementUnion.{same_row, agree, share, marked_cells, counted_cells, complement, contains, subsets, adjacent_to_all, is_complementing, is_maximal, maximal_sets, members, join, join_all, joined, union_sets, fused_rows}
use Rattle.definitions.specs.SetList.{bits, marks_from, record_of, set_record, list_of, set_list}
use Rattle.definitions.specs.Questions.{image_number}
use Rattle.definitions.specs.Answer.{Outcome, done, refused}
use Rattle.definitions.specs.Calls.{pair_outcome, outer_image, minimum_image, fused_image, complement_outcome}
use Rattle.definitions.proofs.Notation.{#, ∅, ∄, column, marked}

abbrev ● : Bool
● = true

abbrev ○ : Bool
○ = false

-- the columns of a table
abbrev two : List ℕ
two = column 7 ∷ column 9 ∷ []

abbrev three : List ℕ
three = column 7 ∷ column 8 ∷ column 9 ∷ []

abbrev four : List ℕ
four = column 6 ∷ column 7 ∷ column 8 ∷ column 9 ∷ []

-- request A2: the devices in column 10 have the guest in column 13, and so has the address in column 12; column 11, the interrupt, is empty
abbrev devices : List (List ℕ)
devices = (# 7 ∷ ∅ ∷ # 2 ∷ []) ∷ (# 8 ∷ ∅ ∷ # 2 ∷ []) ∷ []

abbrev addresses : List (List ℕ)
addresses = (# 41 ∷ # 2 ∷ []) ∷ []

abbrev device_union : List (List ℕ)
device_union = (∅ ∷ ∅ ∷ # 41 ∷ # 2 ∷ []) ∷ (# 7 ∷ ∅ ∷ ∅ ∷ # 2 ∷ []) ∷ (# 8 ∷ ∅ ∷ ∅ ∷ # 2 ∷ []) ∷ []

-- the address joined to each device
abbrev device_joined : List (List ℕ)
device_joined = (# 7 ∷ ∅ ∷ # 41 ∷ # 2 ∷ []) ∷ (# 8 ∷ ∅ ∷ # 41 ∷ # 2 ∷ []) ∷ []

abbrev alone : List (List Bool)
alone = (● ∷ ○ ∷ ○ ∷ []) ∷ (○ ∷ ● ∷ ○ ∷ []) ∷ (○ ∷ ○ ∷ ● ∷ []) ∷ []

abbrev with_address : List (List Bool)
with_address = (● ∷ ● ∷ ○ ∷ []) ∷ (● ∷ ○ ∷ ● ∷ []) ∷ []

-- request A4: two rows that share `none`
abbrev none_shared : List (List ℕ)
none_shared = (∄ ∷ ∅ ∷ # 3 ∷ []) ∷ (∄ ∷ # 2 ∷ ∅ ∷ []) ∷ []

-- what is expected of two rows s and t
record Verdicts : Type 0 where
  equal : Bool
  -- some column is filled in both, with equal cells
  sharing : Bool
  -- s subsumes t
  subsuming : Bool
  -- t subsumes s
  subsumed : Bool
  complementing : Bool

-- rows of which neither tells of the other; that complement each other; of which s subsumes t and shares nothing with it
abbrev unrelated : Verdicts
unrelated = record {
  equal = ○;
  sharing = ○;
  subsuming = ○;
  subsumed = ○;
  complementing = ○;
}

abbrev complementary : Verdicts
complementary = record {
  equal = ○;
  sharing = ●;
  subsuming = ○;
  subsumed = ○;
  complementing = ●;
}

abbrev subsuming_alone : Verdicts
subsuming_alone = record {
  equal = ○;
  sharing = ○;
  subsuming = ●;
  subsumed = ○;
  complementing = ○;
}

-- two images, and what is expected of them
record Case : Type 0 where
  first : List ℕ
  second : List ℕ
  -- the union's column words
  columns : List ℕ
  -- T
  union : List (List ℕ)
  minimum : List (List ℕ)
  -- the sets, as marks of the positions in T
  sets : List (List Bool)
  -- the joined row of each set
  joined_rows : List (List ℕ)
  fused : List (List ℕ)
  -- besides: what the paper says of s, the row of the first table, and t, that of the second
  pair : Option Verdicts
  -- besides: what fusing the joined rows gives
  again : Option (List (List ℕ))

abbrev cases : List Case
cases =
    -- P1: two tables without rows: no sets, no rows, columns kept
    record {
      first = image_of (column 9 ∷ column 7 ∷ []) [];
      second = image_of (column 8 ∷ column 7 ∷ []) [];
      columns = three;
      union = [];
      minimum = [];
      sets = [];
      joined_rows = [];
      fused = [];
      pair = none;
      again = none;
    }
    -- P2: (-,-) alone: a single set, itself
    ∷ record {
      first = image_of two ((∅ ∷ ∅ ∷ []) ∷ []);
      second = image_of two [];
      columns = two;
      union = (∅ ∷ ∅ ∷ []) ∷ [];
      minimum = (∅ ∷ ∅ ∷ []) ∷ [];
      sets = (● ∷ []) ∷ [];
      joined_rows = (∅ ∷ ∅ ∷ []) ∷ [];
      fused = (∅ ∷ ∅ ∷ []) ∷ [];
      pair = none;
      again = none;
    }
    -- P3: (1,2,-) subsumes (1,-,-); they don't complement
    ∷ record {
      first = image_of three ((# 1 ∷ # 2 ∷ ∅ ∷ []) ∷ []);
      second = image_of three ((# 1 ∷ ∅ ∷ ∅ ∷ []) ∷ []);
      columns = three;
      union = (# 1 ∷ ∅ ∷ ∅ ∷ []) ∷ (# 1 ∷ # 2 ∷ ∅ ∷ []) ∷ [];
      minimum = (# 1 ∷ # 2 ∷ ∅ ∷ []) ∷ [];
      sets = (● ∷ ○ ∷ []) ∷ (○ ∷ ● ∷ []) ∷ [];
      joined_rows = (# 1 ∷ ∅ ∷ ∅ ∷ []) ∷ (# 1 ∷ # 2 ∷ ∅ ∷ []) ∷ [];
      fused = (# 1 ∷ ∅ ∷ ∅ ∷ []) ∷ (# 1 ∷ # 2 ∷ ∅ ∷ []) ∷ [];
      pair =
          some
          (record {
            equal = ○;
            sharing = ●;
            subsuming = ●;
            subsumed = ○;
            complementing = ○;
          });
      again = none;
    }
    -- P4: (1,2,-) and (-,-,3): no shared number, no complement
    ∷ record {
      first = image_of three ((# 1 ∷ # 2 ∷ ∅ ∷ []) ∷ []);
      second = image_of three ((∅ ∷ ∅ ∷ # 3 ∷ []) ∷ []);
      columns = three;
      union = (∅ ∷ ∅ ∷ # 3 ∷ []) ∷ (# 1 ∷ # 2 ∷ ∅ ∷ []) ∷ [];
      minimum = (∅ ∷ ∅ ∷ # 3 ∷ []) ∷ (# 1 ∷ # 2 ∷ ∅ ∷ []) ∷ [];
      sets = (● ∷ ○ ∷ []) ∷ (○ ∷ ● ∷ []) ∷ [];
      joined_rows = (∅ ∷ ∅ ∷ # 3 ∷ []) ∷ (# 1 ∷ # 2 ∷ ∅ ∷ []) ∷ [];
      fused = (∅ ∷ ∅ ∷ # 3 ∷ []) ∷ (# 1 ∷ # 2 ∷ ∅ ∷ []) ∷ [];
      pair = some unrelated;
      again = none;
    }
    -- P5: (1,2,-) and (1,-,3) complement; joined (1,2,3)
    ∷ record {
      first = image_of three ((# 1 ∷ # 2 ∷ ∅ ∷ []) ∷ []);
      second = image_of three ((# 1 ∷ ∅ ∷ # 3 ∷ []) ∷ []);
      columns = three;
      union = (# 1 ∷ ∅ ∷ # 3 ∷ []) ∷ (# 1 ∷ # 2 ∷ ∅ ∷ []) ∷ [];
      minimum = (# 1 ∷ ∅ ∷ # 3 ∷ []) ∷ (# 1 ∷ # 2 ∷ ∅ ∷ []) ∷ [];
      sets = (● ∷ ● ∷ []) ∷ [];
      joined_rows = (# 1 ∷ # 2 ∷ # 3 ∷ []) ∷ [];
      fused = (# 1 ∷ # 2 ∷ # 3 ∷ []) ∷ [];
      pair = some complementary;
      again = none;
    }
    -- P6: (0,-) and (-,-) differ; the first subsumes
    ∷ record {
      first = image_of two ((# 0 ∷ ∅ ∷ []) ∷ []);
      second = image_of two ((∅ ∷ ∅ ∷ []) ∷ []);
      columns = two;
      union = (∅ ∷ ∅ ∷ []) ∷ (# 0 ∷ ∅ ∷ []) ∷ [];
      minimum = (# 0 ∷ ∅ ∷ []) ∷ [];
      sets = (● ∷ ○ ∷ []) ∷ (○ ∷ ● ∷ []) ∷ [];
      joined_rows = (∅ ∷ ∅ ∷ []) ∷ (# 0 ∷ ∅ ∷ []) ∷ [];
      fused = (∅ ∷ ∅ ∷ []) ∷ (# 0 ∷ ∅ ∷ []) ∷ [];
      pair = some subsuming_alone;
      again = none;
    }
    -- P7: (1,2,-,-), (-,2,3,-), (-,-,3,4), (1,-,-,4): four sets, of two rows each.
    -- Fusing the four joined rows gives (1,2,3,4) alone.
    ∷ record {
      first = image_of four ((# 1 ∷ # 2 ∷ ∅ ∷ ∅ ∷ []) ∷ (∅ ∷ # 2 ∷ # 3 ∷ ∅ ∷ []) ∷ []);
      second = image_of four ((∅ ∷ ∅ ∷ # 3 ∷ # 4 ∷ []) ∷ (# 1 ∷ ∅ ∷ ∅ ∷ # 4 ∷ []) ∷ []);
      columns = four;
      union =
          (∅ ∷ ∅ ∷ # 3 ∷ # 4 ∷ []) ∷ (∅ ∷ # 2 ∷ # 3 ∷ ∅ ∷ []) ∷
          (# 1 ∷ ∅ ∷ ∅ ∷ # 4 ∷ []) ∷ (# 1 ∷ # 2 ∷ ∅ ∷ ∅ ∷ []) ∷ [];
      minimum =
          (∅ ∷ ∅ ∷ # 3 ∷ # 4 ∷ []) ∷ (∅ ∷ # 2 ∷ # 3 ∷ ∅ ∷ []) ∷
          (# 1 ∷ ∅ ∷ ∅ ∷ # 4 ∷ []) ∷ (# 1 ∷ # 2 ∷ ∅ ∷ ∅ ∷ []) ∷ [];
      sets = (● ∷ ● ∷ ○ ∷ ○ ∷ []) ∷ (● ∷ ○ ∷ ● ∷ ○ ∷ []) ∷ (○ ∷ ● ∷ ○ ∷ ● ∷ []) ∷ (○ ∷ ○ ∷ ● ∷ ● ∷ []) ∷ [];
      joined_rows =
          (∅ ∷ # 2 ∷ # 3 ∷ # 4 ∷ []) ∷ (# 1 ∷ ∅ ∷ # 3 ∷ # 4 ∷ []) ∷
          (# 1 ∷ # 2 ∷ # 3 ∷ ∅ ∷ []) ∷ (# 1 ∷ # 2 ∷ ∅ ∷ # 4 ∷ []) ∷ [];
      fused =
          (∅ ∷ # 2 ∷ # 3 ∷ # 4 ∷ []) ∷ (# 1 ∷ ∅ ∷ # 3 ∷ # 4 ∷ []) ∷
          (# 1 ∷ # 2 ∷ ∅ ∷ # 4 ∷ []) ∷ (# 1 ∷ # 2 ∷ # 3 ∷ ∅ ∷ []) ∷ [];
      pair = none;
      again = some ((# 1 ∷ # 2 ∷ # 3 ∷ # 4 ∷ []) ∷ []);
    }
    -- P8: (1,2,-), (1,-,3), (-,2,3): one set of three
    ∷ record {
      first = image_of three ((# 1 ∷ # 2 ∷ ∅ ∷ []) ∷ (# 1 ∷ ∅ ∷ # 3 ∷ []) ∷ []);
      second = image_of three ((∅ ∷ # 2 ∷ # 3 ∷ []) ∷ []);
      columns = three;
      union = (∅ ∷ # 2 ∷ # 3 ∷ []) ∷ (# 1 ∷ ∅ ∷ # 3 ∷ []) ∷ (# 1 ∷ # 2 ∷ ∅ ∷ []) ∷ [];
      minimum = (∅ ∷ # 2 ∷ # 3 ∷ []) ∷ (# 1 ∷ ∅ ∷ # 3 ∷ []) ∷ (# 1 ∷ # 2 ∷ ∅ ∷ []) ∷ [];
      sets = (● ∷ ● ∷ ● ∷ []) ∷ [];
      joined_rows = (# 1 ∷ # 2 ∷ # 3 ∷ []) ∷ [];
      fused = (# 1 ∷ # 2 ∷ # 3 ∷ []) ∷ [];
      pair = none;
      again = none;
    }
    -- P9: (1,2,-,4), (1,-,3,4), (1,2,-,-): two sets, one fused row
    ∷ record {
      first = image_of four ((# 1 ∷ # 2 ∷ ∅ ∷ # 4 ∷ []) ∷ (# 1 ∷ ∅ ∷ # 3 ∷ # 4 ∷ []) ∷ []);
      second = image_of four ((# 1 ∷ # 2 ∷ ∅ ∷ ∅ ∷ []) ∷ []);
      columns = four;
      union = (# 1 ∷ ∅ ∷ # 3 ∷ # 4 ∷ []) ∷ (# 1 ∷ # 2 ∷ ∅ ∷ ∅ ∷ []) ∷ (# 1 ∷ # 2 ∷ ∅ ∷ # 4 ∷ []) ∷ [];
      minimum = (# 1 ∷ ∅ ∷ # 3 ∷ # 4 ∷ []) ∷ (# 1 ∷ # 2 ∷ ∅ ∷ # 4 ∷ []) ∷ [];
      sets = (● ∷ ● ∷ ○ ∷ []) ∷ (● ∷ ○ ∷ ● ∷ []) ∷ [];
      joined_rows = (# 1 ∷ # 2 ∷ # 3 ∷ # 4 ∷ []) ∷ (# 1 ∷ # 2 ∷ # 3 ∷ # 4 ∷ []) ∷ [];
      fused = (# 1 ∷ # 2 ∷ # 3 ∷ # 4 ∷ []) ∷ [];
      pair = none;
      again = none;
    }
    -- A2: two devices of one guest, one of which the second table does not name; no column is marked: they are joined
    ∷ record {
      first = image_of (column 10 ∷ column 11 ∷ column 13 ∷ []) ((# 7 ∷ # 3 ∷ # 2 ∷ []) ∷ []);
      second = image_of (column 10 ∷ column 12 ∷ column 13 ∷ []) ((∅ ∷ # 41 ∷ # 2 ∷ []) ∷ []);
      columns = column 10 ∷ column 11 ∷ column 12 ∷ column 13 ∷ [];
      union = (∅ ∷ ∅ ∷ # 41 ∷ # 2 ∷ []) ∷ (# 7 ∷ # 3 ∷ ∅ ∷ # 2 ∷ []) ∷ [];
      minimum = (∅ ∷ ∅ ∷ # 41 ∷ # 2 ∷ []) ∷ (# 7 ∷ # 3 ∷ ∅ ∷ # 2 ∷ []) ∷ [];
      sets = (● ∷ ● ∷ []) ∷ [];
      joined_rows = (# 7 ∷ # 3 ∷ # 41 ∷ # 2 ∷ []) ∷ [];
      fused = (# 7 ∷ # 3 ∷ # 41 ∷ # 2 ∷ []) ∷ [];
      pair = none;
      again = none;
    }
    -- the device is marked: they are not
    ∷ record {
      first = image_of (marked 10 ∷ column 11 ∷ column 13 ∷ []) ((# 7 ∷ # 3 ∷ # 2 ∷ []) ∷ []);
      second = image_of (column 10 ∷ column 12 ∷ column 13 ∷ []) ((∅ ∷ # 41 ∷ # 2 ∷ []) ∷ []);
      columns = marked 10 ∷ column 11 ∷ column 12 ∷ column 13 ∷ [];
      union = (∅ ∷ ∅ ∷ # 41 ∷ # 2 ∷ []) ∷ (# 7 ∷ # 3 ∷ ∅ ∷ # 2 ∷ []) ∷ [];
      minimum = (∅ ∷ ∅ ∷ # 41 ∷ # 2 ∷ []) ∷ (# 7 ∷ # 3 ∷ ∅ ∷ # 2 ∷ []) ∷ [];
      sets = (● ∷ ○ ∷ []) ∷ (○ ∷ ● ∷ []) ∷ [];
      joined_rows = (∅ ∷ ∅ ∷ # 41 ∷ # 2 ∷ []) ∷ (# 7 ∷ # 3 ∷ ∅ ∷ # 2 ∷ []) ∷ [];
      fused = (∅ ∷ ∅ ∷ # 41 ∷ # 2 ∷ []) ∷ (# 7 ∷ # 3 ∷ ∅ ∷ # 2 ∷ []) ∷ [];
      pair = none;
      again = none;
    }
    -- no column is marked: the address of their guest is joined to both devices
    ∷ record {
      first = image_of (column 10 ∷ column 11 ∷ column 13 ∷ []) devices;
      second = image_of (column 12 ∷ column 13 ∷ []) addresses;
      columns = column 10 ∷ column 11 ∷ column 12 ∷ column 13 ∷ [];
      union = device_union;
      minimum = device_union;
      sets = with_address;
      joined_rows = device_joined;
      fused = device_joined;
      pair = none;
      again = none;
    }
    -- the device is marked: a shared guest number is no evidence, and nothing is joined
    ∷ record {
      first = image_of (marked 10 ∷ column 11 ∷ column 13 ∷ []) devices;
      second = image_of (column 12 ∷ column 13 ∷ []) addresses;
      columns = marked 10 ∷ column 11 ∷ column 12 ∷ column 13 ∷ [];
      union = device_union;
      minimum = device_union;
      sets = alone;
      joined_rows = device_union;
      fused = device_union;
      pair = none;
      again = none;
    }
    -- the second table alone marks the guest number, at another place
    ∷ record {
      first = image_of (column 10 ∷ column 11 ∷ column 13 ∷ []) devices;
      second = image_of (column 12 ∷ marked 13 ∷ []) addresses;
      columns = column 10 ∷ column 11 ∷ column 12 ∷ marked 13 ∷ [];
      union = device_union;
      minimum = device_union;
      sets = with_address;
      joined_rows = device_joined;
      fused = device_joined;
      pair = none;
      again = none;
    }
    -- a mark on a column that is empty everywhere leaves no evidence: nothing is joined
    ∷ record {
      first = image_of (column 10 ∷ marked 11 ∷ column 13 ∷ []) devices;
      second = image_of (column 12 ∷ column 13 ∷ []) addresses;
      columns = column 10 ∷ marked 11 ∷ column 12 ∷ column 13 ∷ [];
      union = device_union;
      minimum = device_union;
      sets = alone;
      joined_rows = device_union;
      fused = device_union;
      pair = none;
      again = none;
    }
    -- of the rows that share a number with (1,2,-,-), one shares a marked column's
    ∷ record {
      first = image_of (marked 6 ∷ column 7 ∷ []) ((# 1 ∷ # 2 ∷ []) ∷ []);
      second = image_of four ((# 1 ∷ ∅ ∷ # 3 ∷ ∅ ∷ []) ∷ (∅ ∷ # 2 ∷ ∅ ∷ # 4 ∷ []) ∷ []);
      columns = marked 6 ∷ column 7 ∷ column 8 ∷ column 9 ∷ [];
      union = (∅ ∷ # 2 ∷ ∅ ∷ # 4 ∷ []) ∷ (# 1 ∷ ∅ ∷ # 3 ∷ ∅ ∷ []) ∷ (# 1 ∷ # 2 ∷ ∅ ∷ ∅ ∷ []) ∷ [];
      minimum = (∅ ∷ # 2 ∷ ∅ ∷ # 4 ∷ []) ∷ (# 1 ∷ ∅ ∷ # 3 ∷ ∅ ∷ []) ∷ (# 1 ∷ # 2 ∷ ∅ ∷ ∅ ∷ []) ∷ [];
      sets = (● ∷ ○ ∷ ○ ∷ []) ∷ (○ ∷ ● ∷ ● ∷ []) ∷ [];
      joined_rows = (∅ ∷ # 2 ∷ ∅ ∷ # 4 ∷ []) ∷ (# 1 ∷ # 2 ∷ # 3 ∷ ∅ ∷ []) ∷ [];
      fused = (∅ ∷ # 2 ∷ ∅ ∷ # 4 ∷ []) ∷ (# 1 ∷ # 2 ∷ # 3 ∷ ∅ ∷ []) ∷ [];
      pair = none;
      again = none;
    }
    -- A4: `none` is shared
    ∷ record {
      first = image_of three ((∄ ∷ # 2 ∷ ∅ ∷ []) ∷ []);
      second = image_of three ((∄ ∷ ∅ ∷ # 3 ∷ []) ∷ []);
      columns = three;
      union = none_shared;
      minimum = none_shared;
      sets = (● ∷ ● ∷ []) ∷ [];
      joined_rows = (∄ ∷ # 2 ∷ # 3 ∷ []) ∷ [];
      fused = (∄ ∷ # 2 ∷ # 3 ∷ []) ∷ [];
      pair = some complementary;
      again = none;
    }
    -- a joined row takes it from the one member that has it
    ∷ record {
      first = image_of three ((∅ ∷ ∄ ∷ # 3 ∷ []) ∷ []);
      second = image_of three ((# 1 ∷ ∅ ∷ # 3 ∷ []) ∷ []);
      columns = three;
      union = (∅ ∷ ∄ ∷ # 3 ∷ []) ∷ (# 1 ∷ ∅ ∷ # 3 ∷ []) ∷ [];
      minimum = (∅ ∷ ∄ ∷ # 3 ∷ []) ∷ (# 1 ∷ ∅ ∷ # 3 ∷ []) ∷ [];
      sets = (● ∷ ● ∷ []) ∷ [];
      joined_rows = (# 1 ∷ ∄ ∷ # 3 ∷ []) ∷ [];
      fused = (# 1 ∷ ∄ ∷ # 3 ∷ []) ∷ [];
      pair = none;
      again = none;
    }
    -- empty, 0 and `none` side by side: the row that is empty there joins either of the others, which differ
    ∷ record {
      first = image_of three ((∄ ∷ # 2 ∷ ∅ ∷ []) ∷ (∅ ∷ # 2 ∷ # 3 ∷ []) ∷ []);
      second = image_of three ((# 0 ∷ ∅ ∷ # 3 ∷ []) ∷ []);
      columns = three;
      union = (∅ ∷ # 2 ∷ # 3 ∷ []) ∷ (# 0 ∷ ∅ ∷ # 3 ∷ []) ∷ (∄ ∷ # 2 ∷ ∅ ∷ []) ∷ [];
      minimum = (∅ ∷ # 2 ∷ # 3 ∷ []) ∷ (# 0 ∷ ∅ ∷ # 3 ∷ []) ∷ (∄ ∷ # 2 ∷ ∅ ∷ []) ∷ [];
      sets = (● ∷ ● ∷ ○ ∷ []) ∷ (● ∷ ○ ∷ ● ∷ []) ∷ [];
      joined_rows = (# 0 ∷ # 2 ∷ # 3 ∷ []) ∷ (∄ ∷ # 2 ∷ # 3 ∷ []) ∷ [];
      fused = (# 0 ∷ # 2 ∷ # 3 ∷ []) ∷ (∄ ∷ # 2 ∷ # 3 ∷ []) ∷ [];
      pair = some unrelated;
      again = none;
    }
    -- (none,-) subsumes (-,-), and neither subsumes nor is (0,-)
    ∷ record {
      first = image_of two ((∄ ∷ ∅ ∷ []) ∷ []);
      second = image_of two ((∅ ∷ ∅ ∷ []) ∷ (# 0 ∷ ∅ ∷ []) ∷ []);
      columns = two;
      union = (∅ ∷ ∅ ∷ []) ∷ (# 0 ∷ ∅ ∷ []) ∷ (∄ ∷ ∅ ∷ []) ∷ [];
      minimum = (# 0 ∷ ∅ ∷ []) ∷ (∄ ∷ ∅ ∷ []) ∷ [];
      sets = alone;
      joined_rows = (∅ ∷ ∅ ∷ []) ∷ (# 0 ∷ ∅ ∷ []) ∷ (∄ ∷ ∅ ∷ []) ∷ [];
      fused = (∅ ∷ ∅ ∷ []) ∷ (# 0 ∷ ∅ ∷ []) ∷ (∄ ∷ ∅ ∷ []) ∷ [];
      pair = some subsuming_alone;
      again = none;
    }
    -- it stands behind the largest number, and isn't that
    ∷ record {
      first = image_of two ((∄ ∷ # 1 ∷ []) ∷ []);
      second = image_of two ((# 1073741823 ∷ # 1 ∷ []) ∷ []);
      columns = two;
      union = (# 1073741823 ∷ # 1 ∷ []) ∷ (∄ ∷ # 1 ∷ []) ∷ [];
      minimum = (# 1073741823 ∷ # 1 ∷ []) ∷ (∄ ∷ # 1 ∷ []) ∷ [];
      sets = (● ∷ ○ ∷ []) ∷ (○ ∷ ● ∷ []) ∷ [];
      joined_rows = (# 1073741823 ∷ # 1 ∷ []) ∷ (∄ ∷ # 1 ∷ []) ∷ [];
      fused = (# 1073741823 ∷ # 1 ∷ []) ∷ (∄ ∷ # 1 ∷ []) ∷ [];
      pair = none;
      again = none;
    }
    -- shared in the marked column, it is evidence
    ∷ record {
      first = image_of (marked 7 ∷ column 8 ∷ column 9 ∷ []) ((∄ ∷ # 2 ∷ ∅ ∷ []) ∷ []);
      second = image_of three ((∄ ∷ ∅ ∷ # 3 ∷ []) ∷ []);
      columns = marked 7 ∷ column 8 ∷ column 9 ∷ [];
      union = none_shared;
      minimum = none_shared;
      sets = (● ∷ ● ∷ []) ∷ [];
      joined_rows = (∄ ∷ # 2 ∷ # 3 ∷ []) ∷ [];
      fused = (∄ ∷ # 2 ∷ # 3 ∷ []) ∷ [];
      pair = none;
      again = none;
    }
    -- shared beside the marked column, it isn't
    ∷ record {
      first = image_of (column 7 ∷ marked 8 ∷ column 9 ∷ []) ((∄ ∷ # 2 ∷ ∅ ∷ []) ∷ []);
      second = image_of three ((∄ ∷ ∅ ∷ # 3 ∷ []) ∷ []);
      columns = column 7 ∷ marked 8 ∷ column 9 ∷ [];
      union = none_shared;
      minimum = none_shared;
      sets = (● ∷ ○ ∷ []) ∷ (○ ∷ ● ∷ []) ∷ [];
      joined_rows = none_shared;
      fused = none_shared;
      pair = none;
      again = none;
    }
    ∷ []

-- two lists have the same elements at the same indices
abbrev same : {A : Type 0} → (A → A → Bool) → List A → List A → Bool
same eq [] [] = true
same eq [] (y ∷ t) = false
same eq (x ∷ s) [] = false
same eq (x ∷ s) (y ∷ t) = eq x y && same eq s t

-- what the paper says besides passes the test
abbrev if_said : {A : Type 0} → (A → Bool) → Option A → Bool
if_said test none = true
if_said test (some x) = test x

abbrev values : Outcome → List ℕ
values (done counts) = counts
values (refused number table) = []

-- the tests of two rows, of which complementing is put both ways
pair_right : List ℕ → List ℕ → List ℕ → Verdicts → Bool
pair_right columns s t v =
    beq (same_row s t) v.equal
    && beq (share s t) v.sharing
    && beq (subsumes s t) v.subsuming
    && beq (subsumes t s) v.subsumed
    && beq (complement columns s t) v.complementing
    && beq (complement columns t s) v.complementing

-- the first row of a table
first_row : List ℕ → List ℕ
first_row image = get_or (image_rows image) 0 []

-- the image has the union's columns and these rows
has_rows : Case → List ℕ → List (List ℕ) → Bool
has_rows c image rows = same eqb image (image_of c.columns rows)

-- the joined rows, as the rows of one table, are fused
again_right : Case → List (List ℕ) → Bool
again_right c = has_rows c (fused_image (image_of c.columns c.joined_rows) (image_of c.columns []))

-- rows, words written, filled cells, sets and words of the set list
counts : Case → List ℕ
counts c =
    length c.fused ∷ length (image_of c.columns c.fused) ∷ filled (flatten c.fused)
    ∷ length c.sets ∷ (1 + 4 * length c.sets) ∷ []

-- the three images, the sets, their joined rows, the counts of the answer, and what the paper says besides are as expected
right : Case → Bool
right c =
    let a = c.first in
    let b = c.second in
    let t = union_rows a b in
    let sets = union_sets c.columns t in
    has_rows c (outer_image a b) c.union
    && has_rows c (minimum_image a b) c.minimum
    && has_rows c (fused_image a b) c.fused
    && same (same beq) sets c.sets
    && same same_row (map (joined t) sets) c.joined_rows
    && same eqb (values (complement_outcome a b 100 100)) (counts c)
    && if_said (pair_right c.columns (first_row a) (first_row b)) c.pair
    && if_said (again_right c) c.again

paper : all right cases ≡ true
unfolding pair_right first_row has_rows again_right counts right all any filter find_index distinct all_below sum_below image_of flatten insert ascending
    compare_row union_ids union_columns widened widened_rows union_rows filled covers subsumes minimum_rows same_row agree share marked_cells counted_cells complement contains subsets
    adjacent_to_all is_complementing is_maximal maximal_sets members join join_all joined union_sets fused_rows bits marks_from record_of set_record list_of set_list
    image_number pair_outcome outer_image minimum_image fused_image complement_outcome
paper = refl
