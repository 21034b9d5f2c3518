-- Sets of positions as numbers: bit k says whether position k is in the set. No width stands here: a set in several words is the number that they make.
use Rattle.std.specs.Prelude.{◌≡◌, Bool, true, cond, ℕ, zero, suc, ◌+◌, ◌-◌, ◌/◌, ◌%◌, ◌^◌, ◌<◌, eqb}
use Rattle.std.specs.Int.Bits.{bit_and, bit_or, bit_xor}
use Rattle.std.specs.Int.Count.{count_trailing_zeros}
use Rattle.std.specs.declared.cmp.Ordering.{Ordering}
use Rattle.std.specs.declared.cmp.Ordering.TheVariants.{Less, Equal, Greater}

-- the positions that a machine word holds: the operations of this crate are on one word
abbrev pub word_bits : ℕ
word_bits = 64

-- position k is in the set
unfoldable pub has : ℕ → ℕ → Bool
has set k = eqb (set / 2 ^ k % 2) 1

-- the positions that are in both
unfoldable pub both : ℕ → ℕ → ℕ
both a b = bit_and a b

-- all of a is in b
unfoldable pub is_sub : ℕ → ℕ → Bool
is_sub a b = eqb (both a b) a

-- the set with position k
unfoldable pub with_row : ℕ → ℕ → ℕ
with_row set k = bit_or set (2 ^ k)

-- the positions that are in one of them only
unfoldable pub only_one : ℕ → ℕ → ℕ
only_one a b = bit_xor a b

-- the positions of a that are not in b
unfoldable pub but_not : ℕ → ℕ → ℕ
but_not a b = only_one a (both a b)

-- the positions below i
unfoldable pub rows_below : ℕ → ℕ
rows_below i = 2 ^ i - 1

-- all of the set lies below n
abbrev pub Inside : ℕ → ℕ → Type 0
Inside set n = (k : ℕ) → has set k ≡ true → k < n

-- the smallest position of a set that is not empty: a number has fewer digits than it counts
unfoldable pub lowest : ℕ → ℕ
lowest set = count_trailing_zeros set set

-- the set without its smallest position: one less has another digit there and below, and no other above
unfoldable pub without_lowest : ℕ → ℕ
without_lowest set = bit_and set (set - 1)

-- set order: "look at the smallest position that only one of them holds: the set with it comes first"
unfoldable pub compare_bits : ℕ → ℕ → Ordering
compare_bits a b = cond (eqb a b) Equal (cond (has a (lowest (only_one a b))) Less Greater)

-- all of a is in b, as a statement
abbrev pub Sub : ℕ → ℕ → Type 0
Sub a b = (k : ℕ) → has a k ≡ true → has b k ≡ true

-- the positions that are in one of them or in both
unfoldable pub either : ℕ → ℕ → ℕ
either a b = bit_or a b

-- how many positions below n are in the set
unfoldable pub size_below : ℕ → ℕ → ℕ
size_below zero set = 0
size_below (suc n) set = size_below n set + cond (has set n) 1 0
