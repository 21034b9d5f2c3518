-- Laws of the words that are written of records: the parts of one record's, written into a buffer, and how many those of all are. Assumes nothing.
use mathlib.Core.Path.{◌≡◌, refl, ◌∙◌, ap, ap₂, subst}
use mathlib.Core.List.{List, [], ◌∷◌, ◌++◌, append_assoc, flatten}
use Prim.Native.Nat.{ℕ, ◌+◌, ◌*◌, ◌≤◌, ◌<◌}
use native.Mathlib.Omega.{arith}
use lib.ListN.{length, take, drop, set, length-set, length-append}
use lib.Seq.{length-take-le, set_split, drop_at}
use Rattle.std.specs.List.{sum_by}
use Rattle.std.proofs.lemmas.List.Sums.{sum_by-cons, sum_by-le}
use Rattle.definitions.specs.Limits.{mark_words, marks_per_word}
use Rattle.definitions.specs.Reading.{positions_of, positions_in, joined_position}
use Rattle.definitions.specs.ReadBack.{read_record}
use Rattle.definitions.proofs.Marks.{front_set}
use Rattle.lists.specs.Written.{Fits, Written}
use Rattle.lists.proofs.Writing.{written_length, as_written, one_written, then_written}
use Rattle.set_lists.specs.Marks.{entries}
use Rattle.set_lists.proofs.Parts.{left, over, left_fits, left_written}
use Rattle.set_lists.proofs.Positions.{members_few}

-- ---- how many they are

entry_length : (m : ℕ) (words : List ℕ) → length (read_record m words) ≡ 2 + length (positions_in m words)
entry_length m words = omega (arith, length-append (positions_in m words) (joined_position m words ∷ []))

-- the mark words alone tell
pub entry_count : (m : ℕ) (words : List ℕ) {members : ℕ} → m ≤ length words
    → members ≡ length (positions_in (length (take m words)) (take m words)) → 2 + members ≡ length (read_record m words)
entry_count m words h e =
    omega (arith, entry_length m words, e ∙ ap (λ s. length (positions_of 0 s)) (front_set m words refl h))

entry_few : (m : ℕ) (words : List ℕ) → length (read_record m words) ≤ 2 + marks_per_word * m
entry_few m words = omega (arith, entry_length m words, members_few m words)

abbrev pub entry_size : List ℕ → ℕ
entry_size r = length (read_record mark_words r)

pub entries_count : (records : List (List ℕ)) → length (entries records) ≡ sum_by entry_size records
unfolding flatten
entries_count [] = refl
entries_count (r ∷ records) =
    omega (arith, length-append (read_record mark_words r) (entries records), entries_count records, sum_by-cons entry_size r records)

pub entries_few : (records : List (List ℕ)) → sum_by entry_size records ≤ length records * (2 + marks_per_word * mark_words)
entries_few records = sum_by-le entry_size (2 + marks_per_word * mark_words) records (λ k d h. entry_few mark_words _)

-- ---- one record's words, written over the front of a buffer

module _ (m : ℕ) (words b : List ℕ) (h : m ≤ length words) (fits : Fits b 0 (read_record m words)) where
  abbrev front : List ℕ
  front = positions_in (length (take m words)) (take m words)

  front_is : front ≡ positions_in m words
  front_is = ap (positions_of 0) (front_set m words refl h)

  room : Fits b 1 front
  room = omega (arith, ap length front_is, entry_length m words)

  pub members_fit : Fits (left 1 b) 0 front
  members_fit = left_fits b 1 front room

  module _ {a : List ℕ} {n : ℕ} (q : Written (left 1 b) 0 front a n) where
    pub members_small : n ≤ marks_per_word * m
    members_small = omega (arith, q.ends, ap length front_is, members_few m words)

    abbrev counted : List ℕ
    counted = set (over 1 b a) 0 n

    -- their number is written before them
    count_written : Written b 0 (n ∷ front) counted (1 + n)
    count_written =
        let p = left_written b 1 front room q in
        let behind : drop 1 (over 1 b a) ≡ front ++ drop (1 + n) b =
        ap (drop 1) (p.holds ∙ append_assoc (take 1 b) front (drop (1 + n) b))
        ∙ drop_at (take 1 b) (front ++ drop (1 + n) b) 1 (length-take-le 1 b (omega (arith, room))) in
        record {
          ends = omega (arith, q.ends);
          within = p.within;
          holds = set_split (over 1 b a) 0 n (omega (arith, written_length p, room)) ∙ ap (λ (l : List ℕ). n ∷ l) behind;
        }

    -- whatever number is written before them
    pub row_room : (x : ℕ) → 1 + n < length (set (over 1 b a) 0 x)
    row_room x =
        omega (arith, fits, length-set (over 1 b a) 0 x, written_length (left_written b 1 front room q), q.ends, ap length front_is, entry_length m words)

    pub entry_written : {row : ℕ} → row ≡ joined_position m words → Written b 0 (read_record m words) (set counted (1 + n) row) (2 + n)
    entry_written {row} g =
        let step : 1 + n + 1 ≡ 2 + n = omega arith in
        let count : n ≡ length (positions_in m words) = omega (arith, q.ends, ap length front_is) in
        subst (λ (k : ℕ). Written b 0 (read_record m words) (set counted (1 + n) row) k) step
        (as_written (ap₂ (λ (k : ℕ) (l : List ℕ). k ∷ (l ++ (row ∷ []))) count front_is ∙ ap (λ (x : ℕ). length (positions_in m words) ∷ (positions_in m words ++ (x ∷ []))) g)
        (then_written count_written (one_written counted (1 + n) row (row_room n))))
