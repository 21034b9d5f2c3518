-- Laws of the members of sets as positions: those of a mark word bit by bit, and of mark words one by one. Assumes nothing.
use mathlib.Core.Path.{◌≡◌, refl, sym, ◌∙◌, ap, subst}
use mathlib.Core.List.{List, [], ◌∷◌, ◌++◌}
use Prim.Native.Nat.{ℕ, ◌+◌, ◌*◌, ◌%◌, ◌^◌, ◌≤◌, ◌<◌}
use native.Mathlib.Omega.{arith}
use lib.Count.{ones}
use lib.ListN.{length, get_or, drop, set, length-append}
use Rattle.std.specs.List.{sum_by}
use Rattle.std.proofs.lemmas.List.Sums.{sum_by-cons}
use Rattle.std.proofs.lemmas.List.{drop_more, drop_all}
use Rattle.definitions.specs.Limits.{marks_per_word}
use Rattle.definitions.specs.Lists.{tabulate}
use Rattle.definitions.specs.Reading.{marks_in, set_in, positions_of, positions_in}
use Rattle.definitions.proofs.Positions.{positions_count}
use Rattle.definitions.proofs.Reading.{marks_count}
use Rattle.bitsets.specs.Members.{Next}
use Rattle.bitsets.proofs.Bits.{digit_below, lowest_inside, rest_less}
use Rattle.bitsets.proofs.Positions.{positions_below, positions_none, positions_next, positions_ones}
use Rattle.lists.specs.Written.{Fits, Written}
use Rattle.lists.proofs.Writing.{Writing, starts, rest_as, fits_next, turns, ends, one_written}
use Rattle.set_lists.specs.Marks.{word_positions}
use Rattle.set_lists.proofs.Parts.{left, over, left_fits, left_written}
use Rattle.set_lists.proofs.Marks.{mark_set, word_bits_lem, positions_words}

-- ---- a mark word

-- its positions are those of its low bits
pub word_positions_lem : (from w : ℕ) → word_positions from w ≡ positions_below marks_per_word from (w % 2 ^ marks_per_word)
word_positions_lem from w = ap (positions_of from) (word_bits_lem w)

-- as many as these have ones
word_count : (from w : ℕ) → length (word_positions from w) ≡ ones (w % 2 ^ marks_per_word)
word_count from w = ap length (word_positions_lem from w) ∙ positions_ones marks_per_word from (w % 2 ^ marks_per_word) (omega arith)

-- a step of the walk over the bits that are left: the lowest has the next position
module _ {rest position others : ℕ} (small : rest < 2 ^ marks_per_word) (n : Next rest position others) where
  pub bit_small : position < marks_per_word
  bit_small = lowest_inside rest position marks_per_word n.some n.first (λ k. digit_below marks_per_word rest k small)

  pub others_small : others < 2 ^ marks_per_word
  others_small = rw n.rest (omega (arith, rest_less rest n.some, small))

  pub next_position : (from : ℕ) → positions_below marks_per_word from rest ≡ (from + position) ∷ positions_below marks_per_word from others
  next_position from = rw (n.first, n.rest) (positions_next marks_per_word from rest n.some (λ k. digit_below marks_per_word rest k small))

-- the positions of a word are written but for those of the bits that are left
pub record WordWritten (from w : ℕ) (b : List ℕ) (rest : ℕ) (m : List ℕ) (mid : ℕ) : Type 0 where
  pub small : rest < 2 ^ marks_per_word
  pub writing : Writing b 0 (word_positions from w) (positions_below marks_per_word from rest) m mid

pub word_start : (from w : ℕ) (b : List ℕ) (rest : ℕ) → Fits b 0 (word_positions from w) → rest ≡ w % 2 ^ marks_per_word
    → WordWritten from w b rest b 0
word_start from w b rest h e =
    record {
      small = omega arith;
      writing = rest_as (word_positions_lem from w ∙ ap (positions_below marks_per_word from) (sym e)) (starts b 0 (word_positions from w) h);
    }

module _ {from w : ℕ} {b m : List ℕ} {rest mid : ℕ} (t : WordWritten from w b rest m mid) where
  module _ {position others : ℕ} (n : Next rest position others) where
    next_bit : Writing b 0 (word_positions from w) (((from + position) ∷ []) ++ positions_below marks_per_word from others) m mid
    next_bit = rest_as (next_position t.small n from) t.writing

    pub bit_fits : mid < length m
    bit_fits = omega (arith, fits_next ((from + position) ∷ []) (positions_below marks_per_word from others) next_bit)

    pub bit_turn : WordWritten from w b others (set m mid (from + position)) (mid + 1)
    bit_turn =
        record {
          small = others_small t.small n;
          writing = turns (positions_below marks_per_word from others) next_bit (one_written m mid (from + position) bit_fits);
        }

  -- as many as the low bits have ones
  pub word_end : {marks : ℕ} → rest ≡ 0 → marks ≡ w % 2 ^ marks_per_word → Written b 0 (word_positions from w) m (ones marks)
  word_end e g =
      let q = ends (rest_as (ap (positions_below marks_per_word from) e ∙ positions_none marks_per_word from) t.writing) in
      subst (λ (k : ℕ). Written b 0 (word_positions from w) m k) (omega (arith, q.ends, word_count from w, ap ones g)) q

-- ---- mark words

-- the positions that the words from i on mark
abbrev pub marked_from : List ℕ → ℕ → List ℕ
marked_from marks i = positions_of (marks_per_word * i) (mark_set (drop i marks))

pub marked_next : (marks : List ℕ) (i : ℕ) → i < length marks
    → marked_from marks i ≡ word_positions (marks_per_word * i) (get_or marks i 0) ++ marked_from marks (i + 1)
marked_next marks i h =
    let from : marks_per_word * i + marks_per_word ≡ marks_per_word * (i + 1) = omega arith in
    ap (λ (l : List ℕ). positions_of (marks_per_word * i) (mark_set l)) (drop_more marks i 0 h)
    ∙ positions_words (marks_per_word * i) (get_or marks i 0) (drop (i + 1) marks)
    ∙ ap (λ (k : ℕ). word_positions (marks_per_word * i) (get_or marks i 0) ++ positions_of k (mark_set (drop (i + 1) marks))) from

pub marked_end : (marks : List ℕ) (i : ℕ) → length marks ≤ i → marked_from marks i ≡ []
unfolding marks_in tabulate positions_of
marked_end marks i h = ap (λ (l : List ℕ). positions_of (marks_per_word * i) (mark_set l)) (drop_all i marks h)

-- at most as many as the words have bits for
pub members_few : (m : ℕ) (words : List ℕ) → length (positions_in m words) ≤ marks_per_word * m
members_few m words = omega (arith, positions_count 0 (set_in m words), marks_count (marks_per_word * m) words)

-- as many as the words have ones together
pub members_count : (from : ℕ) (marks : List ℕ)
    → length (positions_of from (mark_set marks)) ≡ sum_by (λ w. ones (w % 2 ^ marks_per_word)) marks
unfolding marks_in tabulate positions_of
members_count from [] = refl
members_count from (w ∷ marks) =
    ap length (positions_words from w marks)
    ∙ omega (
      arith,
      length-append (word_positions from w) (positions_of (from + marks_per_word) (mark_set marks)),
      word_count from w,
      members_count (from + marks_per_word) marks,
      sum_by-cons (λ w. ones (w % 2 ^ marks_per_word)) w marks,
    )

-- the positions of the words before i are written
pub record MarksWritten (marks b : List ℕ) (i : ℕ) (m : List ℕ) (mid : ℕ) : Type 0 where
  pub writing : Writing b 0 (positions_in (length marks) marks) (marked_from marks i) m mid

module _ {marks b m : List ℕ} {i mid : ℕ} (t : MarksWritten marks b i m mid) where
  module _ (h : i < length marks) (w : ℕ) (e : w ≡ get_or marks i 0) where
    abbrev here : List ℕ
    here = word_positions (marks_per_word * i) w

    next_word : Writing b 0 (positions_in (length marks) marks) (here ++ marked_from marks (i + 1)) m mid
    next_word =
        rest_as
        (marked_next marks i h ∙ ap (λ (x : ℕ). word_positions (marks_per_word * i) x ++ marked_from marks (i + 1)) (sym e))
        t.writing

    word_room : Fits m mid here
    word_room = fits_next here (marked_from marks (i + 1)) next_word

    pub word_fits : Fits (left mid m) 0 here
    word_fits = left_fits m mid here word_room

    pub word_turn : {a : List ℕ} {n : ℕ} → Written (left mid m) 0 here a n → MarksWritten marks b (i + 1) (over mid m a) (mid + n)
    word_turn q = record { writing = turns (marked_from marks (i + 1)) next_word (left_written m mid here word_room q) }

  pub marks_end : length marks ≤ i → Written b 0 (positions_in (length marks) marks) m mid
  marks_end h = ends (rest_as (marked_end marks i h) t.writing)
