-- The words of the set list, record by record, as they are written. Assumes nothing.
use mathlib.Core.Path.{◌≡◌, refl, sym, ◌∙◌, ap, ap₂}
use mathlib.Core.List.{List, [], ◌∷◌, ◌++◌, flatten}
use Prim.Native.Nat.{ℕ, ◌+◌, ◌*◌, ◌/◌, ◌%◌, ◌^◌, ◌<◌, ◌≤◌}
use native.Mathlib.Omega.{arith}
use lib.ListN.{length, get_or, set, drop, length-append}
use Rattle.std.proofs.lemmas.List.{drop_more, drop_all}
use Rattle.definitions.specs.Limits.{mark_words, set_width}
use Rattle.definitions.specs.Word.{word_of, header_word}
use Rattle.definitions.specs.SetList.{marks_from, record_of, list_of}
use Rattle.definitions.proofs.Counts.{record_length}
use Rattle.lists.specs.Written.{Fits, Written}
use Rattle.lists.proofs.Writing.{Writing, starts, rest_as, fits_next, turns, ends, one_written}
use Rattle.set_lists.specs.Records.{records_of, Listable}

pub record_words : (set position : ℕ)
    → record_of mark_words set position ≡ word_of 2 (set % 2 ^ 30) ∷ word_of 2 (set / 2 ^ 30 % 2 ^ 30) ∷ word_of 2 (set / 2 ^ 30 / 2 ^ 30 % 2 ^ 30) ∷ word_of 1 position ∷ []
unfolding record_of marks_from
record_words set position = refl

module _ (sets positions : List ℕ) where
  abbrev pub records_from : ℕ → List ℕ
  records_from k = flatten (records_of (drop k sets) (drop k positions))

  records_count : (s p : List ℕ) → length s ≤ length p → length (records_of s p) ≡ length s
  unfolding records_of
  records_count [] p e = refl
  records_count (set ∷ s) [] e = absurd (omega arith)
  records_count (set ∷ s) (position ∷ p) e = omega (arith, records_count s p (omega arith))

  records_size : (s p : List ℕ) → length s ≤ length p → length (flatten (records_of s p)) ≡ set_width * length s
  unfolding records_of flatten
  records_size [] p e = refl
  records_size (set ∷ s) [] e = absurd (omega arith)
  records_size (set ∷ s) (position ∷ p) e =
      omega (
        arith,
        length-append (record_of mark_words set position) (flatten (records_of s p)),
        record_length mark_words set position,
        records_size s p (omega arith),
      )

  module _ (found : List ℕ) where
    abbrev whole : List ℕ
    whole = list_of mark_words (records_of sets positions)

    -- the header and the records before k are written
    pub record ListWritten (k at : ℕ) (m : List ℕ) : Type 0 where
      pub place : at ≡ 1 + set_width * k
      pub writing : Writing found 0 whole (records_from k) m at

    module _ (fits : Listable sets positions) (room : 1 + set_width * length sets ≤ length found) where
      whole_size : length whole ≡ 1 + set_width * length sets
      unfolding list_of
      whole_size = omega (arith, records_size sets positions fits.paired)

      pub list_start : {h : ℕ} → h ≡ header_word (length sets) set_width → ListWritten 0 1 (set found 0 h)
      unfolding list_of
      list_start {h} e = record {
        place = refl;
        writing = turns (records_from 0)
            (rest_as (ap (λ (x : ℕ). x ∷ flatten (records_of sets positions)) (ap (λ (n : ℕ). header_word n set_width) (records_count sets positions fits.paired) ∙ sym e))
            (starts found 0 whole (omega (arith, whole_size))))
            (one_written found 0 h (omega arith));
      }

      module _ {k at : ℕ} {m : List ℕ} (w : ListWritten k at m) where
        module _ (h : k < length sets) (s p : ℕ) (e : s ≡ get_or sets k 0) (g : p ≡ get_or positions k 0) where
          next_record : Writing found 0 whole (record_of mark_words s p ++ records_from (k + 1)) m at
          unfolding records_of flatten
          next_record =
              rest_as
              (ap₂ (λ (x y : List ℕ). flatten (records_of x y)) (drop_more sets k 0 h) (drop_more positions k 0 (omega (arith, fits.paired)))
              ∙ ap₂ (λ (x y : ℕ). record_of mark_words x y ++ records_from (k + 1)) (sym e) (sym g))
              w.writing

          pub record_room : Fits m at (record_of mark_words s p)
          record_room = fits_next (record_of mark_words s p) (records_from (k + 1)) next_record

          pub record_turn : {more : ℕ} {a : List ℕ} → more ≡ k + 1 → Written m at (record_of mark_words s p) a (at + set_width)
              → ListWritten more (at + set_width) a
          record_turn e q = record {
            place = omega (arith, w.place, e);
            writing = rest_as (ap records_from (sym e)) (turns (records_from (k + 1)) next_record q);
          }

        pub list_end : length sets ≤ k → m ≡ whole ++ drop (1 + set_width * length sets) found
        unfolding records_of flatten
        list_end h =
            let q = ends (rest_as (ap (λ (x : List ℕ). flatten (records_of x (drop k positions))) (drop_all k sets h)) w.writing) in
            let size : at ≡ 1 + set_width * length sets = omega (arith, q.ends, whole_size) in
            q.holds ∙ ap (λ (n : ℕ). whole ++ drop n found) size
