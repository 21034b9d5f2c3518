-- The text of a program by its cases: a ragged file, two images, and the buffer afterwards. Assumes nothing.
use mathlib.Core.Path.{◌≡◌, refl, sym, ◌∙◌, ap, ap₂}
use mathlib.Core.List.{List, ◌++◌}
use Prim.Native.Nat.{ℕ, ◌%◌, ◌≤◌, ◌<◌, min}
use native.Mathlib.Nat.{zero-add}
use native.Mathlib.Omega.{arith}
use lib.Dec.{leb}
use lib.ListN.{length, take, drop}
use Rattle.std.proofs.lemmas.List.{take_min}
use borrow.Author.Tests.{eq-eqb, ne_eqb, le-leb, lt-leb, leb-true}
use Rattle.definitions.specs.declared.Output.{Output}
use Rattle.std.specs.Prelude.{Option, Some, None}
use Rattle.definitions.specs.Text.{ascii}
use Rattle.definitions.specs.Listing.{ragged_line}
use Rattle.definitions.specs.Program.{max_bytes, words_of, unions_text, read_text, whole_text, max_text}
use Rattle.definitions.specs.Outputs.{printed, whole_output}
use Rattle.definitions.specs.TextPromise.{TextPromise}
use Rattle.definitions.proofs.Bools.{bool_cases}
use Rattle.definitions.proofs.TextLength.{unions_bound, read_bound, output_bound}
use Rattle.lists.specs.Written.{Fits, Written}

-- a text that is that of two images has room
pub unions_fit : (output : Output) (out a b text : List ℕ) → text ≡ unions_text (printed output) a b → max_text ≤ length out → Fits out 0 text
unions_fit output out a b text e h = omega (arith, ap length e, unions_bound output a b)

-- ---- the bytes of two files

module _ (output : Output) (board plant : List ℕ) where
  pub ragged_board : (length board % 4 ≡ 0 → ⊥) → ragged_line (ascii "board.tbl") ≡ read_text (printed output) board plant
  unfolding read_text
  ragged_board h = sym (rw (ne_eqb (length board % 4) 0 h))

  pub ragged_plant : length board % 4 ≡ 0 → (length plant % 4 ≡ 0 → ⊥) → ragged_line (ascii "plant.tbl") ≡ read_text (printed output) board plant
  unfolding read_text
  ragged_plant h k = sym (rw (eq-eqb (length board % 4) 0 h, ne_eqb (length plant % 4) 0 k))

  pub whole_words : length board % 4 ≡ 0 → length plant % 4 ≡ 0
      → unions_text (printed output) (words_of board) (words_of plant) ≡ read_text (printed output) board plant
  unfolding read_text
  whole_words h k = sym (rw (eq-eqb (length board % 4) 0 h, eq-eqb (length plant % 4) 0 k))

-- a text that is that of two files has room
pub read_fits : (output : Output) (out board plant text : List ℕ) → text ≡ read_text (printed output) board plant → max_text ≤ length out
    → Fits out 0 text
read_fits output out board plant text e h = omega (arith, ap length e, read_bound output board plant)

-- ---- what is read of a file

take_least : (l : List ℕ) (n m : ℕ) → n ≡ min (length l) m → take n l ≡ take m l
take_least l n m e = let s : n ≡ min m (length l) = omega arith in ap (λ (k : ℕ). take k l) s ∙ take_min m l

pub read_whole : (output : Output) (board plant : List ℕ) (m n : ℕ) → m ≡ min (length board) max_bytes → n ≡ min (length plant) max_bytes
    → read_text (printed output) (take m board) (take n plant) ≡ whole_output output board plant
unfolding whole_text
read_whole output board plant m n e f = ap₂ (read_text (printed output)) (take_least board m max_bytes e) (take_least plant n max_bytes f)

-- ---- the promise

pub too_short : (whole found : List ℕ) → length found < max_text → TextPromise whole found None found
too_short whole found h = record { answers = rw (lt-leb max_text (length found) h); writes = rw (lt-leb max_text (length found) h) }

pub written_whole : (whole found text after : List ℕ) (end : ℕ) → max_text ≤ length found → text ≡ whole → Written found 0 text after end
    → TextPromise whole found (Some end) after
written_whole whole found text after end h e w =
    let size : end ≡ length whole = w.ends ∙ zero-add (length text) ∙ ap length e in
    record {
      answers = rw (le-leb max_text (length found) h) (ap Some size);
      writes = rw (le-leb max_text (length found) h) (w.holds ∙ ap₂ (λ (t : List ℕ) (n : ℕ). t ++ drop n found) e size);
    }

-- a done answer's bytes are in the buffer
pub done_within : (output : Output) (board plant found : List ℕ) (answer : Option ℕ) (n : ℕ) (after : List ℕ) → answer ≡ Some n
    → TextPromise (whole_output output board plant) found answer after → length after ≡ length found → n ≤ length after
done_within output board plant found answer n after is p h =
    bool_cases (leb max_text (length found))
    (λ e.
    let room = leb-true max_text (length found) e in
    let same : answer ≡ Some (length (whole_output output board plant)) = p.answers ∙ rw e refl in
    let size : n ≡ length (whole_output output board plant) = cc in
    omega (arith, output_bound output board plant))
    (λ e.
    let same : answer ≡ None = p.answers ∙ rw e refl in
    absurd (let z : ◌≡◌ {A = ℕ} 0 1 = cc in omega arith))
