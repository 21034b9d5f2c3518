-- Laws of the text of a cell: that of `none`, of the empty cell and of a number, what holds of all three, and how long it is. Assumes
-- nothing.
use mathlib.Core.Path.{◌≡◌}
use mathlib.Core.List.{List}
use Prim.Native.Nat.{ℕ, ◌%◌, ◌^◌, ◌≤◌, ◌<◌}
use native.Mathlib.Omega.{arith}
use lib.Dec.{eqb}
use lib.ListN.{length}
use borrow.Author.Tests.{eq-eqb, ne_eqb, eqb-true, eqb-false}
use Rattle.definitions.proofs.Bools.{bool_cases}
use Rattle.definitions.specs.Word.{none}
use Rattle.definitions.specs.Text.{ascii, decimal, cell_text}
use Rattle.definitions.proofs.Digits.{decimal-length}

pub none_text : (w : ℕ) → w ≡ none → cell_text w ≡ ascii "none"
unfolding cell_text
none_text w h = rw (eq-eqb w none h)

pub empty_text : (w : ℕ) → w ≡ 0 → cell_text w ≡ ascii "-"
unfolding cell_text
empty_text w h = rw h

pub number_text : (w : ℕ) → (w ≡ 0 → ⊥) → (w ≡ none → ⊥) → cell_text w ≡ decimal (w % 2 ^ 30)
unfolding cell_text
number_text w h g = rw (ne_eqb w none g, ne_eqb w 0 h)

-- what holds of `none`, of `-` and of the text of each number holds of the text of each cell
pub each_text : (P : List ℕ → Type 0) → P (ascii "none") → P (ascii "-") → ((n : ℕ) → n < 2 ^ 30 → P (decimal n)) → (w : ℕ) → P (cell_text w)
each_text P known empty number w =
    bool_cases (eqb w none)
    (λ e. rw (none_text w (eqb-true w none e)) known)
    (λ e.
    bool_cases (eqb w 0)
    (λ q. rw (empty_text w (eqb-true w 0 q)) empty)
    (λ q. rw (number_text w (eqb-false w 0 q) (eqb-false w none e)) (number (w % 2 ^ 30) (omega arith))))

-- at most ten digits
pub cell_length : (w : ℕ) → length (cell_text w) ≤ 10
cell_length = each_text (λ text. length text ≤ 10) (omega arith) (omega arith) (λ n h. decimal-length 9 n (omega (arith, h)))
