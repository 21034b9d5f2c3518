-- Laws of rows written one after the other over a part of a list. Assumes nothing.
use mathlib.Core.Path.{◌≡◌, sym, ◌∙◌, ap, subst}
use mathlib.Core.Logic.{⊎_elim}
use mathlib.Core.List.{List, [], ◌∷◌, ◌++◌, flatten}
use Prim.Native.Nat.{ℕ, ◌+◌, ◌*◌, ◌<◌, ◌≤◌}
use native.Mathlib.Nat.{add-mul, one-mul, zero-add}
use native.Mathlib.Omega.{arith}
use lib.ListN.{length, get_or, take, drop, length-drop, length-map, get_or-map}
use lib.Seq.{paste, drop_at, length-take-le, take-append_seam}
use Rattle.definitions.proofs.Counts.{flatten-length}
use Rattle.definitions.proofs.Flat.{Wide, flat_row}
use Rattle.lists.proofs.Flat.{row_fits}
use Rattle.lists.proofs.Pastes.{Pasted, pasted_more}
use Rattle.rows.specs.Indices.{row_at, rows_at, Below, Fit}
use Rattle.std.proofs.lemmas.List.Elements.{All-from_recursion}
use Rattle.std.proofs.lemmas.List.Edits.{paste_all}
use Rattle.rows.proofs.Indices.{below_fit}

-- the rows at indices that fit are all c words long
pub fit_wide : (c : ℕ) (w l : List ℕ) → Fit c (length w) l → Wide c (rows_at c w l)
fit_wide c w [] h r k = absurd k
fit_wide c w (i ∷ l) h r k =
    ⊎_elim (λ e. ap length e ∙ length-take-le c (drop (i * c) w) (omega (arith, h.0, length-drop (i * c) w))) (λ q. fit_wide c w l h.1 r q) k

-- the rows at the indices l, written from the front of d on
module _ (d w l : List ℕ) (c n : ℕ) (fits : n * c ≤ length w) (below : Below n l) where
  fit : Fit c (length w) l
  fit = below_fit c n (length w) l fits below

  -- the words of the row at the index x, which stands at k
  row_wide : (k x : ℕ) → k < length l → x ≡ get_or l k 0 → (r : List ℕ) → r ≡ row_at c w x → length r ≡ c
  row_wide k x h e r er =
      let inside : x * c + c ≤ length w = subst (λ (i : ℕ). i * c + c ≤ length w) (sym e) (All-from_recursion (λ i. i * c + c ≤ length w) l fit k 0 h) in
      ap length er ∙ length-take-le c (drop (x * c) w) (omega (arith, length-drop (x * c) w))

  module _ (room : length l * c ≤ length d) (k x : ℕ) (h : k < length l) (e : x ≡ get_or l k 0) (r : List ℕ) (er : r ≡ row_at c w x) where
    -- it has room
    pub row_room : (cur : List ℕ) → Pasted d 0 (flatten (rows_at c w l)) (k * c) cur → k * c + length r ≤ length cur
    row_room cur p = omega (arith, row_wide k x h e r er, row_fits c (length l) k h, p.size)

    -- a row more
    pub rows_turn : (cur new : List ℕ) → Pasted d 0 (flatten (rows_at c w l)) (k * c) cur → new ≡ paste cur (k * c) r (length r)
        → Pasted d 0 (flatten (rows_at c w l)) ((k + 1) * c) new
    rows_turn cur new p q =
        let words = flatten (rows_at c w l) in
        let all : length (rows_at c w l) ≡ length l = length-map l (row_at c w) in
        let size : length words ≡ length l * c = flatten-length c (rows_at c w l) (fit_wide c w l fit) ∙ ap (λ (n : ℕ). n * c) all in
        let fits : k * c + c ≤ length l * c = row_fits c (length l) k h in
        let wide : length r ≡ c = row_wide k x h e r er in
        let row : take c (drop (k * c) words) ≡ r =
        flat_row c (row_at c w 0) (rows_at c w l) k (fit_wide c w l fit) (omega (arith, all))
        ∙ get_or-map (row_at c w) l k 0 ∙ ap (row_at c w) (sym e) ∙ sym er in
        let next : k * c + c ≡ (k + 1) * c = omega (arith, add-mul k 1 c, one-mul c) in
        subst (λ (n : ℕ). Pasted d 0 words n new) next
        (pasted_more d 0 words (k * c) cur new r c (k * c) (omega arith) (omega (arith, size)) p (sym (zero-add (k * c))) wide row
        (q ∙ ap (paste cur (k * c) r) wide))

module _ (d w o : List ℕ) (at c : ℕ) (fit : Fit c (length w) o) where
  -- the words of the rows at the indices
  abbrev pub row_words : List ℕ
  row_words = flatten (rows_at c w o)

  abbrev size : ℕ
  size = length o * c

  pub row_words_length : length row_words ≡ size
  row_words_length = flatten-length c (rows_at c w o) (fit_wide c w o fit) ∙ ap (λ (n : ℕ). n * c) (length-map o (row_at c w))

  -- the words from `at` on afterwards
  pub words_stand : at ≤ length d → take size (drop at (paste d at row_words size)) ≡ row_words
  words_stand room =
      let rest = drop (at + size) d in
      ap (λ (s : List ℕ). take size (drop at s)) (paste_all d at row_words size (sym row_words_length))
      ∙ ap (take size) (drop_at (take at d) (row_words ++ rest) at (length-take-le at d room))
      ∙ ap (λ (k : ℕ). take k (row_words ++ rest)) (sym row_words_length)
      ∙ take-append_seam row_words rest
