-- The words of an image that is written: its head, then its rows, and what the buffer held past them. Assumes nothing.
use mathlib.Core.Path.{◌≡◌, refl, sym, ◌∙◌, ap, ap₂}
use mathlib.Core.List.{List, ◌∷◌, ◌++◌, flatten}
use Prim.Native.Nat.{ℕ, ◌+◌, ◌≤◌, ◌<◌}
use native.Mathlib.Nat.{zero-add}
use native.Mathlib.Omega.{arith}
use lib.ListN.{length, take, drop, set, length-append}
use lib.Seq.{paste, paste-zero, paste-suc, take_all, take-paste, drop-paste, drop-drop}
use Rattle.definitions.specs.Word.{header_word}
use Rattle.definitions.specs.Image.{image_of}
use Rattle.lists.proofs.Pastes.{paste_more}

-- two lists one after the other over the front
pub paste_two : {A : Type 0} (d s t x y : List A) (n m : ℕ) → length s ≡ n → length t ≡ m → n + m ≤ length d → x ≡ paste d 0 s n → y ≡ paste x n t m
    → y ≡ (s ++ t) ++ drop (length (s ++ t)) d
paste_two {A} d s t x y n m es et fits ex ey =
    let whole : length (s ++ t) ≡ n + m = length-append s t ∙ ap₂ ◌+◌ es et in
    let front : take n x ≡ s =
    ap (take n) ex ∙ ap (λ (k : ℕ). take k (paste d 0 s n)) (sym (zero-add n)) ∙ take-paste d 0 s n (omega arith) (omega arith) ∙ take_all n s (omega arith) in
    let past : drop n x ≡ drop n d =
    ap (drop n) ex ∙ ap (λ (k : ℕ). drop k (paste d 0 s n)) (sym (zero-add n)) ∙ drop-paste d 0 s n (omega arith) (omega arith)
    ∙ ap (λ (k : ℕ). drop k d) (zero-add n) in
    let back : drop (n + m) x ≡ drop (length (s ++ t)) d = sym (drop-drop m n x) ∙ ap (drop m) past ∙ drop-drop m n d ∙ ap (λ (k : ℕ). drop k d) (sym whole) in
    ey ∙ ap₂ (λ (p q : List A). p ++ take m t ++ q) front back ∙ ap (λ (p : List A). s ++ p ++ drop (length (s ++ t)) d) (take_all m t (omega arith))

-- the head of an image and then its rows are the image
pub image_written : (d x y columns : List ℕ) (rows : List (List ℕ)) (n m : ℕ) → length columns ≡ n → length (flatten rows) ≡ m → 1 + n + m ≤ length d
    → x ≡ paste d 0 (header_word (length rows) n ∷ columns) (1 + n) → y ≡ paste x (1 + n) (flatten rows) m
    → y ≡ image_of columns rows ++ drop (length (image_of columns rows)) d
unfolding image_of
image_written d x y columns rows n m ei er fits ex ey =
    let head : List ℕ = header_word (length rows) n ∷ columns in
    paste_two d head (flatten rows) x y (1 + n) m (omega arith) er fits ex ey
    ∙ ap (λ (k : ℕ). let l = header_word (length rows) k ∷ (columns ++ flatten rows) in l ++ drop (length l) d) (sym ei)

-- the header and then the column words are the head
pub head_written : (d x y columns : List ℕ) (h : ℕ) → length columns < length d → x ≡ set d 0 h → y ≡ paste x 1 columns (length columns)
    → y ≡ paste d 0 (h ∷ columns) (1 + length columns)
head_written d x y columns h fits ex ey =
    let s : List ℕ = h ∷ columns in
    let one : x ≡ paste d 0 s 1 = ex ∙ ap (λ (l : List ℕ). set l 0 h) (paste-zero d 0 s) ∙ paste-suc d 0 s 0 0 (omega arith) (omega arith) in
    ey ∙ ap (λ (l : List ℕ). paste l 1 columns (length columns)) one ∙ paste_more d 0 s 1 columns (length columns) (omega arith) (omega arith) refl
