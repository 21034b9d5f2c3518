-- A text that is written over the front of what a buffer has left. Assumes nothing.
use mathlib.Core.Path.{◌≡◌, sym, ◌∙◌, ap, ap₂}
use borrow.Rule.Slice.PartMut.{put_mid, post_of}
use mathlib.Core.List.{List, [], ◌++◌, append_assoc, append-nil, flatten, map}
use Prim.Native.Nat.{ℕ, ◌+◌, ◌-◌, ◌<◌, ◌≤◌}
use native.Mathlib.Omega.{arith}
use lib.ListN.{length, get_or, take, drop, length-drop}
use lib.Seq.{drop-drop}
use Rattle.std.proofs.lemmas.List.{drop_more, drop_all, take_rest}
use Rattle.lists.specs.Written.{Fits, Written}
use Rattle.lists.proofs.Walks.{rest_size}
use Rattle.lists.proofs.Writing.{Writing, rest_as, fits_next, turns, ends}

-- what a buffer has left, and the buffer with it written over
abbrev pub left : ℕ → List ℕ → List ℕ
left mid m = take (length m - mid) (drop mid m)

abbrev pub over : ℕ → List ℕ → List ℕ → List ℕ
over mid m a = put_mid mid (length m - mid) m a

module _ (m : List ℕ) (mid : ℕ) (text : List ℕ) (h : Fits m mid text) where
  pub left_fits : Fits (left mid m) 0 text
  left_fits = omega (arith, rest_size mid m)

  module _ {a : List ℕ} {n : ℕ} (q : Written (left mid m) 0 text a n) where
    none_behind : post_of mid (length m - mid) m ≡ []
    none_behind = drop_all (length m - mid) (drop mid m) (omega (arith, length-drop mid m))

    pub left_written : Written m mid text (over mid m a) (mid + n)
    left_written =
        record {
          ends = omega (arith, q.ends);
          within = omega (arith, q.ends);
          holds = ap₂ (λ (x y : List ℕ). take mid m ++ (x ++ y))
              (q.holds ∙ ap (λ (l : List ℕ). text ++ drop n l) (take_rest m mid)) none_behind
              ∙ ap (λ (l : List ℕ). take mid m ++ l) (append-nil (text ++ drop n (drop mid m)))
              ∙ sym (append_assoc (take mid m) text (drop n (drop mid m)))
              ∙ ap (λ (l : List ℕ). take mid m ++ text ++ l) (drop-drop n mid m);
        }

-- a text of n elements is copied over those from `at` on
pub copied_over : (m : List ℕ) (at n : ℕ) {text a : List ℕ} → Fits m at text → length text ≡ n → a ≡ text
    → Written m at text (put_mid at (at + n - at) m a) (at + n)
copied_over m at n {text} {a} h size e =
    let count : at + n - at ≡ n = omega arith in
    record {
      ends = omega (arith, size);
      within = omega (arith, size);
      holds = ap₂ (λ (x : List ℕ) (k : ℕ). take at m ++ (x ++ drop k (drop at m))) e count
          ∙ sym (append_assoc (take at m) text (drop n (drop at m)))
          ∙ ap (λ (l : List ℕ). take at m ++ text ++ l) (drop-drop n at m);
    }

-- ---- a text f for each of some elements

module _ {A : Type 0} (f : A → List ℕ) (xs : List A) where
  abbrev pub texts_from : ℕ → List ℕ
  texts_from i = flatten (map f (drop i xs))

  -- those of the elements before i are written
  pub record Each (b : List ℕ) (i : ℕ) (m : List ℕ) (mid : ℕ) : Type 0 where
    pub writing : Writing b 0 (texts_from 0) (texts_from i) m mid

module _ {A : Type 0} {f : A → List ℕ} {xs : List A} {b m : List ℕ} {i mid : ℕ} (w : Each f xs b i m mid) where
  module _ (h : i < length xs) (x : A) (e : x ≡ get_or xs i x) where
    next_text : Writing b 0 (texts_from f xs 0) (f x ++ texts_from f xs (i + 1)) m mid
    unfolding flatten
    next_text =
        rest_as
        (ap (λ (l : List A). flatten (map f l)) (drop_more xs i x h) ∙ ap (λ (y : A). f y ++ texts_from f xs (i + 1)) (sym e))
        w.writing

    text_room : Fits m mid (f x)
    text_room = fits_next (f x) (texts_from f xs (i + 1)) next_text

    pub each_fits : Fits (left mid m) 0 (f x)
    each_fits = left_fits m mid (f x) text_room

    pub each_turn : {a : List ℕ} {n : ℕ} → Written (left mid m) 0 (f x) a n → Each f xs b (i + 1) (over mid m a) (mid + n)
    each_turn q = record { writing = turns (texts_from f xs (i + 1)) next_text (left_written m mid (f x) text_room q) }

  pub each_end : length xs ≤ i → Written b 0 (texts_from f xs 0) m mid
  unfolding flatten
  each_end h = ends (rest_as (ap (λ (l : List A). flatten (map f l)) (drop_all i xs h)) w.writing)
