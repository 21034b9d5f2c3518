-- Lengths and counts: of images, set lists, distinct lists, and the pairs tried. Assumes nothing.
use mathlib.Core.Path.{◌≡◌, refl, sym, ◌∙◌, ap}
use mathlib.Core.Bool.{Bool}
use mathlib.Core.Logic.{inl, inr}
use mathlib.Core.List.{List, [], ◌∷◌, map, flatten}
use Prim.Native.Nat.{ℕ, zero, suc, ◌+◌, ◌-◌, ◌*◌, ◌/◌, ◌^◌, ◌<◌, ◌≤◌}
use native.Mathlib.Nat.{suc-mul, zero-mul}
use native.Mathlib.Omega.{arith}
use lib.ListN.{length, get_or, take, drop, length-append, length-take, length-drop, length-map}
use Rattle.std.specs.declared.cmp.Ordering.{Ordering}
use Rattle.std.specs.declared.cmp.Ordering.TheVariants.{Less, Equal, Greater}
use Rattle.definitions.specs.Limits.{mark_words, set_width}
use Rattle.definitions.specs.Lists.{without}
use Rattle.definitions.specs.Image.{image_of}
use Rattle.definitions.specs.Ascending.{put, insert, ascending}
use Rattle.definitions.specs.OuterUnion.{compare_row}
use Rattle.definitions.specs.MinimumUnion.{subsumes, minimum_rows, tries, pairs_tried}
use Rattle.definitions.specs.ComplementUnion.{joined, union_sets, fused_rows}
use Rattle.definitions.specs.SetList.{bits, marks_from, record_of, set_record, list_of, set_list}
use Rattle.definitions.specs.Statements.{Member}
use Rattle.definitions.proofs.Bools.{bool_cases}
use Rattle.definitions.proofs.Lists.{map-member, sum_bound, filter-length}

-- ---- words of images and set lists

pub flatten-length : {A : Type 0} (c : ℕ) (l : List (List A)) → ((r : List A) → Member r l → length r ≡ c) → length (flatten l) ≡ length l * c
unfolding flatten
flatten-length c [] f = sym (zero-mul c)
flatten-length c (r ∷ l) f =
    let i = flatten-length c l (λ s h. f s (inr h)) in
    let h = f r (inl refl) in
    length-append r (flatten l) ∙ rw suc-mul (omega arith)

pub image_length_lem : (columns : List ℕ) (rows : List (List ℕ)) → ((r : List ℕ) → Member r rows → length r ≡ length columns)
    → length (image_of columns rows) ≡ 1 + length columns + length rows * length columns
unfolding image_of
image_length_lem columns rows f = omega (arith, length-append columns (flatten rows), flatten-length (length columns) rows f)

pub marks-length : (n set : ℕ) → length (marks_from n set) ≡ n
unfolding marks_from
marks-length zero set = refl
marks-length (suc n) set = ap suc (marks-length n (set / 2 ^ 30))

pub record_length : (m set position : ℕ) → length (record_of m set position) ≡ suc m
unfolding record_of
record_length m set position = length-append (marks_from m set) _ ∙ omega (arith, marks-length m set)

pub set_record-length : (columns : List ℕ) (rows : List (List ℕ)) (s : List Bool) → length (set_record columns rows s) ≡ set_width
unfolding set_record
set_record-length columns rows s = record_length mark_words (bits s) _

pub set_list-length : (columns : List ℕ) (rows : List (List ℕ)) → length (set_list columns rows) ≡ 1 + set_width * length (union_sets columns rows)
unfolding set_list list_of
set_list-length columns rows =
    let f = flatten-length set_width (map (set_record columns rows) (union_sets columns rows))
    (λ r h. let i = map-member (set_record columns rows) r (union_sets columns rows) h in ap (λ (l : List ℕ). length l) i.2 ∙ set_record-length columns rows i.0) in
    let m = length-map (union_sets columns rows) (set_record columns rows) in
    omega arith

-- ---- no more distinct elements than elements

module _ {A : Type 0} (compare : A → A → Ordering) where
  put-length : (o : Ordering) (a b : A) (t i : List A) → length i ≤ suc (length t) → length (put o a b t i) ≤ suc (suc (length t))
  put-length Less a b t i h = omega arith
  put-length Equal a b t i h = omega arith
  put-length Greater a b t i h = omega arith

  pub insert-length : (a : A) (t : List A) → length (insert compare a t) ≤ suc (length t)
  unfolding insert
  insert-length a [] = omega arith
  insert-length a (b ∷ t) = put-length (compare a b) a b t (insert compare a t) (insert-length a t)

  pub ascending-length : (l : List A) → length (ascending compare l) ≤ length l
  unfolding ascending
  ascending-length [] = omega arith
  ascending-length (a ∷ l) =
      let i = insert-length a (ascending compare l) in
      let j = ascending-length l in
      omega arith

-- no more joined rows than sets
pub fused_count : (columns : List ℕ) (rows : List (List ℕ)) → length (fused_rows columns rows) ≤ length (union_sets columns rows)
unfolding fused_rows
fused_count columns rows =
    let i = ascending-length compare_row (map (joined rows) (union_sets columns rows)) in
    let m = length-map (union_sets columns rows) (joined rows) in
    omega arith

pub minimum_count : (rows : List (List ℕ)) → length (minimum_rows rows) ≤ length rows
unfolding minimum_rows
minimum_count rows = filter-length _ rows

-- ---- pairs tried

pub without-length : {A : Type 0} (k : ℕ) (l : List A) → k < length l → length (without k l) ≡ length l - 1
without-length k l h =
    let a = length-append (take k l) (drop (suc k) l) in
    let t = length-take k l in
    let d = length-drop (suc k) l in
    omega arith

tries_bound : (t : List ℕ) (others : List (List ℕ)) → tries t others ≤ length others
unfolding tries
tries_bound t [] = omega arith
tries_bound t (s ∷ others) =
    let i = tries_bound t others in
    bool_cases (subsumes s t) (λ e. rw e (omega arith)) (λ e. rw e (omega arith))

-- "with n rows in T it is at most n × (n − 1)"
pub pairs_bound : (rows : List (List ℕ)) → pairs_tried rows ≤ length rows * (length rows - 1)
unfolding pairs_tried
pairs_bound rows =
    sum_bound (length rows) (length rows - 1) (λ k. tries (get_or rows k []) (without k rows))
    (λ k h. let i = tries_bound (get_or rows k []) (without k rows) in let w = without-length k rows h in omega arith)
