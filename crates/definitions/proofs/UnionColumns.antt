-- The union's column words: their ids are the union's ids, and a column is marked if either table marks it. Assumes nothing.
use mathlib.Core.Path.{◌≡◌, refl, sym, ◌∙◌, ap, ap₂, subst}
use mathlib.Core.Bool.{Bool, true, false, ◌&&◌, ◌||◌}
use mathlib.Core.Logic.{◌⊎◌, inl, inr, ⊎_elim, ◌↔◌}
use mathlib.Core.List.{List, [], ◌∷◌, map}
use Prim.Native.Nat.{ℕ, ◌/◌, ◌%◌, ◌^◌, ◌<◌, ◌≤◌}
use native.Mathlib.Nat.{mod-lt}
use native.Mathlib.Omega.{arith}
use lib.Dec.{eqb, lit<}
use lib.ListN.{length}
use borrow.Author.Tests.{eqb-true, eq-eqb, ne_eqb}
use Rattle.definitions.specs.Limits.{max_columns}
use Rattle.definitions.specs.Lists.{any}
use Rattle.definitions.specs.Word.{id_of, mark_of, column_word}
use Rattle.definitions.specs.Image.{column_words, image_ids}
use Rattle.definitions.specs.OuterUnion.{union_ids, marks, union_columns}
use Rattle.definitions.specs.Calls.{Accepted}
use Rattle.definitions.specs.Statements.{Member}
use Rattle.definitions.specs.Claims.{MarkedIn}
use Rattle.std.proofs.lemmas.Bool.{and_from, and_parts, or_cases, or_left, or_right}
use Rattle.definitions.proofs.Bools.{bool_eq}
use Rattle.definitions.proofs.Lists.{any_true, any_of, member-map, map-member}
use Rattle.definitions.proofs.Unions.{ids_are, columns_count}

-- ---- a column word

pub word_id : (id : ℕ) (mark : Bool) → id < 2 ^ 16 → id_of (column_word id mark) ≡ id
word_id id true h = omega arith
word_id id false h = omega arith

pub word_mark : (id : ℕ) (mark : Bool) → id < 2 ^ 16 → mark_of (column_word id mark) ≡ mark
word_mark id true h = eq-eqb (column_word id true / 2 ^ 29 % 2) 1 (omega arith)
word_mark id false h = ne_eqb (column_word id false / 2 ^ 29 % 2) 1 (λ e. omega arith)

-- ---- the words of a table

-- a column word has the id and the mark
abbrev marking : ℕ → ℕ → Bool
marking id w = eqb id (id_of w) && mark_of w

marking_parts : (id w : ℕ) → marking id w ≡ true → (id_of w ≡ id) × (mark_of w ≡ true)
marking_parts id w e =
    let p = and_parts (eqb id (id_of w)) (mark_of w) e in
    (sym (eqb-true id (id_of w) p.0), p.1)

pub marks_is : (id : ℕ) (image : List ℕ) → (marks (column_words image) id ≡ true) ↔ MarkedIn image id
marks_is id image = (
  λ e. let i = any_true (marking id) (column_words image) e in let p = marking_parts id i.0 i.2 in (i.0, i.1, p.0, p.1),
  λ m. any_of (marking id) m.0 (column_words image) m.1 (and_from _ _ (eq-eqb id (id_of m.0) (sym m.2)) m.3),
)

-- ---- the union

-- column words with these ids and marks
abbrev told : List ℕ → List Bool → List ℕ
told [] marks = []
told (id ∷ ids) [] = []
told (id ∷ ids) (mark ∷ marks) = column_word id mark ∷ told ids marks

module _ (a b : List ℕ) where
  -- its ids are those of column words
  pub small_ids : (id : ℕ) → Member id (union_ids a b) → id < 2 ^ 16
  small_ids id h = ⊎_elim (small a) (small b) ((ids_are a b id).0 h)
    where
      small : (image : List ℕ) → Member id (image_ids image) → id < 2 ^ 16
      small image k =
          let m = map-member id_of id (column_words image) k in
          let l : m.0 % 2 ^ 16 < 2 ^ 16 = mod-lt m.0 (lit< tt) in
          subst (λ (x : ℕ). x < 2 ^ 16) (sym m.2) l

  abbrev marked : ℕ → Bool
  marked id = marks (column_words a) id || marks (column_words b) id

  pub columns_ids : map id_of (union_columns a b) ≡ union_ids a b
  unfolding union_columns
  columns_ids = each (union_ids a b) small_ids
    where
      each : (ids : List ℕ) → ((id : ℕ) → Member id ids → id < 2 ^ 16) → map id_of (map (λ id. column_word id (marked id)) ids) ≡ ids
      each [] f = refl
      each (x ∷ ids) f =
          ap₂ (λ (y : ℕ) (l : List ℕ). y ∷ l) (word_id x (marked x) (f x (inl refl))) (each ids (λ id g. f id (inr g)))

  pub columns_few : Accepted a b → length (union_columns a b) ≤ max_columns
  columns_few c = omega (arith, columns_count a b, c.columns)

  -- so that a header's five bits hold their number
  pub columns_narrow : Accepted a b → length (union_columns a b) < 2 ^ 5
  columns_narrow c = omega (arith, columns_few c)

  -- they are told by the ids and the marks
  pub word_told : (w : ℕ) → Member w (union_columns a b) → w ≡ column_word (id_of w) (mark_of w)
  unfolding union_columns
  word_told w h =
      let i = map-member (λ id. column_word id (marked id)) w (union_ids a b) h in
      let small = small_ids i.0 i.1 in
      i.2
      ∙ ap₂ column_word (sym (ap id_of i.2 ∙ word_id i.0 (marked i.0) small))
      (sym (ap mark_of i.2 ∙ word_mark i.0 (marked i.0) small))

  pub columns_told : union_columns a b ≡ told (map id_of (union_columns a b)) (map mark_of (union_columns a b))
  columns_told = each (union_columns a b) word_told
    where
      each : (words : List ℕ) → ((w : ℕ) → Member w words → w ≡ column_word (id_of w) (mark_of w))
          → words ≡ told (map id_of words) (map mark_of words)
      each [] f = refl
      each (w ∷ words) f = ap₂ (λ (x : ℕ) (l : List ℕ). x ∷ l) (f w (inl refl)) (each words (λ v h. f v (inr h)))

  marked_left : (id : ℕ) → MarkedIn a id → marked id ≡ true
  marked_left id m = or_left (marks (column_words a) id) (marks (column_words b) id) ((marks_is id a).1 m)

  marked_right : (id : ℕ) → MarkedIn b id → marked id ≡ true
  marked_right id m = or_right (marks (column_words a) id) (marks (column_words b) id) ((marks_is id b).1 m)

  marked_where : (id : ℕ) → marked id ≡ true → MarkedIn a id ⊎ MarkedIn b id
  marked_where id e =
      ⊎_elim (λ q. inl ((marks_is id a).0 q)) (λ q. inr ((marks_is id b).0 q)) (or_cases (marks (column_words a) id) (marks (column_words b) id) e)

  -- "A column is marked in the union if either table marks it."
  pub marks-either : (w : ℕ) → Member w (union_columns a b) → (mark_of w ≡ true) ↔ (MarkedIn a (id_of w) ⊎ MarkedIn b (id_of w))
  unfolding union_columns
  marks-either w h =
      let i = map-member (λ id. column_word id (marked id)) w (union_ids a b) h in
      let id = i.0 in
      let small = small_ids id i.1 in
      let same : id_of w ≡ id = ap id_of i.2 ∙ word_id id (marked id) small in
      let mark : mark_of w ≡ marked id = ap mark_of i.2 ∙ word_mark id (marked id) small in (
        λ e.
            subst (λ (k : ℕ). MarkedIn a k ⊎ MarkedIn b k) (sym same) (marked_where id (sym mark ∙ e)),
        λ m.
            mark ∙ ⊎_elim (marked_left id) (marked_right id) (subst (λ (k : ℕ). MarkedIn a k ⊎ MarkedIn b k) same m),
      )

  -- the same of an id, whether or not it is one of the union's
  pub union_marks : (id : ℕ) → marks (union_columns a b) id ≡ marked id
  unfolding union_columns
  union_marks id = bool_eq (marks (union_columns a b) id) (marked id) to from
    where
      known : (image : List ℕ) → MarkedIn image id → Member id (image_ids image)
      known image m = subst (λ (x : ℕ). Member x (image_ids image)) m.2 (member-map id_of m.0 (column_words image) m.1)

      to : marks (union_columns a b) id ≡ true → marked id ≡ true
      to e =
          let i = any_true (marking id) (union_columns a b) e in
          let p = marking_parts id i.0 i.2 in
          ⊎_elim (λ m. marked_left id (subst (MarkedIn a) p.0 m)) (λ m. marked_right id (subst (MarkedIn b) p.0 m)) ((marks-either i.0 i.1).0 p.1)

      from : marked id ≡ true → marks (union_columns a b) id ≡ true
      from e =
          let there = (ids_are a b id).1 (⊎_elim (λ m. inl (known a m)) (λ m. inr (known b m)) (marked_where id e)) in
          let word = column_word id (marked id) in
          let small = small_ids id there in
          any_of (marking id) word (union_columns a b) (member-map (λ id. column_word id (marked id)) id (union_ids a b) there)
          (and_from _ _ (eq-eqb id (id_of word) (sym (word_id id (marked id) small))) (word_mark id (marked id) small ∙ e))

  -- "If any is marked": some column of the union is if some column of a table is
  pub any_marked : any mark_of (union_columns a b) ≡ (any mark_of (column_words a) || any mark_of (column_words b))
  unfolding union_columns
  any_marked =
      bool_eq (any mark_of (union_columns a b)) (any mark_of (column_words a) || any mark_of (column_words b))
      (λ e.
      let i = any_true mark_of (union_columns a b) e in
      ⊎_elim
      (λ m. or_left (any mark_of (column_words a)) (any mark_of (column_words b)) (any_of mark_of m.0 (column_words a) m.1 m.3))
      (λ m. or_right (any mark_of (column_words a)) (any mark_of (column_words b)) (any_of mark_of m.0 (column_words b) m.1 m.3))
      ((marks-either i.0 i.1).0 i.2))
      (λ e.
      ⊎_elim
      (λ q. let i = any_true mark_of (column_words a) q in seen (id_of i.0) (marked_left (id_of i.0) (i.0, i.1, refl, i.2)))
      (λ q. let i = any_true mark_of (column_words b) q in seen (id_of i.0) (marked_right (id_of i.0) (i.0, i.1, refl, i.2)))
      (or_cases (any mark_of (column_words a)) (any mark_of (column_words b)) e))
    where
      -- an id that a table marks: the union's word with it has the mark
      seen : (id : ℕ) → marked id ≡ true → any mark_of (union_columns a b) ≡ true
      seen id e =
          let i = any_true (marking id) (union_columns a b) (union_marks id ∙ e) in
          any_of mark_of i.0 (union_columns a b) i.1 (marking_parts id i.0 i.2).1

-- equal ids and equal marks are equal column words
pub same_columns : (a b c d : List ℕ) → union_ids a b ≡ union_ids c d → map mark_of (union_columns a b) ≡ map mark_of (union_columns c d)
    → union_columns a b ≡ union_columns c d
same_columns a b c d ids marks =
    columns_told a b ∙ ap₂ told (columns_ids a b ∙ ids ∙ sym (columns_ids c d)) marks ∙ sym (columns_told c d)
