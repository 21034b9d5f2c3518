-- The ids of two images: those of the first, and after them those of the second that are new. Assumes nothing.
use mathlib.Core.Path.{◌≡◌, refl, sym, ◌∙◌, ap, ap₂, subst}
use mathlib.Core.Bool.{Bool, true, false, not, ◌||◌}
use mathlib.Core.Logic.{◌⊎◌}
use mathlib.Core.List.{List, [], ◌∷◌, ◌++◌, map}
use Prim.Native.Nat.{ℕ, ◌+◌, ◌≤◌, ◌<◌}
use native.Mathlib.Numerals.{add-one}
use native.Mathlib.Omega.{arith}
use lib.Dec.{eqb}
use lib.ListN.{length, get_or, set, take}
use lib.Seq.{take_all, take-suc-set, take-append-add}
use borrow.Author.Tests.{eqb-true, eqb-false, eq-eqb, ne_eqb}
use Rattle.std.specs.List.{list_any}
use Rattle.definitions.specs.Limits.{max_columns, max_rows}
use Rattle.definitions.specs.Lists.{any, filter, distinct}
use Rattle.definitions.specs.Word.{id_of}
use Rattle.definitions.specs.Image.{column_words, image_ids}
use Rattle.definitions.specs.Ascending.{ascending}
use Rattle.definitions.specs.OuterUnion.{compare_word, union_ids, marks, union_column, union_columns}
use Rattle.definitions.specs.Questions.{image_number}
use Rattle.definitions.specs.Statements.{Member}
use Rattle.definitions.proofs.Bools.{bool_cases}
use Rattle.definitions.proofs.Lists.{keep_took, filter_left, filter-all, member-get}
use Rattle.definitions.proofs.Ascending.{ascending-has, ascending_only}
use Rattle.definitions.proofs.Orders.{words}
use Rattle.definitions.proofs.Questions.{passed_is}
use Rattle.definitions.proofs.Unions.{ids_are}
use Rattle.definitions.proofs.UnionColumns.{small_ids}
use Rattle.tables.specs.UnionIds.{new_ids, with_new, in_order, BothIds, ColumnIds, ColumnsWith, Markable, MarksAdded}
use Rattle.tables.proofs.Smaller.{distinct_count, new_distinct, new_ascending}

eqb_comm : (x y : ℕ) → eqb x y ≡ eqb y x
eqb_comm x y =
    bool_cases (eqb y x)
    (λ e. eq-eqb x y (sym (eqb-true y x e)) ∙ sym e) (λ e. ne_eqb x y (λ q. eqb-false y x e (sym q)) ∙ sym e)

-- ---- the loop: i ids are looked at, and those that are not known are kept

abbrev unknown : List ℕ → ℕ → Bool
unknown known id = not (any (eqb id) known)

-- a test by the library's words
pub known_told : (known : List ℕ) (id : ℕ) → list_any (λ y. eqb y id) known ≡ any (eqb id) known
unfolding any
known_told [] id = refl
known_told (x ∷ known) id = ap₂ (λ (a b : Bool). a || b) (eqb_comm x id) (known_told known id)

module _ (known more : List ℕ) where
  -- n of the first i ids are kept
  pub record Adding (i n : ℕ) (ids : List ℕ) : Type 0 where
    pub few : n ≤ i
    pub are : take n ids ≡ new_ids known (take i more)

  pub adding_none : (ids : List ℕ) → Adding 0 0 ids
  unfolding filter
  adding_none ids = record { few = omega arith; are = refl }

  module _ {i n : ℕ} {ids : List ℕ} (s : Adding i n ids) (h : i < length more) (id : ℕ) (at : id ≡ get_or more i id) where
    pub adding_known : any (eqb id) known ≡ true → Adding (i + 1) n ids
    adding_known e = record {
      few = omega (arith, s.few);
      are = s.are ∙ sym (filter_left (unknown known) id more i h (ap (unknown known) (sym at) ∙ ap not e));
    }

    pub adding_new : any (eqb id) known ≡ false → length more ≤ length ids → Adding (i + 1) (n + 1) (set ids n id)
    adding_new e room =
        let f = s.few in
        record {
          few = omega arith;
          are = ap (λ (k : ℕ). take k (set ids n id)) (add-one n) ∙ take-suc-set ids n id (omega arith)
              ∙ ap₂ (λ (l : List ℕ) (x : ℕ). l ++ (x ∷ [])) s.are at
              ∙ sym (keep_took (unknown known) id more i h (ap (unknown known) (sym at) ∙ ap not e));
        }

  pub adding_all : {i n : ℕ} {ids : List ℕ} → Adding i n ids → length more ≤ i → take n ids ≡ new_ids known more
  adding_all {i} s end = s.are ∙ ap (new_ids known) (take_all i more end)

-- the ids of the first image and the new ones of the second are the ids of both, each once
both_ids : (a b : List ℕ) → image_number max_rows a ≡ 0 → image_number max_rows b ≡ 0 → (all : List ℕ) → all ≡ with_new (image_ids a) (image_ids b) → BothIds a b all
unfolding union_ids
both_ids a b oa ob all e = record {
  differ = ap (distinct eqb) e
      ∙ new_distinct (image_ids a) (image_ids b) ((passed_is max_rows a).0 oa).distinct_ids ((passed_is max_rows b).0 ob).distinct_ids;
  union = ap (ascending compare_word) e ∙ new_ascending (image_ids a) (image_ids b);
}

-- the ids of two images, as the code writes them: those of the first, and behind them the new ones of the second
pub both_added : (a b x y : List ℕ) (k m : ℕ) → x ≡ new_ids [] (image_ids a) → take m y ≡ new_ids x (image_ids b) → length x ≡ k
    → image_number max_rows a ≡ 0 → image_number max_rows b ≡ 0 → BothIds a b (take (k + m) (x ++ y))
unfolding any
both_added a b x y k m ex ey size oa ob =
    let first : x ≡ image_ids a = ex ∙ filter-all (unknown []) (image_ids a) (λ id h. refl) in
    both_ids a b oa ob (take (k + m) (x ++ y))
    (ap (λ (j : ℕ). take (j + m) (x ++ y)) (sym size) ∙ take-append-add x y m ∙ ap₂ (λ (l r : List ℕ). l ++ r) first (ey ∙ ap (λ (l : List ℕ). new_ids l (image_ids b)) first))

-- a table's columns are as many as the ids
pub both_count : (a b all : List ℕ) → BothIds a b all → length (union_ids a b) ≡ length all
both_count a b all d = ap length (sym d.union) ∙ distinct_count all d.differ

-- they can be the ids of column words
pub found_ids : (a b all : List ℕ) → BothIds a b all → length all ≤ max_columns → ColumnIds all
found_ids a b all d few = record {
  few = few;
  differ = d.differ;
  small = λ k h. small_ids a b (get_or all k 0) (subst (Member (get_or all k 0)) d.union (ascending-has words (get_or all k 0) all (member-get 0 all k h)));
}

-- the column words of either image can mark them
pub markable : (a b all : List ℕ) → BothIds a b all → length all ≤ max_columns → (image part : List ℕ) → part ≡ column_words image
    → ((id : ℕ) → Member id (image_ids image) → Member id (image_ids a) ⊎ Member id (image_ids b)) → (ids : List ℕ) → length ids ≡ length all
    → Markable part all ids
markable a b all d few image part e either ids size = record {
  union = found_ids a b all d few;
  known = λ id h.
      ascending_only words id all
      (subst (Member id) (sym d.union) ((ids_are a b id).1 (either id (subst (λ (l : List ℕ). Member id (map id_of l)) e h))));
  words = size;
}

-- unmarked column words of these ids that have got the marks of both images are the union's
pub union_marked : (a b all : List ℕ) → BothIds a b all → (first second x y z : List ℕ) → first ≡ column_words a → second ≡ column_words b
    → ColumnsWith (λ id. false) all x → MarksAdded first all x y → MarksAdded second all y z → z ≡ union_columns a b
unfolding union_columns
union_marked a b all d first second x y z ea eb unmarked one two =
    two (λ id. false || marks first id) (one (λ id. false) unmarked)
    ∙ ap₂ (λ (p q : List ℕ). map (union_column p q) (in_order all)) ea eb ∙ ap (map (union_column (column_words a) (column_words b))) d.union
