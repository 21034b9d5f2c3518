-- Laws of lists in which no element stands twice, and of ascending lists: with one element more, and two lists of which one has all
-- elements of the other; over any elements and any order of them. Assumes nothing.
use mathlib.Core.Path.{◌≡◌, refl, sym, ap, ◌∙◌, subst}
use mathlib.Core.Logic.{inl, inr, ⊎_elim}
use mathlib.Core.List.{List, [], ◌∷◌, ◌++◌, map}
use Prim.Native.Nat.{suc, ◌≤◌, zero-le}
use native.Mathlib.Omega.{arith}
use lib.ListN.{length}
use Rattle.std.specs.declared.cmp.Ordering.{Ordering}
use Rattle.std.specs.declared.cmp.Ordering.TheVariants.{Less, Equal, Greater}
use Rattle.definitions.specs.Ascending.{put, insert, ascending}
use Rattle.definitions.specs.Statements.{Member, Orders, StrictlyAscending}
use Rattle.definitions.proofs.Lists.{map-member}
use Rattle.definitions.proofs.Ascending.{not_before_self, above_at, member_split, ascending_only}
use Rattle.cliques.specs.Maximal.{Once}

-- two lists that share no element, one after the other
pub once_join : {A : Type 0} (l m : List A) → Once l → Once m → ((x : A) → Member x l → Member x m → ⊥) → Once (l ++ m)
once_join [] m o p d = p
once_join (x ∷ l) m o p d = (
  λ h. ⊎_elim o.0 (d x (inl refl)) (member_split x l m h),
  once_join l m o.1 p (λ y h k. d y (inr h) k),
)

-- the images of different elements are different
pub once_map : {A B : Type 0} (f : A → B) (l : List A) → ((x y : A) → Member x l → Member y l → f x ≡ f y → x ≡ y) → Once l → Once (map f l)
once_map f [] g o = tt
once_map f (x ∷ l) g o = (
  λ h. let m = map-member f (f x) l h in o.0 (subst (λ (y : _). Member y l) (sym (g x m.0 (inl refl) (inr m.1) m.2)) m.1),
  once_map f l (λ y z p q. g y z (inr p) (inr q)) o.1,
)

module _ {A : Type 0} {compare : A → A → Ordering} (laws : Orders compare) where
  -- ---- the elements of a list and one more

  put_new : (r u : A) (t i : List A) (o : Ordering) → compare r u ≡ o → (r ≡ u → ⊥) → length i ≡ suc (length t) → length (put o r u t i) ≡ suc (suc (length t))
  put_new r u t i Less e d h = refl
  put_new r u t i Equal e d h = absurd (d (laws.same r u e))
  put_new r u t i Greater e d h = ap suc h

  insert_new : (r : A) (t : List A) → (Member r t → ⊥) → length (insert compare r t) ≡ suc (length t)
  unfolding insert
  insert_new r [] d = refl
  insert_new r (u ∷ t) d = put_new r u t (insert compare r t) (compare r u) refl (λ e. d (inl e)) (insert_new r t (λ h. d (inr h)))

  -- a list in which none stands twice is as long in order
  pub ascending_once : (t : List A) → Once t → length (ascending compare t) ≡ length t
  unfolding ascending
  ascending_once [] o = refl
  ascending_once (r ∷ t) o = insert_new r (ascending compare t) (λ h. o.0 (ascending_only laws r t h)) ∙ ap suc (ascending_once t o.1)

  -- ---- an ascending list whose elements all stand in another list is no longer

  -- the list without the first x, which its other elements keep
  record Without (x : A) (m : List A) : Type 0 where
    rest : List A
    shorter : length m ≡ suc (length rest)
    keeps : (y : A) → (y ≡ x → ⊥) → Member y m → Member y rest

  without : (x : A) (m : List A) → Member x m → Without x m
  without x [] h = absurd h
  without x (z ∷ m) h =
      ⊎_elim
      (λ e. record { rest = m; shorter = refl; keeps = λ y d k. ⊎_elim (λ q. absurd (d (q ∙ sym e))) (λ r. r) k })
      (λ r.
      let w = without x m r in
      record { rest = z ∷ w.rest; shorter = ap suc w.shorter; keeps = λ y d k. ⊎_elim (λ q. inl q) (λ q. inr (w.keeps y d q)) k })
      h

  pub no_longer : (l m : List A) → StrictlyAscending compare l → ((x : A) → Member x l → Member x m) → length l ≤ length m
  no_longer [] m h f = zero-le
  no_longer (x ∷ l) m h f =
      let w = without x m (f x (inl refl)) in
      let le : length l ≤ length w.rest =
      no_longer l w.rest h.1
      (λ y k. w.keeps y (λ e. not_before_self laws x (subst (λ (z : A). compare x z ≡ Less) e (above_at laws x y l h.0 k))) (f y (inr k))) in
      omega (arith, w.shorter)
