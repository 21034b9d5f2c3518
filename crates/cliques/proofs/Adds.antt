-- What calls add to a list of sets: nothing, one set, what one call adds and then another, or sets that are changed afterwards. Assumes nothing.
use mathlib.Core.Path.{◌≡◌, refl, sym, ap, ◌∙◌, subst}
use mathlib.Core.Logic.{◌⊎◌, inl, inr, ⊎_elim}
use mathlib.Core.List.{List, [], ◌∷◌, ◌++◌, map, append-nil, append_assoc}
use Prim.Native.Nat.{ℕ, ◌+◌, ◌<◌}
use native.Mathlib.Omega.{arith}
use lib.ListN.{length, length-append, length-map}
use Rattle.definitions.specs.Statements.{Member}
use Rattle.definitions.proofs.Ascending.{member_split, member-join}
use Rattle.definitions.proofs.Lists.{member-map, map-member}
use Rattle.cliques.specs.Maximal.{Once, Adds}
use Rattle.cliques.proofs.Sublists.{once_join, once_map}

module _ (cap : ℕ) where
  -- no set is to be found, or no more can be
  pub adds_none : (P : ℕ → Type 0) (old : List ℕ) → (length old < cap → (x : ℕ) → P x → ⊥) → Adds P cap old old
  adds_none P old f = record {
    new = [];
    adds = sym (append-nil old);
    only = λ x h. absurd h;
    once = tt;
    all = λ few x p. absurd (f few x p);
  }

  -- one set is
  pub adds_one : (P : ℕ → Type 0) (old : List ℕ) (x : ℕ) → P x → ((y : ℕ) → P y → y ≡ x) → Adds P cap old (old ++ (x ∷ []))
  adds_one P old x p f = record {
    new = x ∷ [];
    adds = refl;
    only = λ y h. ⊎_elim (λ q. rw q p) (λ z. absurd z) h;
    once = (λ z. z, tt);
    all = λ few y q. inl (f y q);
  }

  -- the sets are the same, by another name
  pub adds_same : (P Q : ℕ → Type 0) {old list : List ℕ} → ((x : ℕ) → P x → Q x) → ((x : ℕ) → Q x → P x) → Adds P cap old list → Adds Q cap old list
  adds_same P Q f g a = record {
    new = a.new;
    adds = a.adds;
    only = λ x h. f x (a.only x h);
    once = a.once;
    all = λ few x q. a.all few x (g x q);
  }

  -- the sets are those of two kinds, none of both
  pub adds_both : (P Q R : ℕ → Type 0) {old mid list : List ℕ} → ((x : ℕ) → P x → R x) → ((x : ℕ) → Q x → R x) → ((x : ℕ) → R x → P x ⊎ Q x)
      → ((x : ℕ) → P x → Q x → ⊥) → Adds P cap old mid → Adds Q cap mid list → Adds R cap old list
  adds_both P Q R {old} {mid} {list} f g h d a b = record {
    new = a.new ++ b.new;
    adds = b.adds ∙ ap (λ (l : List ℕ). l ++ b.new) a.adds ∙ append_assoc old a.new b.new;
    only = λ x k. ⊎_elim (λ p. f x (a.only x p)) (λ q. g x (b.only x q)) (member_split x a.new b.new k);
    once = once_join a.new b.new a.once b.once (λ x p q. d x (a.only x p) (b.only x q));
    all = λ few x r.
        let size : length list ≡ length mid + length b.new = ap length b.adds ∙ length-append mid b.new in
        member-join x a.new b.new (⊎_elim (λ p. inl (a.all (omega arith) x p)) (λ q. inr (b.all few x q)) (h x r));
  }

  -- each new set is changed by a function, which makes sets of the second kind of those of the first, and all of them
  pub adds_map : (P Q : ℕ → Type 0) (f : ℕ → ℕ) (old new : List ℕ) → ((x : ℕ) → P x → Q (f x)) → ((x y : ℕ) → P x → P y → f x ≡ f y → x ≡ y)
      → ((y : ℕ) → Q y → (x : ℕ) × P x × (y ≡ f x)) → Adds P cap old (old ++ new) → Adds Q cap old (old ++ map f new)
  adds_map P Q f old new to apart from a =
      let same : new ≡ a.new = cancel old new a.new a.adds in
      let own : (x : ℕ) → Member x new → P x = λ x h. a.only x (subst (Member x) same h) in
      let size : length (old ++ map f new) ≡ length (old ++ new) = length-append old (map f new) ∙ ap (λ (k : ℕ). length old + k) (length-map new f) ∙ sym (length-append old new) in
      record {
        new = map f new;
        adds = refl;
        only = λ y h. let m = map-member f y new h in subst Q (sym m.2) (to m.0 (own m.0 m.1));
        once = once_map f new (λ x y p q. apart x y (own x p) (own y q)) (subst Once (sym same) a.once);
        all = λ few y q.
            let x = from y q in
            subst (λ (z : ℕ). Member z (map f new)) (sym x.2) (member-map f x.0 new (subst (Member x.0) (sym same) (a.all (omega arith) x.0 x.1)));
      }
    where
      tail : {x y : ℕ} {l m : List ℕ} → (x ∷ l) ≡ (y ∷ m) → l ≡ m
      tail e = cc

      cancel : (l m k : List ℕ) → l ++ m ≡ l ++ k → m ≡ k
      cancel [] m k e = e
      cancel (x ∷ l) m k e = cancel l m k (tail e)
