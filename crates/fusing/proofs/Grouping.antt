-- The rows of a column as groups of equal cells: a leader sought among those of before, and each row joined to its group. Assumes nothing.
use mathlib.Core.Path.{◌≡◌, refl, sym, ◌∙◌, ap, ap₂, subst}
use mathlib.Core.Bool.{Bool, true, false, ◌&&◌, ◌||◌, and-false, or-false, or-true}
use mathlib.Core.Logic.{◌⊎◌, inl, inr, ⊎_elim}
use mathlib.Core.List.{List}
use Prim.Native.Nat.{ℕ, ◌*◌, ◌%◌, ◌^◌, ◌<◌}
use native.Mathlib.Omega.{arith}
use lib.Bits.{bit_or, or_zero_l}
use lib.Dec.{eqb}
use lib.ListN.{length, get_or, set, length-set, replicate, get_or-replicate}
use lib.Seq.{get_or-set_same, get_or-set_other}
use borrow.Author.Tests.{eqb-true, eqb-false, eq-eqb, ne_eqb}
use Rattle.std.proofs.lemmas.Bool.{and_parts, false_from_ne_true, or_cases, or_left, or_right}
use Rattle.definitions.proofs.Bools.{bool_cases, clash}
use Rattle.bitsets.specs.Bits.{word_bits, has, with_row, Inside, without_lowest}
use Rattle.bitsets.proofs.Bits.{bit_at, Lowest, has_none, has_with, rest_in, rest_of}
use Rattle.std.specs.Prelude.{Some, None}
use Rattle.bitsets.specs.Members.{Next}
use Rattle.fusing.specs.Groups.{bucket_count, LeaderOf, Groups}
use Rattle.bitsets.proofs.Rests.{lowest_of, passed, passed_in, passed_none, passed_all, among_more, passed_next, passed_else, passed_more, passed_other, passed_old, passed_cases}

-- ---- a leader is sought

-- those of the rows that are not in the rest have another cell
pub record Seeking (cell : ℕ → ℕ) (x rows rest : ℕ) : Type 0 where
  pub among : (k : ℕ) → has rest k ≡ true → has rows k ≡ true
  pub left : (k : ℕ) → has rows k ≡ true → cell k ≡ x → has rest k ≡ true

module _ (cell : ℕ → ℕ) (x rows : ℕ) where
  pub seek_next : {rest k left : ℕ} → Next rest k left → Seeking cell x rows rest → has rows k ≡ true
  seek_next {rest} {k} next inv = inv.among k (lowest_of next).there

  pub seek_turn : {rest k left : ℕ} → Next rest k left → (cell k ≡ x → ⊥) → Seeking cell x rows rest → Seeking cell x rows left
  seek_turn {rest} {k} next d inv =
      subst (Seeking cell x rows) (sym next.rest)
      (record {
        among = λ i h. inv.among i (rest_in rest i h);
        left = λ i h e. rest_of rest k i (lowest_of next) (inv.left i h e) (λ q. d (ap cell (sym q) ∙ e));
      })

  pub seek_none : {rest : ℕ} → rest ≡ 0 → Seeking cell x rows rest → LeaderOf cell x rows None
  seek_none e inv = λ k h f. clash (inv.left k h f) (ap (λ (w : ℕ). has w k) e ∙ has_none k)

-- ---- bit j joined to a word of a list

bit-has : (w j k : ℕ) → j < word_bits → has (bit_or w ((1 * 2 ^ j) % 2 ^ word_bits)) k ≡ (has w k || eqb k j)
unfolding with_row
bit-has w j k h = ap (λ (x : ℕ). has (bit_or w x) k) (bit_at word_bits j h) ∙ has_with w j k

one_has : (j k : ℕ) → j < word_bits → has ((1 * 2 ^ j) % 2 ^ word_bits) k ≡ eqb k j
unfolding with_row
one_has j k h = ap (λ (x : ℕ). has x k) (sym (or_zero_l ((1 * 2 ^ j) % 2 ^ word_bits))) ∙ bit-has 0 j k h ∙ ap (λ (b : Bool). b || eqb k j) (has_none k)

-- ---- the rows are grouped

-- the leaders stand in buckets by the last digits of their cells
abbrev leads : (ℕ → ℕ) → List ℕ → ℕ → Bool
leads cell buckets k = has (get_or buckets (cell k % bucket_count) 0) k

-- the rows that are not in the rest are grouped
pub record Grouping (cell : ℕ → ℕ) (filled rest : ℕ) (buckets leaders equal : List ℕ) : Type 0 where
  pub size : length buckets ≡ bucket_count
  pub among : (k : ℕ) → has rest k ≡ true → has filled k ≡ true
  pub held : (d k : ℕ) → d < bucket_count → has (get_or buckets d 0) k ≡ true → passed filled rest k ≡ true
  pub one : (k i : ℕ) → leads cell buckets k ≡ true → leads cell buckets i ≡ true → cell k ≡ cell i → k ≡ i
  pub group : (k i : ℕ) → leads cell buckets k ≡ true → has (get_or equal k 0) i ≡ (passed filled rest i && eqb (cell k) (cell i))
  pub led : (i : ℕ) → passed filled rest i ≡ true → (leads cell buckets (get_or leaders i 0) ≡ true) × (cell (get_or leaders i 0) ≡ cell i)

digit_small : (x : ℕ) → x % bucket_count < bucket_count
digit_small x = omega arith

pub group_start : (cell : ℕ → ℕ) (filled : ℕ) (leaders equal : List ℕ) → Grouping cell filled filled (replicate bucket_count 0) leaders equal
group_start cell filled leaders equal =
    let none : (d k : ℕ) → d < bucket_count → has (get_or (replicate bucket_count 0) d 0) k ≡ false = λ d k h. ap (λ (x : ℕ). has x k) (get_or-replicate bucket_count d 0 0 h) ∙ has_none k in
    record {
      size = refl;
      among = λ k h. h;
      held = λ d k h m. absurd (clash m (none d k h));
      one = λ k i m q e. absurd (clash m (none (cell k % bucket_count) k (digit_small (cell k))));
      group = λ k i m. absurd (clash m (none (cell k % bucket_count) k (digit_small (cell k))));
      led = λ i h. absurd (clash h (passed_none filled i));
    }

-- where the cell of a group is another, the next row changes nothing in it
group_else : (was now next same : Bool) → now ≡ (was || next) → (next ≡ true → same ≡ false) → (was && same) ≡ (now && same)
group_else was now true same e f = ap (λ (b : Bool). was && b) (f refl) ∙ and-false was ∙ sym (ap (λ (b : Bool). now && b) (f refl) ∙ and-false now)
group_else was now false same e f = ap (λ (b : Bool). b && same) (sym (e ∙ or-false was))

-- where it is the same, the next row is joined
group_with : (was now next same : Bool) → now ≡ (was || next) → (next ≡ true → same ≡ true) → ((was && same) || next) ≡ (now && same)
group_with was now true same e f = or-true (was && same) ∙ sym (ap₂ (λ (a b : Bool). a && b) (e ∙ or-true was) (f refl))
group_with was now false same e f = or-false (was && same) ∙ ap (λ (b : Bool). b && same) (sym (e ∙ or-false was))

-- row j is next; a leader of before is sought for it
module _ {cell : ℕ → ℕ} {filled rest : ℕ} {buckets leaders equal : List ℕ} (inv : Grouping cell filled rest buckets leaders equal) {j left : ℕ} (next : Next rest j left) where
  abbrev digit : ℕ
  digit = cell j % bucket_count

  low : Lowest rest j
  low = lowest_of next

  pub bucket_filled : (d k : ℕ) → d < bucket_count → has (get_or buckets d 0) k ≡ true → has filled k ≡ true
  bucket_filled d k h m = passed_in filled rest k (inv.held d k h m)

  pub next_filled : has filled j ≡ true
  next_filled = inv.among j low.there

  leader_passed : (k : ℕ) → leads cell buckets k ≡ true → passed filled rest k ≡ true
  leader_passed k m = inv.held (cell k % bucket_count) k (digit_small (cell k)) m

  bucket_more : (d k : ℕ) → d < bucket_count → has (get_or buckets d 0) k ≡ true → passed filled (without_lowest rest) k ≡ true
  bucket_more d k h m = passed_old filled rest j inv.among low k (inv.held d k h m)

  module _ (small : j < word_bits) (space : j < length leaders) where
    -- the next row's leader is r
    led_more : (r : ℕ) (buckets' : List ℕ) → ((k : ℕ) → leads cell buckets k ≡ true → leads cell buckets' k ≡ true) → leads cell buckets' r ≡ true → cell r ≡ cell j
        → (i : ℕ) → passed filled (without_lowest rest) i ≡ true
        → (leads cell buckets' (get_or (set leaders j r) i 0) ≡ true) × (cell (get_or (set leaders j r) i 0) ≡ cell i)
    led_more r buckets' still m e i h =
        passed_cases filled rest j inv.among low i h
        (λ p d.
        let o = inv.led i p in
        let q : get_or leaders i 0 ≡ get_or (set leaders j r) i 0 = sym (get_or-set_other leaders j i r 0 d) in
        (subst (λ (k : ℕ). leads cell buckets' k ≡ true) q (still (get_or leaders i 0) o.0), ap cell (sym q) ∙ o.1))
        (λ q.
        let w : r ≡ get_or (set leaders j r) i 0 = sym (ap (λ (k : ℕ). get_or (set leaders j r) k 0) q ∙ get_or-set_same leaders j r 0 space) in
        (subst (λ (k : ℕ). leads cell buckets' k ≡ true) w m, ap cell (sym w) ∙ e ∙ ap cell (sym q)))

    -- no group has its cell
    module _ (none : LeaderOf cell (cell j) (get_or buckets digit 0) None) (room : j < length equal) where
      size : length buckets ≡ bucket_count
      size = inv.size

      abbrev buckets' : List ℕ
      buckets' = set buckets digit (bit_or (get_or buckets digit 0) ((1 * 2 ^ j) % 2 ^ word_bits))

      abbrev equal' : List ℕ
      equal' = set equal j ((1 * 2 ^ j) % 2 ^ word_bits)

      other_cell : (k : ℕ) → passed filled rest k ≡ true → cell k ≡ cell j → ⊥
      other_cell k p e =
          let o = inv.led k p in
          let same : cell (get_or leaders k 0) ≡ cell j = o.1 ∙ e in
          none (get_or leaders k 0) (ap (λ (x : ℕ). has (get_or buckets (x % bucket_count) 0) (get_or leaders k 0)) (sym same) ∙ o.0) same

      bucket_here : (k : ℕ) → has (get_or buckets' digit 0) k ≡ (has (get_or buckets digit 0) k || eqb k j)
      bucket_here k =
          ap (λ (x : ℕ). has x k) (get_or-set_same buckets digit (bit_or (get_or buckets digit 0) ((1 * 2 ^ j) % 2 ^ word_bits)) 0 (omega (arith, digit_small (cell j))))
          ∙ bit-has (get_or buckets digit 0) j k small

      bucket_else : (d k : ℕ) → (d ≡ digit → ⊥) → has (get_or buckets' d 0) k ≡ has (get_or buckets d 0) k
      bucket_else d k n = ap (λ (x : ℕ). has x k) (get_or-set_other buckets digit d (bit_or (get_or buckets digit 0) ((1 * 2 ^ j) % 2 ^ word_bits)) 0 n)

      bucket_cases : (d k : ℕ) → has (get_or buckets' d 0) k ≡ true → (has (get_or buckets d 0) k ≡ true) ⊎ (k ≡ j)
      bucket_cases d k m =
          bool_cases (eqb d digit)
          (λ e.
          let q : d ≡ digit = eqb-true d digit e in
          ⊎_elim (λ h. inl (ap (λ (x : ℕ). has (get_or buckets x 0) k) q ∙ h)) (λ h. inr (eqb-true k j h))
          (or_cases (has (get_or buckets digit 0) k) (eqb k j) (sym (bucket_here k) ∙ ap (λ (x : ℕ). has (get_or buckets' x 0) k) (sym q) ∙ m)))
          (λ e. inl (sym (bucket_else d k (eqb-false d digit e)) ∙ m))

      bucket_still : (d k : ℕ) → has (get_or buckets d 0) k ≡ true → has (get_or buckets' d 0) k ≡ true
      bucket_still d k m =
          bool_cases (eqb d digit)
          (λ e.
          let q : d ≡ digit = eqb-true d digit e in
          ap (λ (x : ℕ). has (get_or buckets' x 0) k) q
          ∙ bucket_here k
          ∙ or_left (has (get_or buckets digit 0) k) (eqb k j) (ap (λ (x : ℕ). has (get_or buckets x 0) k) (sym q) ∙ m))
          (λ e. bucket_else d k (eqb-false d digit e) ∙ m)

      bucket_own : leads cell buckets' j ≡ true
      bucket_own = bucket_here j ∙ or_right (has (get_or buckets digit 0) j) (eqb j j) (eq-eqb j j refl)

      group_old : (k i : ℕ) → leads cell buckets k ≡ true → has (get_or equal' k 0) i ≡ (passed filled (without_lowest rest) i && eqb (cell k) (cell i))
      group_old k i m =
          let p : passed filled rest k ≡ true = leader_passed k m in
          ap (λ (x : ℕ). has x i) (get_or-set_other equal j k ((1 * 2 ^ j) % 2 ^ word_bits) 0 (passed_other filled rest j inv.among low k p))
          ∙ inv.group k i m
          ∙ group_else (passed filled rest i) (passed filled (without_lowest rest) i) (eqb i j) (eqb (cell k) (cell i)) (passed_more filled rest j inv.among low i)
          (λ e. ne_eqb (cell k) (cell i) (λ q. other_cell k p (q ∙ ap cell (eqb-true i j e))))

      group_own : (i : ℕ) → has (get_or equal' j 0) i ≡ (passed filled (without_lowest rest) i && eqb (cell j) (cell i))
      group_own i =
          ap (λ (x : ℕ). has x i) (get_or-set_same equal j ((1 * 2 ^ j) % 2 ^ word_bits) 0 room)
          ∙ one_has j i small
          ∙ bool_cases (eqb i j)
          (λ e.
          let q : i ≡ j = eqb-true i j e in
          e ∙ sym (ap₂ (λ (a b : Bool). a && b) (ap (passed filled (without_lowest rest)) q ∙ passed_next filled rest j inv.among low)
          (eq-eqb (cell j) (cell i) (ap cell (sym q)))))
          (λ e.
          e ∙ sym (false_from_ne_true (passed filled (without_lowest rest) i && eqb (cell j) (cell i))
          (λ h.
          other_cell i
          (sym (passed_else filled rest j inv.among low i (eqb-false i j e)) ∙ (and_parts (passed filled (without_lowest rest) i) (eqb (cell j) (cell i)) h).0)
          (sym (eqb-true (cell j) (cell i) (and_parts (passed filled (without_lowest rest) i) (eqb (cell j) (cell i)) h).1)))))

      new_group : Grouping cell filled left buckets' (set leaders j j) equal'
      new_group =
          subst (λ (r : ℕ). Grouping cell filled r buckets' (set leaders j j) equal') (sym next.rest) (record {
            size = length-set buckets digit _ ∙ size;
            among = among_more filled rest j inv.among low;
            held = λ d k h m. ⊎_elim (λ o. bucket_more d k h o) (λ q. ap (passed filled (without_lowest rest)) q ∙ passed_next filled rest j inv.among low) (bucket_cases d k m);
            one = λ k i m n e.
                ⊎_elim
                (λ o. ⊎_elim (λ p. inv.one k i o p e) (λ q. absurd (other_cell k (leader_passed k o) (e ∙ ap cell q))) (bucket_cases (cell i % bucket_count) i n))
                (λ q. ⊎_elim (λ p. absurd (other_cell i (leader_passed i p) (sym e ∙ ap cell q))) (λ t. q ∙ sym t) (bucket_cases (cell i % bucket_count) i n))
                (bucket_cases (cell k % bucket_count) k m);
            group = λ k i m.
                ⊎_elim (λ o. group_old k i o)
                (λ q. subst (λ (x : ℕ). has (get_or equal' x 0) i ≡ (passed filled (without_lowest rest) i && eqb (cell x) (cell i))) (sym q) (group_own i))
                (bucket_cases (cell k % bucket_count) k m);
            led = led_more j buckets' (λ k m. bucket_still (cell k % bucket_count) k m) bucket_own refl;
          })

    -- the group of r has its cell
    module _ (r : ℕ) (found : LeaderOf cell (cell j) (get_or buckets digit 0) (Some r)) (room : r < length equal) where
      abbrev grown : List ℕ
      grown = set equal r (bit_or (get_or equal r 0) ((1 * 2 ^ j) % 2 ^ word_bits))

      same : cell r ≡ cell j
      same = found.1

      leads_it : leads cell buckets r ≡ true
      leads_it = ap (λ (x : ℕ). has (get_or buckets (x % bucket_count) 0) r) same ∙ found.0

      group_it : (i : ℕ) → has (get_or grown r 0) i ≡ (passed filled (without_lowest rest) i && eqb (cell r) (cell i))
      group_it i =
          ap (λ (x : ℕ). has x i) (get_or-set_same equal r (bit_or (get_or equal r 0) ((1 * 2 ^ j) % 2 ^ word_bits)) 0 room)
          ∙ bit-has (get_or equal r 0) j i small
          ∙ ap (λ (b : Bool). b || eqb i j) (inv.group r i leads_it)
          ∙ group_with (passed filled rest i) (passed filled (without_lowest rest) i) (eqb i j) (eqb (cell r) (cell i)) (passed_more filled rest j inv.among low i)
          (λ e. eq-eqb (cell r) (cell i) (same ∙ ap cell (sym (eqb-true i j e))))

      group_other : (k i : ℕ) → leads cell buckets k ≡ true → (k ≡ r → ⊥) → has (get_or grown k 0) i ≡ (passed filled (without_lowest rest) i && eqb (cell k) (cell i))
      group_other k i m n =
          ap (λ (x : ℕ). has x i) (get_or-set_other equal r k (bit_or (get_or equal r 0) ((1 * 2 ^ j) % 2 ^ word_bits)) 0 n)
          ∙ inv.group k i m
          ∙ group_else (passed filled rest i) (passed filled (without_lowest rest) i) (eqb i j) (eqb (cell k) (cell i)) (passed_more filled rest j inv.among low i)
          (λ e. ne_eqb (cell k) (cell i) (λ q. n (inv.one k r m leads_it (q ∙ ap cell (eqb-true i j e) ∙ sym same))))

      more_group : Grouping cell filled left buckets (set leaders j r) grown
      more_group =
          subst (λ (k : ℕ). Grouping cell filled k buckets (set leaders j r) grown) (sym next.rest) (record {
            size = inv.size;
            among = among_more filled rest j inv.among low;
            held = bucket_more;
            one = inv.one;
            group = λ k i m.
                bool_cases (eqb k r)
                (λ e. subst (λ (x : ℕ). has (get_or grown x 0) i ≡ (passed filled (without_lowest rest) i && eqb (cell x) (cell i))) (sym (eqb-true k r e)) (group_it i))
                (λ e. group_other k i m (eqb-false k r e));
            led = led_more r buckets (λ k m. m) leads_it same;
          })

    -- x is the row's cell
    module _ {x : ℕ} (e : x ≡ cell j) where
      pub group_new : LeaderOf cell x (get_or buckets (x % bucket_count) 0) None → j < length equal
          → Grouping cell filled left (set buckets (x % bucket_count) (bit_or (get_or buckets (x % bucket_count) 0) ((1 * 2 ^ j) % 2 ^ word_bits))) (set leaders j j)
          (set equal j ((1 * 2 ^ j) % 2 ^ word_bits))
      group_new none room =
          subst
          (λ (y : ℕ). Grouping cell filled left (set buckets (y % bucket_count) (bit_or (get_or buckets (y % bucket_count) 0) ((1 * 2 ^ j) % 2 ^ word_bits)))
          (set leaders j j) (set equal j ((1 * 2 ^ j) % 2 ^ word_bits)))
          (sym e)
          (new_group (subst (λ (y : ℕ). LeaderOf cell y (get_or buckets (y % bucket_count) 0) None) e none) room)

      pub group_more : (r : ℕ) → LeaderOf cell x (get_or buckets (x % bucket_count) 0) (Some r) → r < length equal
          → Grouping cell filled left buckets (set leaders j r) (set equal r (bit_or (get_or equal r 0) ((1 * 2 ^ j) % 2 ^ word_bits)))
      group_more r found room = more_group r (subst (λ (y : ℕ). LeaderOf cell y (get_or buckets (y % bucket_count) 0) (Some r)) e found) room

-- all rows are grouped
pub group_end : (cell : ℕ → ℕ) (filled rest : ℕ) (buckets leaders equal : List ℕ) → rest ≡ 0 → Inside filled (length equal)
    → Grouping cell filled rest buckets leaders equal → Groups cell filled leaders equal
group_end cell filled rest buckets leaders equal e inside inv =
    let own : (i : ℕ) → has filled i ≡ true → (leads cell buckets (get_or leaders i 0) ≡ true) × (cell (get_or leaders i 0) ≡ cell i) =
    λ i h. inv.led i (passed_all filled rest i e ∙ h) in
    record {
      led = λ i h.
          let l = get_or leaders i 0 in
          inside l (passed_in filled rest l (inv.held (cell l % bucket_count) l (digit_small (cell l)) (own i h).0));
      alike = λ i k h.
          let l = get_or leaders i 0 in
          inv.group l k (own i h).0
          ∙ ap₂ (λ (a : Bool) (x : ℕ). a && eqb x (cell k)) (passed_all filled rest k e) (own i h).1;
    }
