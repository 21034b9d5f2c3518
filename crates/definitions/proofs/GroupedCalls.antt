-- Request A5 over the promises of the calls: what a call wrote is the image of its result, and is handed to the next. Assumes nothing.
use mathlib.Core.Path.{◌≡◌, sym, ◌∙◌, ap, ap₂, subst, subst₂}
use mathlib.Core.List.{List, [], ◌∷◌}
use Prim.Native.Nat.{ℕ}
use lib.ListN.{length, take}
use Rattle.definitions.specs.Image.{row_count, cell_words}
use Rattle.definitions.specs.MinimumUnion.{filled}
use Rattle.definitions.specs.Calls.{Accepted, minimum_image, fused_image}
use Rattle.definitions.specs.Promise.{MinimumWrote, ComplementWrote, OfBothGroupings, CallsAssociative, CallsCounted, CallsIdempotent, CallsNotAssociative}
use Rattle.definitions.specs.Grouping.{OfEachUnion, NotAssociative}
use Rattle.definitions.proofs.Promise.{table_front, minimum_complete, minimum_front, complement_complete}
use Rattle.definitions.proofs.MinimumResult.{result_count, result_cells}
use Rattle.definitions.proofs.Grouping.{associative, idempotent}

-- ---- what a call wrote is its result's image

minimum_wrote : (a b result : List ℕ) → MinimumWrote a b result → Accepted a b × (result ≡ minimum_image a b)
minimum_wrote a b result w = (
  (minimum_complete a b w.table w.table_after w.values w.call).accepted,
  sym w.written ∙ minimum_front a b w.table w.table_after w.values w.call,
)

complement_wrote : (a b result : List ℕ) → ComplementWrote a b result → Accepted a b × (result ≡ fused_image a b)
complement_wrote a b result w = ((complement_complete w.call).accepted, sym w.written ∙ table_front w.call)

-- the answer's rows, words written and filled cells are those of the words; the pairs tried are of the two tables
wrote_counts : (a b result : List ℕ) (w : MinimumWrote a b result) → take 3 w.values ≡ row_count result ∷ length result ∷ filled (cell_words result) ∷ []
wrote_counts a b result w =
    let p = minimum_wrote a b result w in
    let counts : List ℕ → List ℕ = λ image. row_count image ∷ length image ∷ filled (cell_words image) ∷ [] in
    ap (take 3) (minimum_complete a b w.table w.table_after w.values w.call).carries
    ∙ sym (ap counts p.1 ∙ ap₂ (λ (rows cells : ℕ). rows ∷ length (minimum_image a b) ∷ cells ∷ []) (result_count a b p.0) (ap filled (result_cells a b p.0)))

pub calls_counted : CallsCounted
calls_counted a b c d words v w = wrote_counts a b words v ∙ sym (wrote_counts c d words w)

-- ---- what a call wrote is handed to the next

-- what holds of the results of both groupings holds of the words that calls wrote and handed on
module _ (Wrote : (a b words : List ℕ) → Type 0) (result : List ℕ → List ℕ → List ℕ)
    (wrote : (a b words : List ℕ) → Wrote a b words → Accepted a b × (words ≡ result a b)) (x y z : List ℕ) where
  handed_on : (Claim : (left right : List ℕ) → Type 0)
      → (OfEachUnion Accepted result x y z → Claim (result (result x y) z) (result x (result y z)))
      → OfBothGroupings Wrote x y z Claim
  handed_on Claim f first_two left last_two right wrote_first_two wrote_left wrote_last_two wrote_right =
      let xy = wrote x y first_two wrote_first_two in
      let yz = wrote y z last_two wrote_last_two in
      let to_third = wrote first_two z left wrote_left in
      let from_first = wrote x last_two right wrote_right in
      let left_is : left ≡ result (result x y) z = to_third.1 ∙ ap (λ (l : List ℕ). result l z) xy.1 in
      let right_is : right ≡ result x (result y z) = from_first.1 ∙ ap (result x) yz.1 in
      subst₂ Claim (sym left_is) (sym right_is)
      (f (record {
        first_two = xy.0;
        with_third = subst (λ (l : List ℕ). Accepted l z) xy.1 to_third.0;
        last_two = yz.0;
        first_with = subst (λ (l : List ℕ). Accepted x l) yz.1 from_first.0;
      }))

pub calls_associative : CallsAssociative
calls_associative x y z = handed_on MinimumWrote minimum_image minimum_wrote x y z (λ left right. left ≡ right) (associative x y z)

pub calls_idempotent : CallsIdempotent
calls_idempotent x y result again_words wrote wrote_again =
    let xy = minimum_wrote x y result wrote in
    let twice = minimum_wrote result result again_words wrote_again in
    let accepted = subst (λ (l : List ℕ). Accepted l l) xy.1 twice.0 in
    twice.1 ∙ ap (λ (l : List ℕ). minimum_image l l) xy.1 ∙ idempotent x y xy.0 accepted ∙ sym xy.1

pub calls_not_associative : (x y z : List ℕ) (room sets_room : ℕ) → NotAssociative x y z room sets_room → CallsNotAssociative x y z
calls_not_associative x y z room sets_room u =
    handed_on ComplementWrote fused_image complement_wrote x y z (λ left right. left ≡ right → ⊥) (λ p. u.other_words)
