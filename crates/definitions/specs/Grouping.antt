-- Request A5, three lists in either grouping: minimum union is associative, its results are idempotent, and complement union is not
-- associative; over the definitions.
use Rattle.std.specs.Prelude.{◌≡◌, List, ℕ, leb, length}
use Rattle.definitions.specs.Limits.{max_rows}
use Rattle.definitions.specs.OuterUnion.{union_rows}
use Rattle.definitions.specs.MinimumUnion.{minimum_rows}
use Rattle.definitions.specs.Questions.{image_number}
use Rattle.definitions.specs.Answer.{Outcome, done, no}
use Rattle.definitions.specs.Calls.{Accepted, minimum_image, fused_image, complement_outcome}

-- a claim about each of the four unions that both groupings of three tables need; `result` makes the image of a union
pub record OfEachUnion (Claim : (a b : List ℕ) → Type 0) (result : List ℕ → List ℕ → List ℕ) (x y z : List ℕ) : Type 0 where
  pub first_two : Claim x y
  pub with_third : Claim (result x y) z
  pub last_two : Claim y z
  pub first_with : Claim x (result y z)

-- "For all three tables where the four minimum unions needed are accepted, the minimum union of the first two, united with the third, has the
-- same words as the first united with the minimum union of the last two."
abbrev pub Associative : Type 0
Associative =
    (x y z : List ℕ) → OfEachUnion Accepted minimum_image x y z
    → minimum_image (minimum_image x y) z ≡ minimum_image x (minimum_image y z)

-- "The minimum union of such a result with itself, where accepted, is that result." Each result of a minimum union is meant: `x` may be one too.
abbrev pub Idempotent : Type 0
Idempotent =
    (x y : List ℕ) → Accepted x y → Accepted (minimum_image x y) (minimum_image x y)
    → minimum_image (minimum_image x y) (minimum_image x y) ≡ minimum_image x y

-- where a result is accepted as a table: of the questions 1 to 7 it can fail the third alone, "Are there at most 32 rows?"
abbrev pub ResultAsTable : Type 0
ResultAsTable =
    (x y : List ℕ) → Accepted x y
    → image_number max_rows (minimum_image x y) ≡ no (leb (length (minimum_rows (union_rows x y))) max_rows) 3

-- an answer is done, with some values
abbrev pub SomeDone : Outcome → Type 0
SomeDone outcome = (values : List ℕ) × (outcome ≡ done values)

-- "Complement union doesn't have the first property": each union of these tables is done in buffers of so many words, and the words differ
pub record NotAssociative (x y z : List ℕ) (room sets_room : ℕ) : Type 0 where
  pub all_done : OfEachUnion (λ a b. SomeDone (complement_outcome a b room sets_room)) fused_image x y z
  pub other_words : fused_image (fused_image x y) z ≡ fused_image x (fused_image y z) → ⊥
