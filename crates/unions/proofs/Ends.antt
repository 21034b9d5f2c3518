-- How a call with a table buffer alone ends: refused with the buffer as found, or done with its result over the front. Assumes nothing.
use mathlib.Core.Path.{◌≡◌, sym, ◌∙◌, ap, ap₂, subst}
use mathlib.Core.List.{List, ◌∷◌, flatten}
use Prim.Native.Nat.{ℕ}
use lib.ListN.{length}
use Rattle.definitions.specs.Image.{image_of}
use Rattle.definitions.specs.MinimumUnion.{filled}
use Rattle.definitions.specs.Answer.{Outcome, done, says, afterwards}
use Rattle.definitions.specs.Calls.{pair_outcome, enough_room}
use Rattle.definitions.specs.Promise.{BufferPromise}
use Rattle.std.proofs.Common.{Result, Ok, Err}
use Rattle.definitions.specs.declared.refusal.Refusal.{Refusal}
use Rattle.images.specs.declared.write.Written.{Written}
use Rattle.images.specs.Writing.{chosen, PutImage}
use Rattle.rows.specs.declared.named.Rows.{Rows}
use Rattle.tables.specs.Table.{Found}
use Rattle.tables.specs.declared.union.Pair.{Pair}
use Rattle.unions.specs.Questions.{Checked}
use Rattle.unions.proofs.Pairs.{pair_refused, pair_accepted}
use Rattle.unions.proofs.Tables.{ImageRows}

-- the pair is refused, and the call answers with that
pub refused_pair : {a b : List ℕ} (q : Result Pair Refusal) → Checked a b q → (rest : Outcome) (image found : List ℕ) (r : Refusal) → q ≡ Err r
    → {A : Type 0} (values : A → List ℕ) (answer : Result A Refusal) → answer ≡ Err r → BufferPromise (pair_outcome a b rest) image found (says values answer) found
refused_pair q c rest image found r e values answer f = record { answers = ap (says values) f ∙ pair_refused q c rest r e; writes = ap (λ (o : Outcome). afterwards o image found) (ap (says values) (sym f)) }

-- the pair is accepted, the rows of the result are named by m indices, and question 10 is put
module _ {a b all : List ℕ} (f : Found a b all) {u : List ℕ} {rows : List (List ℕ)} {columns : List ℕ} {lent : Rows} {m : ℕ} {order : List ℕ}
    (s : ImageRows u rows columns lent m order) {found after : List ℕ} {r : Result Written Refusal}
    (p : PutImage columns (chosen lent order) (length order) found r after) (more : List ℕ) where
  abbrev image : List ℕ
  image = image_of u rows

  abbrev room_outcome : Outcome
  room_outcome = enough_room image (length found) (done (length rows ∷ length image ∷ filled (flatten rows) ∷ more))

  abbrev said : Result Written Refusal → Outcome
  said = says (λ w. length order ∷ w.words ∷ w.filled ∷ more)

  asked : BufferPromise room_outcome image found (said r) after
  asked =
      let q : PutImage u rows (length order) found r after =
      subst (λ (x : List ℕ). PutImage x rows (length order) found r after) s.ids
      (subst (λ (l : List (List ℕ)). PutImage columns l (length order) found r after) s.are p) in
      q.promise more

  -- what the answer says, by what the part said
  ended : (told : Result Written Refusal) → r ≡ told → BufferPromise (pair_outcome a b room_outcome) image found (said told) after
  ended told e =
      let q = subst (λ (o : Result Written Refusal). BufferPromise room_outcome image found (said o) after) e asked in
      record { answers = q.answers ∙ pair_accepted f room_outcome; writes = q.writes }

  pub refused_room : (e : Refusal) → r ≡ Err e → {A : Type 0} (values : A → List ℕ) (answer : Result A Refusal) → answer ≡ Err e
      → BufferPromise (pair_outcome a b room_outcome) image found (says values answer) after
  refused_room e was values answer f = subst (λ (o : Outcome). BufferPromise (pair_outcome a b room_outcome) image found o after) (ap (says values) (sym f)) (ended (Err e) was)

  pub done_room : (w : Written) → r ≡ Ok w → (told : List ℕ) → told ≡ more
      → BufferPromise (pair_outcome a b room_outcome) image found (done (m ∷ w.words ∷ w.filled ∷ told)) after
  done_room w was told e =
      subst (λ (l : List ℕ). BufferPromise (pair_outcome a b room_outcome) image found (done l) after)
      (ap₂ (λ (k : ℕ) (l : List ℕ). k ∷ w.words ∷ w.filled ∷ l) s.count (sym e)) (ended (Ok w) was)
