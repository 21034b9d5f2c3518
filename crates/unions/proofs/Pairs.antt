-- The questions 1 to 8, return by return, and how a call goes on after them. Assumes nothing.
use mathlib.Core.Path.{◌≡◌, sym, ◌∙◌, ap, ap₂}
use mathlib.Core.List.{List}
use Prim.Native.Nat.{ℕ, ◌≤◌, ◌<◌}
use native.Mathlib.Omega.{arith}
use lib.ListN.{length, take}
use lib.Seq.{length-take-le}
use Rattle.definitions.specs.Limits.{max_columns, max_rows}
use Rattle.definitions.specs.OuterUnion.{union_ids}
use Rattle.definitions.specs.Questions.{image_number}
use Rattle.definitions.specs.Answer.{Outcome, refused, unless, or_refused}
use Rattle.definitions.specs.Calls.{pair_outcome}
use Rattle.definitions.proofs.Outcomes.{asked_no, accepted_on}
use Rattle.std.proofs.Common.{Result, Ok, Err}
use Rattle.definitions.specs.declared.refusal.Refusal.{Refusal}
use Rattle.definitions.specs.declared.refusal.Question.TheVariants.{UnionColumns}
use Rattle.definitions.specs.declared.refusal.Subject.TheVariants.{Both}
use Rattle.definitions.specs.Refusal.{question_number, table_number, put_to}
use Rattle.images.specs.declared.image.Image.{Image}
use Rattle.tables.specs.UnionIds.{BothIds}
use Rattle.tables.specs.Table.{Found}
use Rattle.tables.specs.declared.union.Pair.{Pair}
use Rattle.tables.proofs.IdLaws.{both_count}
use Rattle.unions.specs.Questions.{Checked}

-- an accepted pair goes on
pub pair_accepted : {a b all : List ℕ} → Found a b all → (rest : Outcome) → rest ≡ pair_outcome a b rest
pair_accepted {a} {b} {all} f rest =
    sym (accepted_on a b rest (record { first = f.first; second = f.second; columns = omega (arith, both_count a b all f.ids, f.few) }))

pub pair_refused : {a b : List ℕ} (q : Result Pair Refusal) → Checked a b q → (rest : Outcome) (r : Refusal) → q ≡ Err r
    → refused (question_number r.question) (table_number r.subject) ≡ pair_outcome a b rest
pair_refused q c rest r e = sym (c.says rest ∙ ap (λ (x : Result Pair Refusal). or_refused x rest) e)

-- ---- the returns of `check_pair`

-- what the questions 1 to 7 leave of a call, where they are put to a table
abbrev pub Put : List ℕ → ℕ → Result (Image max_rows) Refusal → Type 0
Put image table r = (rest : Outcome) → unless (image_number max_rows image) table rest ≡ or_refused r rest

-- an accepted image leaves the rest
passed : (words : List ℕ) (table : ℕ) (r : Result (Image max_rows) Refusal) (image : Image max_rows) → Put words table r → r ≡ Ok image → (rest : Outcome)
    → unless (image_number max_rows words) table rest ≡ rest
passed words table r image p e rest = p rest ∙ ap (λ (q : Result (Image max_rows) Refusal). or_refused q rest) e

-- a refusal of a part is the call's
refused_same : (r : Refusal) (part : Result (Image max_rows) Refusal) (q : Result Pair Refusal) (rest more : Outcome) → part ≡ Err r → q ≡ Err r
    → or_refused part more ≡ or_refused q rest
refused_same r part q rest more e f = ap (λ (x : Result (Image max_rows) Refusal). or_refused x more) e ∙ ap (λ (x : Result Pair Refusal). or_refused x rest) (sym f)

not_accepted : {A : Type 0} (r : Refusal) (q : Result Pair Refusal) (pair : Pair) → q ≡ Err r → q ≡ Ok pair → A
not_accepted r q pair e f = cc

module _ (a b : List ℕ) (one two : Result (Image max_rows) Refusal) (put_one : Put a 0 one) where
  pub no_first : (q : Result Pair Refusal) (r : Refusal) → one ≡ Err r → q ≡ Err r → Checked a b q
  unfolding pair_outcome
  no_first q r e f = record {
    says = λ rest. put_one _ ∙ refused_same r one q rest _ e f;
    lends = λ pair g. not_accepted r q pair f g;
  }

  module _ (first : Image max_rows) (is_first : one ≡ Ok first) (put_two : Put b 1 two) where
    pub no_second : (q : Result Pair Refusal) (r : Refusal) → two ≡ Err r → q ≡ Err r → Checked a b q
    unfolding pair_outcome
    no_second q r e f = record {
      says = λ rest. passed a 0 one first put_one is_first _ ∙ put_two _ ∙ refused_same r two q rest _ e f;
      lends = λ pair g. not_accepted r q pair f g;
    }

    module _ (second : Image max_rows) (is_second : two ≡ Ok second) (all : List ℕ) (columns : ℕ) (within : columns ≤ length all)
        (ids : BothIds first.words.now second.words.now (take columns all)) (first_same : first.words.now ≡ a) (second_same : second.words.now ≡ b) where
      counted : length (union_ids a b) ≡ columns
      counted =
          ap₂ (λ (x y : List ℕ). length (union_ids x y)) (sym first_same) (sym second_same)
          ∙ both_count first.words.now second.words.now (take columns all) ids ∙ length-take-le columns all within

      pub no_columns : (q : Result Pair Refusal) (r : Refusal) → r ≡ put_to Both UnionColumns → max_columns < columns → q ≡ Err r → Checked a b q
      unfolding pair_outcome
      no_columns q r e h f =
          let many : max_columns < length (union_ids a b) = omega (arith, counted) in
          record {
            says = λ rest. passed a 0 one first put_one is_first _ ∙ passed b 1 two second put_two is_second _
                ∙ sym (asked_no (length (union_ids a b)) max_columns 7 rest many)
                ∙ ap (λ (x : Refusal). refused (question_number x.question) (table_number x.subject)) (sym e)
                ∙ ap (λ (x : Result Pair Refusal). or_refused x rest) (sym f);
            lends = λ pair g. not_accepted r q pair f g;
          }

-- the pair that is lent is the one that was found
pub yes : {a b : List ℕ} (pair : Pair) (q : Result Pair Refusal) → q ≡ Ok pair → pair.first.words.now ≡ a → pair.second.words.now ≡ b → Checked a b q
yes pair q f e g = record {
  says = λ rest. ap₂ (λ (x y : List ℕ). pair_outcome x y rest) (sym e) (sym g) ∙ sym (pair_accepted pair.found rest)
      ∙ ap (λ (x : Result Pair Refusal). or_refused x rest) (sym f);
  lends = λ other h. let same : pair ≡ other = cc in (ap (λ (p : Pair). p.first.words.now) (sym same) ∙ e, ap (λ (p : Pair). p.second.words.now) (sym same) ∙ g);
}
