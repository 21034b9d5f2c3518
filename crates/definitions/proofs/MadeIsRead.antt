-- Request A1: every list that complement union makes is read as the sets that made it. Assumes nothing.
use mathlib.Core.Path.{◌≡◌, ◌∙◌, ap, ap₂}
use mathlib.Core.List.{List}
use Prim.Native.Nat.{ℕ}
use lib.ListN.{length, take}
use Rattle.definitions.specs.Limits.{mark_words}
use Rattle.definitions.specs.OuterUnion.{union_columns, union_rows}
use Rattle.definitions.specs.ComplementUnion.{union_sets}
use Rattle.definitions.specs.SetList.{set_list}
use Rattle.definitions.specs.Answer.{done, afterwards}
use Rattle.definitions.specs.ReadBack.{read_words, words_room, read_outcome, made_words}
use Rattle.definitions.specs.Claims.{ComplementDone, AcceptedList}
use Rattle.definitions.specs.Demand3.{words_of_sets}
use Rattle.definitions.specs.Promise.{MadeIsRead}
use Rattle.definitions.proofs.Outcomes.{unless_passed}
use Rattle.definitions.proofs.Images.{accepted_rows}
use Rattle.definitions.proofs.Promise.{set_front, complement_complete}
use Rattle.definitions.proofs.ReadOutcome.{accepted_list}
use Rattle.definitions.proofs.MadeLists.{made_count, list_accepted, list_words_lem}

module _ {a b : List ℕ} {room sets_room : ℕ} {values : List ℕ} (d : ComplementDone a b room sets_room values) where
  abbrev columns : List ℕ
  columns = union_columns a b

  abbrev T : List (List ℕ)
  T = union_rows a b

  pub made_accepted : AcceptedList (length T) (set_list columns T)
  made_accepted = list_accepted columns T d.few_sets (accepted_rows a b d.accepted)

  pub made_words_lem : read_words mark_words (set_list columns T) ≡ made_words columns T
  made_words_lem = list_words_lem columns T d.few_sets (accepted_rows a b d.accepted)

  -- the reader of such a list refuses nothing but a short buffer
  pub made_outcome : (words : ℕ)
      → read_outcome (set_list columns T) (length T) words ≡ words_room (length (union_sets columns T)) (made_words columns T) words
  unfolding read_outcome
  made_outcome words =
      unless_passed _ 2 _ ((accepted_list (length T) (set_list columns T)).1 made_accepted)
      ∙ ap₂ (λ (n : ℕ) (w : List ℕ). words_room n w words)
      (made_count columns T d.few_sets (accepted_rows a b d.accepted)) made_words_lem

-- "Every list that complement union makes is read as the sets that made it"
pub made_is_read : MadeIsRead
made_is_read a b table sets values table_after sets_after p words answer words_after q =
    let d = complement_complete p in
    let list : take (words_of_sets (done values)) sets_after ≡ set_list (union_columns a b) (union_rows a b) = set_front p in
    record {
      answers =
          q.answers
          ∙ ap (λ (l : List ℕ). read_outcome l (length (union_rows a b)) (length words)) list
          ∙ made_outcome d (length words);
      writes =
          q.writes ∙ ap (λ (w : List ℕ). afterwards answer w words) (ap (read_words mark_words) list ∙ made_words_lem d);
    }
