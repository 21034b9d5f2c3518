-- A walk over the columns of two rows: one covers the other exactly if it does so from column c on. Assumes nothing.
use mathlib.Core.Path.{◌≡◌, ◌∙◌, ap, ap₂}
use mathlib.Core.Bool.{true, not, ◌&&◌, ◌||◌}
use mathlib.Core.List.{List}
use Prim.Native.Nat.{ℕ, ◌+◌, ◌<◌, ◌≤◌}
use lib.Dec.{eqb}
use lib.ListN.{length, get_or, drop}
use Rattle.std.proofs.lemmas.List.{drop_more, drop_all}
use Rattle.definitions.specs.Word.{is_filled}
use Rattle.definitions.specs.MinimumUnion.{covers}

module _ (s t : List ℕ) (c : ℕ) (inv : covers s t ≡ covers (drop c s) (drop c t)) where
  pub covers_next : c < length s → c < length t
      → covers s t ≡ ((not (is_filled (get_or t c 0)) || eqb (get_or s c 0) (get_or t c 0)) && covers (drop (c + 1) s) (drop (c + 1) t))
  unfolding covers
  covers_next hs ht = inv ∙ ap₂ covers (drop_more s c 0 hs) (drop_more t c 0 ht)

  pub covers_end : length t ≤ c → covers s t ≡ true
  unfolding covers
  covers_end h = inv ∙ ap (covers (drop c s)) (drop_all c t h)
