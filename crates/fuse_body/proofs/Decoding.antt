-- Words from bytes, chunk by chunk. Assumes nothing.
use Rattle.std.proofs.Common.{◌≡◌, refl, sym, ◌∙◌, ap, ap₂, ℕ, zero, suc, ◌/◌, ◌<◌, ◌≤◌, List, [], ◌∷◌, map, length, take, arith, w32}
use Rattle.std.specs.Int.{from_le_bytes}
use Rattle.std.specs.Simd.{first_chunks}
use Rattle.definitions.specs.Program.{word_of_bytes, words_of}
use lib.Seq.{take_all}
use Rattle.fuse_body.specs.Parts.{Decoded}

few_bytes : (bytes : List ℕ) → length bytes < 4 → words_of bytes ≡ []
unfolding words_of
few_bytes [] h = refl
few_bytes (a ∷ []) h = refl
few_bytes (a ∷ b ∷ []) h = refl
few_bytes (a ∷ b ∷ c ∷ []) h = refl
few_bytes (a ∷ b ∷ c ∷ d ∷ bytes) h = absurd (omega arith)

le_word : (a b c d : ℕ) → word_of_bytes a b c d ≡ from_le_bytes w32 (a ∷ b ∷ c ∷ d ∷ [])
le_word a b c d = omega arith

pub words_are : (n : ℕ) (bytes : List ℕ) → n ≡ length bytes / 4 → words_of bytes ≡ map (from_le_bytes w32) (first_chunks 4 n bytes)
unfolding words_of
words_are zero bytes e = few_bytes bytes (omega (arith, e))
words_are (suc n) [] e = absurd (omega (arith, e))
words_are (suc n) (a ∷ []) e = absurd (omega (arith, e))
words_are (suc n) (a ∷ b ∷ []) e = absurd (omega (arith, e))
words_are (suc n) (a ∷ b ∷ c ∷ []) e = absurd (omega (arith, e))
words_are (suc n) (a ∷ b ∷ c ∷ d ∷ bytes) e =
    ap₂ (λ (w : ℕ) (l : List ℕ). w ∷ l) (le_word a b c d) (words_are n bytes (omega (arith, e)))

-- all chunks are decoded
pub decoded : (bytes words : List ℕ) (chunks : List (List ℕ)) (i : ℕ) → chunks ≡ first_chunks 4 (length bytes / 4) bytes → i ≡ length chunks
    → length chunks ≤ length words → take i words ≡ map (from_le_bytes w32) (take i chunks) → Decoded bytes words (length chunks)
decoded bytes words chunks i e whole h w =
    record {
      within = h;
      holds = ap (λ (n : ℕ). take n words) (sym whole) ∙ w
          ∙ ap (map (from_le_bytes w32)) (take_all i chunks (omega (arith, whole)) ∙ e)
          ∙ sym (words_are (length bytes / 4) bytes refl);
    }
