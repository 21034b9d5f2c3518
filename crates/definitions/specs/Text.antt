-- Document 01, "Program `fuse`": numbers, ids and cells as text, for the listing and for the pages of request A3. A text is a list of bytes.
use Rattle.std.specs.Prelude.{ℕ, zero, suc, ◌+◌, ◌/◌, ◌%◌, ◌^◌, cond, List, [], ◌∷◌, ◌++◌, eqb, ltb}
use Prim.Native.Char.{code}
use Prim.Native.String.{String, [] as end, ◌∷◌ as ◌then◌}
use Rattle.definitions.specs.Word.{id_of, is_filled, none}

-- the bytes of a text of ASCII characters
abbrev pub ascii : String → List ℕ
ascii end = []
ascii (c then text) = code c ∷ ascii text

-- the decimal digits of n, with no zeros in front; each step takes a digit off, and n steps are enough
unfoldable pub digits : ℕ → ℕ → List ℕ
digits zero n = (48 + n) ∷ []
digits (suc steps) n =
    let more : List ℕ = digits steps (n / 10) ++ ((48 + n % 10) ∷ []) in
    cond (ltb n 10) ((48 + n) ∷ []) more

unfoldable pub decimal : ℕ → List ℕ
decimal n = digits n n

-- the id of a column word
abbrev pub id_text : ℕ → List ℕ
id_text w = decimal (id_of w)

-- request A4: "Listings and pages show `none`"; "`-` is empty"; of any other cell, the number in its low 30 bits
unfoldable pub cell_text : ℕ → List ℕ
cell_text w = cond (eqb w none) (ascii "none") (cond (is_filled w) (decimal (w % 2 ^ 30)) (ascii "-"))
