-- What the programs print of two files: `fuse` the listing, as in Program, and `fuse_pages` the pages of request A3.
use Rattle.std.specs.Prelude.{ℕ}
use mathlib.Core.List.{List}
use Rattle.definitions.specs.Calls.{fused_image}
use Rattle.definitions.specs.Page.{all_pages}
use Rattle.definitions.specs.Program.{listing, whole_text}
use Rattle.definitions.specs.declared.Output.{Output}
use Rattle.definitions.specs.declared.Output.TheVariants.{Listing, Pages}

-- what is printed of two images that aren't refused: the listing, or all pages of the fused table, page after page
abbrev pub printed : Output → List ℕ → List ℕ → List ℕ
printed Listing = listing
printed Pages = λ a b. all_pages (fused_image a b)

-- the whole output for the bytes of two files; none is longer than a listing may be, as all pages of a table are at most 54 of 4,860 bytes
abbrev pub whole_output : Output → List ℕ → List ℕ → List ℕ
whole_output output = whole_text (printed output)
