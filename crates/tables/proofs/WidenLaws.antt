-- The rows of an image, widened one after the other: the indices of its columns, and a turn of the loop. Assumes nothing.
use mathlib.Core.Path.{◌≡◌, sym, ◌∙◌, ap, ap₂, subst}
use mathlib.Core.Logic.{inl, inr, ⊎_elim}
use mathlib.Core.List.{List, [], ◌∷◌, ◌++◌, flatten, append-nil, append_assoc}
use Prim.Native.Nat.{ℕ, zero, suc, ◌+◌, ◌-◌, ◌*◌, ◌≤◌, ◌<◌}
use native.Mathlib.Nat.{zero-mul, suc-mul, add-sub_cancel_left, mul-le-mul_right}
use native.Mathlib.Numerals.{add-one}
use native.Mathlib.Omega.{arith}
use lib.ListN.{length, get_or, take, drop, length-map, get_or-map, length-drop, length-append, drop_of_length-le}
use lib.Seq.{take_all, length-take-le, get_or-drop, drop-drop, take-append_seam, drop-append_seam}
use Rattle.definitions.specs.Limits.{max_rows}
use Rattle.definitions.specs.Image.{column_count, row_count, cell_words, image_ids, image_rows}
use Rattle.definitions.specs.OuterUnion.{widened, widened_rows}
use Rattle.definitions.specs.Questions.{image_number}
use Rattle.definitions.specs.Statements.{Member}
use Rattle.definitions.proofs.Lists.{member-get, map-member}
use Rattle.definitions.proofs.Counts.{flatten-length}
use Rattle.definitions.proofs.Questions.{passed_is}
use Rattle.definitions.proofs.Images.{row_size, widened_count, rows_length}
use Rattle.definitions.proofs.Flat.{Wide}
use Rattle.lists.proofs.Flat.{row_fits, flatten_next}
use Rattle.tables.specs.Table.{Source, EmptyFor, Widened}
use Rattle.tables.specs.UnionIds.{indices_in, scattered, in_order}
use Rattle.tables.proofs.Smaller.{distinct_count}
use Rattle.tables.proofs.Scatter.{take_empty, widened-length, scatter_widened, indices_within}

-- ---- lists

take_member : {A : Type 0} (x : A) (k : ℕ) (l : List A) → Member x (take k l) → Member x l
take_member x zero l h = absurd h
take_member x (suc k) [] h = h
take_member x (suc k) (y ∷ l) h = ⊎_elim (λ e. inl e) (λ r. inr (take_member x k l r)) h

pub widened_wide : (union image : List ℕ) → Wide (length union) (widened_rows union image)
unfolding widened_rows
widened_wide union image r h =
    let m = map-member (widened union (image_ids image)) r (image_rows image) h in
    ap length m.2 ∙ widened-length union (image_ids image) m.0

pub widened_words : (union image : List ℕ) → length (flatten (widened_rows union image)) ≡ row_count image * length union
widened_words union image =
    flatten-length (length union) (widened_rows union image) (widened_wide union image) ∙ ap (λ (k : ℕ). k * length union) (widened_count union image)

widened_row : (union image : List ℕ) (i : ℕ) → get_or (widened_rows union image) i (widened union (image_ids image) []) ≡ widened union (image_ids image) (get_or (image_rows image) i [])
unfolding widened_rows
widened_row union image i = get_or-map (widened union (image_ids image)) (image_rows image) i []

-- the first i rows are written, and what follows them is as it was
abbrev pub Widening : List ℕ → List ℕ → List ℕ → ℕ → List ℕ → Type 0
Widening image all cells₀ i cells = cells ≡ flatten (take i (widened_rows (in_order all) image)) ++ drop (i * length all) cells₀

module _ {image all cells₀ : List ℕ} (f : Source image all) (room : EmptyFor image all cells₀) where
  abbrev union : List ℕ
  union = in_order all

  abbrev rows : List (List ℕ)
  rows = widened_rows union image

  count : length union ≡ length all
  count = distinct_count all f.differ

  wide : Wide (length all) rows
  wide = subst (λ (w : ℕ). Wide w rows) count (widened_wide union image)

  pub widen_starts : Widening image all cells₀ 0 cells₀
  unfolding flatten
  widen_starts = sym (ap (λ (k : ℕ). drop k cells₀) (zero-mul (length all)))

  pub widen_ends : {i : ℕ} {cells : List ℕ} → Widening image all cells₀ i cells → row_count image ≤ i → Widened image all cells
  widen_ends {i} {cells} v end =
      let n = widened_count union image in
      v ∙ ap₂ (λ (r : List (List ℕ)) (l : List ℕ). flatten r ++ l) (take_all i rows (omega arith))
      (drop_of_length-le cells₀ (omega (arith, room.room, mul-le-mul_right (length all) end)))
      ∙ append-nil (flatten rows)

  module _ {i at : ℕ} {cells : List ℕ} (v : Widening image all cells₀ i cells) (more : i < row_count image) (at_is : at ≡ i * length all) where
    front_size : length (flatten (take i rows)) ≡ at
    front_size =
        let n = widened_count union image in
        flatten-length (length all) (take i rows) (λ r h. wide r (take_member r i rows h))
        ∙ ap (λ (k : ℕ). k * length all) (length-take-le i rows (omega arith)) ∙ sym at_is

    pub row_within : at + length all ≤ length cells₀
    row_within = omega (arith, at_is, row_fits (length all) (row_count image) i more, room.room)

    same_size : length cells ≡ length cells₀
    same_size =
        let a = length-append (flatten (take i rows)) (drop (i * length all) cells₀) in
        let d = length-drop (i * length all) cells₀ in
        ap length v ∙ omega (arith, front_size, row_within)

    pub end_within : at + length all ≤ length cells
    end_within = omega (arith, same_size, row_within)

    -- the cells that the next row is written to
    abbrev part : List ℕ
    part = take (at + length all - at) (drop at cells)

    part_is : part ≡ take (length all) (drop at cells₀)
    part_is =
        ap₂ (λ (k : ℕ) (l : List ℕ). take k l) (add-sub_cancel_left at (length all))
        (ap₂ drop (sym front_size) v ∙ drop-append_seam (flatten (take i rows)) (drop (i * length all) cells₀) ∙ ap (λ (k : ℕ). drop k cells₀) (sym at_is))

    part_size : length part ≡ length union
    part_size = ap length part_is ∙ length-take-le (length all) (drop at cells₀) (omega (arith, length-drop at cells₀, row_within)) ∙ sym count

    part_empty : (k : ℕ) → get_or part k 0 ≡ 0
    part_empty k = ap (λ (l : List ℕ). get_or l k 0) part_is ∙ take_empty (length all) (drop at cells₀) (λ j. get_or-drop at cells₀ j 0 ∙ room.empty (at + j)) k

    module _ (accepted : image_number max_rows image ≡ 0) (indices row : List ℕ) (ep : indices ≡ indices_in union (image_ids image)) (er : row ≡ get_or (image_rows image) i []) where
      row_even : length row ≡ length (image_ids image)
      row_even =
          let p = (passed_is max_rows image).0 accepted in
          let n : length (image_rows image) ≡ row_count image = rows_length (column_count image) (row_count image) (cell_words image) in
          ap length er ∙ row_size max_rows image p (get_or (image_rows image) i []) (member-get [] (image_rows image) i (omega arith))

      -- each cell of the row has an index, within the cells
      pub row_indices : (length row ≤ length indices) × ((p : ℕ) → Member p indices → p < length part)
      row_indices =
          let n : length indices ≡ length (image_ids image) = ap length ep ∙ length-map (image_ids image) _ in
          let e = row_even in
          let z = part_size in (
            omega arith,
            λ p h. let w = indices_within union (image_ids image) f.covers.strict f.covers.has p (subst (Member p) ep h) in omega arith,
          )

      pub widen_turn : (new : List ℕ) → new ≡ scattered part indices row
          → Widening image all cells₀ (i + 1) (take at cells ++ (new ++ drop (at + length all - at) (drop at cells)))
      widen_turn new e =
          let n = widened_count union image in
          let next : new ≡ get_or rows i (widened union (image_ids image) []) =
          e ∙ ap₂ (λ (l r : List ℕ). scattered part l r) ep er
          ∙ scatter_widened union (image_ids image) (get_or (image_rows image) i []) part f.covers.strict ((passed_is max_rows image).0 accepted).distinct_ids f.covers.has
          (sym (ap length er) ∙ row_even) part_size part_empty
          ∙ sym (widened_row union image i) in
          let front : take at cells ≡ flatten (take i rows) =
          ap₂ take (sym front_size) v ∙ take-append_seam (flatten (take i rows)) (drop (i * length all) cells₀) in
          let rest : drop (at + length all - at) (drop at cells) ≡ drop ((i + 1) * length all) cells₀ =
          ap (λ (k : ℕ). drop k (drop at cells)) (add-sub_cancel_left at (length all))
          ∙ ap (drop (length all)) (ap₂ drop (sym front_size) v ∙ drop-append_seam (flatten (take i rows)) (drop (i * length all) cells₀))
          ∙ drop-drop (length all) (i * length all) cells₀
          ∙ ap (λ (k : ℕ). drop k cells₀) (omega (arith, suc-mul i (length all), ap (λ (k : ℕ). k * length all) (add-one i))) in
          ap₂ (λ (p q : List ℕ). p ++ q) front (ap₂ (λ (p q : List ℕ). p ++ q) next rest)
          ∙ sym (append_assoc (flatten (take i rows)) (get_or rows i (widened union (image_ids image) [])) (drop ((i + 1) * length all) cells₀))
          ∙ ap (λ (l : List ℕ). l ++ drop ((i + 1) * length all) cells₀) (sym (ap (λ (k : ℕ). flatten (take k rows)) (add-one i) ∙ flatten_next i rows (widened union (image_ids image) []) (omega arith)))
