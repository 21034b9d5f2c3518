-- The joined rows of all listed sets, one after the other. Assumes nothing.
use mathlib.Core.Path.{◌≡◌, sym, ◌∙◌, ap, subst}
use mathlib.Core.Bool.{Bool}
use mathlib.Core.List.{List, [], ◌++◌, map, flatten, append_assoc}
use Prim.Native.Nat.{ℕ, ◌+◌, ◌-◌, ◌*◌, ◌<◌, ◌≤◌}
use native.Mathlib.Nat.{add-mul, one-mul, zero-add}
use native.Mathlib.Omega.{arith}
use borrow.Rule.Slice.PartMut.{put_mid, Post-is}
use lib.ListN.{length, get_or, take, drop, length-map}
use lib.Seq.{paste, take_all}
use Rattle.std.proofs.lemmas.List.{get_or-map}
use Rattle.definitions.specs.Image.{rows_in}
use Rattle.definitions.specs.ComplementUnion.{joined, union_sets}
use Rattle.definitions.specs.SetList.{bits}
use Rattle.definitions.specs.Statements.{Member}
use Rattle.definitions.proofs.Lists.{member-get, map-member}
use Rattle.definitions.proofs.Counts.{flatten-length}
use Rattle.definitions.proofs.Flat.{Wide, flat_row}
use Rattle.lists.proofs.Flat.{row_fits, pasted_rows}
use Rattle.lists.proofs.Pastes.{Pasted, pasted_more}
use Rattle.rows.specs.declared.named.Rows.{Rows}
use Rattle.rows.specs.Rows.{rows_of}
use Rattle.fusing.specs.Fused.{RowsOf, AllSetsOf, joined_rows}
use Rattle.fusing.specs.Join.{pick_from}
use Rattle.fusing.proofs.Picks.{joined_wide, picks_joined}

-- a row put in the place of as many words
put_paste : (at c : ℕ) (out row : List ℕ) → length row ≡ c → put_mid at (at + c - at) out row ≡ paste out at row c
put_paste at c out row e =
    ap (λ (z : List ℕ). take at out ++ (row ++ z)) (Post-is at (at + c) out (omega arith))
    ∙ sym (append_assoc (take at out) row (drop (at + c) out))
    ∙ ap (λ (r : List ℕ). take at out ++ r ++ drop (at + c) out) (sym (take_all c row (omega arith)))

-- as many sets as are listed
pub sets_count : (sets : List ℕ) (ss : List (List Bool)) → sets ≡ map bits ss → length ss ≡ length sets
sets_count sets ss known = sym (ap length known ∙ length-map ss bits)

pub set_at : (sets : List ℕ) (k : ℕ) (ss : List (List Bool)) → sets ≡ map bits ss → k < length sets → get_or sets k 0 ≡ bits (get_or ss k [])
set_at sets k ss known more =
    ap (λ (l : List ℕ). get_or l k 0) known ∙ get_or-map bits ss k [] 0 (omega (arith, sets_count sets ss known))

module _ {t : Rows} {words columns sets : List ℕ} (o : RowsOf t columns) (each : length columns ≡ t.width) (g : AllSetsOf words (rows_of t) sets)
    (found : List ℕ) (space : length sets * t.width ≤ length found) where
  abbrev c : ℕ
  c = t.width

  abbrev w : List ℕ
  w = t.cells.now

  abbrev rows : List (List ℕ)
  rows = rows_of t

  joins_count : length (joined_rows words rows) ≡ length sets
  joins_count = length-map (union_sets words rows) (joined rows) ∙ sets_count sets (union_sets words rows) g.listed

  joins_wide : Wide c (joined_rows words rows)
  joins_wide r h =
      let m = map-member (joined rows) r (union_sets words rows) h in
      ap (λ (r : List ℕ). length r) m.2 ∙ joined_wide words c t.len w columns t.fits o.filled m.0 m.1

  joins_size : length (flatten (joined_rows words rows)) ≡ length sets * c
  joins_size = flatten-length c (joined_rows words rows) joins_wide ∙ ap (λ (k : ℕ). k * c) joins_count

  -- the row k is put in the place of those words
  pub joins_turn : (k : ℕ) (now row : List ℕ) → k < length sets → row ≡ pick_from c w (get_or sets k 0) 0 columns
      → Pasted found 0 (flatten (joined_rows words rows)) (k * c) now
      → Pasted found 0 (flatten (joined_rows words rows)) ((k + 1) * c) (put_mid (k * c) (k * c + c - k * c) now row)
  joins_turn k now row more e p =
      let size = joins_size in
      let count = joins_count in
      let within : k * c + c ≤ length sets * c = row_fits c (length sets) k more in
      let s = get_or (union_sets words rows) k [] in
      let l : k < length (union_sets words rows) = omega (arith, sets_count sets (union_sets words rows) g.listed) in
      let member : Member s (union_sets words rows) = member-get [] (union_sets words rows) k l in
      let is_row : row ≡ joined rows s =
      e ∙ ap (λ (x : ℕ). pick_from c w x 0 columns) (set_at sets k (union_sets words rows) g.listed more)
      ∙ picks_joined words c t.len w columns t.fits o.filled s member each in
      let next : k * c + c ≡ (k + 1) * c = omega (arith, add-mul k 1 c, one-mul c) in
      let wide : length (joined rows s) ≡ c = joined_wide words c t.len w columns t.fits o.filled s member in
      subst (λ (i : ℕ). Pasted found 0 (flatten (joined_rows words rows)) i (put_mid (k * c) (k * c + c - k * c) now row)) next
      (pasted_more found 0 (flatten (joined_rows words rows)) (k * c) now (put_mid (k * c) (k * c + c - k * c) now row) (joined rows s) c (k * c) (omega arith) (omega arith) p
      (sym (zero-add (k * c))) wide
      (flat_row c [] (joined_rows words rows) k joins_wide (omega arith) ∙ get_or-map (joined rows) (union_sets words rows) k [] [] l)
      (put_paste (k * c) c now row (ap length is_row ∙ wide) ∙ ap (λ (r : List ℕ). paste now (k * c) r c) is_row))

  pub joins_end : (k : ℕ) (now : List ℕ) → k ≡ length sets → Pasted found 0 (flatten (joined_rows words rows)) (k * c) now
      → rows_in c (length sets) now ≡ joined_rows words rows
  joins_end k now e p =
      pasted_rows c (length sets) (joined_rows words rows) found now joins_wide joins_count
      (p.words ∙ ap (λ (i : ℕ). paste found 0 (flatten (joined_rows words rows)) (i * c)) e)
