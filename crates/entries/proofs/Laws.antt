-- Rows of M, V and R made one after the other.
use Prim.Native.Nat.{ℕ, zero, suc, ◌+◌, ◌-◌, ◌*◌, ◌≤◌, ◌<◌}
use mathlib.Core.Path.{◌≡◌, refl, sym, ap, ap₂, ◌∙◌}
use mathlib.Core.List.{List, [], ◌∷◌}
use native.Mathlib.Nat.{not-suc-le-zero, le_of_suc-le-suc, add-sub_cancel_left}
use native.Mathlib.Numerals.{add-one}
use native.Mathlib.Omega.{arith}
use lib.ListN.{length, get_or, take, drop, set}
use lib.Seq.{take_all, take-suc, take-suc-set, drop-drop}
use Rattle.octets.proofs.Parts.{length_part}
use Rattle.table.specs.Table.{Row, Table, rows}
use Rattle.table.proofs.Rows.{rows-length}
use Rattle.table.proofs.Walk.{row_part}
use Rattle.scheme.specs.Store.{entry_row, reverse_row, label_row}
use Rattle.scheme.specs.Insert.{entry_rows, reverse_rows, label_rows}
use Rattle.suite.specs.Program.{program}

pub piece_long : (w i : ℕ) (l : List ℕ) → w * i + w ≤ length l → length (take (w * i + w - w * i) (drop (w * i) l)) ≡ w
piece_long w i l h = length_part l (w * i) (w * i + w) h ∙ add-sub_cancel_left (w * i) w

pub take_more : (t new : Table) (i : ℕ) (row : Row) → i < length t → i < length new → take i t ≡ take i new → row ≡ get_or new i []
    → take (i + 1) (set t i row) ≡ take (i + 1) new
take_more t new i row h k e f = rw (add-one i, take-suc-set t i row h, e, take-suc new i [] k, f)

pub take_done : (t new : Table) (i : ℕ) → length t ≤ i → length new ≤ i → take i t ≡ take i new → t ≡ new
take_done t new i h k e = sym (take_all i t h) ∙ e ∙ take_all i new k

module _ (mt : List ℕ) where
  pub length_reverses : (g : ℕ) (ids : List (List ℕ)) → length (reverse_rows program mt g ids) ≡ length ids
  length_reverses g [] = refl
  length_reverses g (id ∷ ids) = ap suc (length_reverses (suc g) ids)

  reverse_at : (g i : ℕ) (ids : List (List ℕ)) → i < length ids → get_or (reverse_rows program mt g ids) i [] ≡ reverse_row program mt (g + i + 1) (get_or ids i [])
  reverse_at g i [] h = absurd (not-suc-le-zero h)
  reverse_at g zero (id ∷ ids) h = let e : suc g ≡ g + 0 + 1 = omega arith in ap (λ (a : ℕ). reverse_row program mt a id) e
  reverse_at g (suc i) (id ∷ ids) h =
      let e : suc g + i + 1 ≡ g + suc i + 1 = omega arith in
      reverse_at (suc g) i ids (le_of_suc-le-suc h) ∙ ap (λ (a : ℕ). reverse_row program mt a (get_or ids i [])) e

  module _ (me : List ℕ) where
    pub length_entries : (g : ℕ) (ids : List (List ℕ)) (nonces : List ℕ) → length (entry_rows program mt me g ids nonces) ≡ length ids
    length_entries g [] nonces = refl
    length_entries g (id ∷ ids) nonces = ap suc (length_entries (suc g) ids (drop 12 nonces))

    entry_at : (g i : ℕ) (ids : List (List ℕ)) (nonces : List ℕ) → i < length ids
        → get_or (entry_rows program mt me g ids nonces) i [] ≡ entry_row program mt me (g + i + 1) (take 12 (drop (12 * i) nonces)) (get_or ids i [])
    entry_at g i [] nonces h = absurd (not-suc-le-zero h)
    entry_at g zero (id ∷ ids) nonces h = let e : suc g ≡ g + 0 + 1 = omega arith in ap (λ (a : ℕ). entry_row program mt me a (take 12 nonces) id) e
    entry_at g (suc i) (id ∷ ids) nonces h =
        let e : suc g + i + 1 ≡ g + suc i + 1 = omega arith in
        let n : 12 + 12 * i ≡ 12 * suc i = omega arith in
        entry_at (suc g) i ids (drop 12 nonces) (le_of_suc-le-suc h)
        ∙ ap₂ (λ (a : ℕ) (l : List ℕ). entry_row program mt me a (take 12 l) (get_or ids i [])) e (drop-drop (12 * i) 12 nonces ∙ ap (λ (k : ℕ). drop k nonces) n)

  -- the rows made of the pieces for id i are those of its place
  module _ (g n i : ℕ) (ids : List ℕ) (h : i < n) where
    pub made_reverse : (row : Row) → row ≡ reverse_row program mt (g + i + 1) (take (16 * i + 16 - 16 * i) (drop (16 * i) ids)) → row ≡ get_or (reverse_rows program mt g (rows 16 n ids)) i []
    made_reverse row e =
        e ∙ ap (reverse_row program mt (g + i + 1)) (row_part 16 n i ids h) ∙ sym (reverse_at g i (rows 16 n ids) (rw (rows-length 16 n ids) h))

    pub made_entry : (me nonces : List ℕ) (row : Row)
        → row ≡ entry_row program mt me (g + i + 1) (take (12 * i + 12 - 12 * i) (drop (12 * i) nonces)) (take (16 * i + 16 - 16 * i) (drop (16 * i) ids))
        → row ≡ get_or (entry_rows program mt me g (rows 16 n ids) nonces) i []
    made_entry me nonces row e =
        e
        ∙ ap₂ (λ (k : ℕ) (id : List ℕ). entry_row program mt me (g + i + 1) (take k (drop (12 * i) nonces)) id) (add-sub_cancel_left (12 * i) 12) (row_part 16 n i ids h)
        ∙ sym (entry_at me g i (rows 16 n ids) nonces (rw (rows-length 16 n ids) h))

module _ (rl : List ℕ) where
  pub length_labels : (ids : List (List ℕ)) (nonces : List ℕ) → length (label_rows program rl ids nonces) ≡ length ids
  length_labels [] nonces = refl
  length_labels (id ∷ ids) nonces = ap suc (length_labels ids (drop 12 nonces))

  label_at : (i : ℕ) (ids : List (List ℕ)) (nonces : List ℕ) → i < length ids
      → get_or (label_rows program rl ids nonces) i [] ≡ label_row program rl (take 12 (drop (12 * i) nonces)) (get_or ids i [])
  label_at i [] nonces h = absurd (not-suc-le-zero h)
  label_at zero (id ∷ ids) nonces h = refl
  label_at (suc i) (id ∷ ids) nonces h =
      let n : 12 + 12 * i ≡ 12 * suc i = omega arith in
      label_at i ids (drop 12 nonces) (le_of_suc-le-suc h)
      ∙ ap (λ (l : List ℕ). label_row program rl (take 12 l) (get_or ids i [])) (drop-drop (12 * i) 12 nonces ∙ ap (λ (k : ℕ). drop k nonces) n)

  pub made_label : (n i : ℕ) (ids nonces : List ℕ) (row : Row) → i < n
      → row ≡ label_row program rl (take (12 * i + 12 - 12 * i) (drop (12 * i) nonces)) (take (16 * i + 16 - 16 * i) (drop (16 * i) ids))
      → row ≡ get_or (label_rows program rl (rows 16 n ids) nonces) i []
  made_label n i ids nonces row h e =
      e ∙ ap₂ (λ (k : ℕ) (id : List ℕ). label_row program rl (take k (drop (12 * i) nonces)) id) (add-sub_cancel_left (12 * i) 12) (row_part 16 n i ids h)
      ∙ sym (label_at i (rows 16 n ids) nonces (rw (rows-length 16 n ids) h))
