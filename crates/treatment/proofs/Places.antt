-- The counters that a reading held stand among the used rows, and a table with the anchor in their place is in form again.
use Prim.Native.Nat.{ℕ, zero, suc, ◌<◌}
use mathlib.Core.Path.{◌≡◌, refl, sym, ap, ap₂, ◌∙◌}
use mathlib.Core.Bool.{Bool, true, false, cond, true≢false}
use mathlib.Core.List.{List, [], ◌∷◌}
use native.Mathlib.Omega.{arith}
use lib.Dec.{ltb}
use lib.ListN.{length, get_or, take, drop}
use Rattle.octets.proofs.Parts.{front_is}
use Rattle.table.specs.Lists.{All}
use Rattle.table.specs.Table.{Row, Table, is_free, mark_of, holds, free_at}
use Rattle.table.specs.Order.{used_rows, with_rows, Searchable}
use Rattle.table.proofs.Rows.{zero_free, place_held, free_at_all}
use Rattle.table.proofs.Order.{Used, form_true, true_form, none_all, all_none}
use Rattle.table.proofs.Arranging.{with_form, with_all}
use Rattle.table.proofs.Search.{free_row}
use Rattle.scheme.specs.Store.{table_c, width_of, counter_tag, anchor_row, counted_row}
use Rattle.scheme.specs.Reading.{Reading, walk, is_damage, anchors_held, start_of, counters_held, counter_numbers, reading}
use Rattle.scheme.specs.Reading.Reading.{counter, damage}
use Rattle.scheme.specs.Compaction.{held_places, freed_counters, next_anchor, anchored_table}
use Rattle.suite.specs.Program.{program}
use Rattle.counter.specs.declared.Counter.{Counter}
use Rattle.counter.specs.Outcome.{places_noted}
use Rattle.counter.proofs.Readings.{Bounds, reading_bounds, places_held}
use Rattle.treatment.specs.Treatment.{Noted, table_by}

-- ---- the counters that a reading held

module _ (u : ℕ) (cl : List ℕ) (t : Table) (s : Searchable (width_of table_c) u t) where
  abbrev held : ℕ → Bool
  held = λ i. holds (counter_tag program cl i) t

  used_below : (i : ℕ) → i < length t → Used (get_or t i []) → i < u
  used_below i h e = go (ltb i u) refl
    where
      go : (b : Bool) → ltb i u ≡ b → i < u
      go true q = borrow.Author.Tests.ltb-true i u q
      go false q =
          absurd (true≢false (sym (ap is_free (free_row (width_of table_c) t (form_true (width_of table_c) t s.form) i (omega (arith, borrow.Author.Tests.ltb-false i u q, s.number)) h) ∙ zero_free (width_of table_c)) ∙ e))

  -- every number of a walk is held
  walk_inside : (bound start k : ℕ) → k ≡ walk held bound start → All (λ i. i < u) (held_places program cl t start k)
  walk_inside bound start zero e = tt
  walk_inside zero start (suc k) e = absurd (omega arith)
  walk_inside (suc bound) start (suc k) e = go (held (suc start)) refl e (walk_inside bound (suc start) k)
    where
      go : (b : Bool) → held (suc start) ≡ b → suc k ≡ cond b (suc (walk held bound (suc start))) zero
          → (k ≡ walk held bound (suc start) → All (λ i. i < u) (held_places program cl t (suc start) k)) → All (λ i. i < u) (held_places program cl t start (suc k))
      go true h e f = let p = place_held (counter_tag program cl (suc start)) t h in (used_below _ p.inside p.taken, f (omega arith))
      go false h e f = absurd (omega arith)

  module _ (c b start k n : ℕ) (e : reading program c cl t ≡ counter b start k n) where
    held_inside : All (λ i. i < u) (held_places program cl t start k)
    unfolding reading counters_held
    held_inside = go (is_damage program c cl t) e
      where
        go : (d : Bool)
            → cond d damage (counter (anchors_held program c cl t) (start_of program c cl t) (walk held c (start_of program c cl t)) (counter_numbers program c cl t).n) ≡ counter b start k n
            → All (λ i. i < u) (held_places program cl t start k)
        go true e = absurd (let z : ◌≡◌ {A = ℕ} 0 1 = cc in omega arith)
        go false e =
            let s : start_of program c cl t ≡ start = cc in
            let w : walk held c (start_of program c cl t) ≡ k = cc in
            walk_inside c start k (sym w ∙ ap (walk held c) s)

held_length : (cl : List ℕ) (t : Table) (start k : ℕ) → length (held_places program cl t start k) ≡ k
held_length cl t start zero = refl
held_length cl t start (suc k) = ap suc (held_length cl t (suc start) k)

-- the places that the reading noted
pub noted_held : (cl : List ℕ) (t : Table) (c b start k n : ℕ) → reading program c cl t ≡ counter b start k n → (old list : List ℕ) → list ≡ places_noted c cl t old
    → take k list ≡ held_places program cl t start k
noted_held cl t c b start k n e old list f =
    front_is k (held_places program cl t start k) (drop k old) list (sym (held_length cl t start k)) (f ∙ places_held c cl t b start k n old (sym e))

-- ---- the anchor

anchor_used : (cl nonce : List ℕ) (B start k n : ℕ) → Used (next_anchor program cl nonce B start k n)
unfolding next_anchor anchor_row counted_row
anchor_used cl nonce B start k n = refl

anchor_mark : (cl nonce : List ℕ) (B start k n : ℕ) → ltb 1 (mark_of (next_anchor program cl nonce B start k n)) ≡ false
unfolding next_anchor anchor_row counted_row
anchor_mark cl nonce B start k n = refl

module _ (c u : ℕ) (cl : List ℕ) (t : Table) (z : Counter) (places : List ℕ) (h : Noted c cl t z places) where
  pub noted_bounds : Bounds c z.b.0 z.start.0 z.k z.count
  noted_bounds = reading_bounds c cl t z.b.0 z.start.0 z.k z.count (sym h.read)

  pub noted_inside : Searchable (width_of table_c) u t → All (λ i. i < u) (take z.k places)
  noted_inside s = rw h.held (held_inside u cl t s c z.b.0 z.start.0 z.k z.count h.read)

  -- the counters freed, and the anchor in the table [01:OP11]
  pub anchored_is : (nonce : List ℕ) (after : Table) (row : Row) → row ≡ next_anchor program cl nonce z.b.0 z.start.0 z.k z.count
      → after ≡ with_rows (width_of table_c) (row ∷ []) (free_at (width_of table_c) (take z.k places) t)
      → after ≡ anchored_table program cl nonce t z.b.0 z.start.0 z.k z.count
  unfolding anchored_table freed_counters
  anchored_is nonce after row r e =
      e ∙ ap₂ (λ (x : Row) (is : List ℕ). with_rows (width_of table_c) (x ∷ []) (free_at (width_of table_c) is t)) r h.held

-- ---- the table after it can be searched

anchored_searchable : (u : ℕ) (cl nonce : List ℕ) (t : Table) (B start k n : ℕ) → Searchable (width_of table_c) u t
    → (v : ℕ) → v ≡ length (used_rows (anchored_table program cl nonce t B start k n)) → Searchable (width_of table_c) v (anchored_table program cl nonce t B start k n)
unfolding anchored_table freed_counters
anchored_searchable u cl nonce t B start k n s v e =
    let w : ℕ = width_of table_c in
    let row = next_anchor program cl nonce B start k n in
    let freed = free_at w (held_places program cl t start k) t in
    record {
      form = true_form w (with_rows w (row ∷ []) freed) (with_form w (row ∷ []) freed (anchor_used cl nonce B start k n, tt));
      marks = all_none (λ r. ltb 1 (mark_of r)) (with_rows w (row ∷ []) freed)
          (with_all w (λ r. ltb 1 (mark_of r) ≡ false) (row ∷ []) freed refl (anchor_mark cl nonce B start k n, tt)
          (free_at_all (λ r. ltb 1 (mark_of r) ≡ false) w (held_places program cl t start k) t refl (none_all (λ r. ltb 1 (mark_of r)) t s.marks)));
      number = e;
    }

pub treated_searchable : (u : ℕ) (cl nonce : List ℕ) (t : Table) (r : Reading) → Searchable (width_of table_c) u t
    → (v : ℕ) → v ≡ length (used_rows (table_by cl nonce t r)) → Searchable (width_of table_c) v (table_by cl nonce t r)
treated_searchable u cl nonce t damage s v e = record { form = s.form; marks = s.marks; number = e }
treated_searchable u cl nonce t (counter B start zero n) s v e = record { form = s.form; marks = s.marks; number = e }
treated_searchable u cl nonce t (counter B start (suc k) n) s v e = anchored_searchable u cl nonce t B start (suc k) n s v e
