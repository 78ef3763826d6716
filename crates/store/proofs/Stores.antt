-- The tables of a store lent one after the other: each comes back with other rows, and the store is laid out as before.
use Prim.Native.Nat.{ℕ, ◌-◌, ◌*◌, ◌≤◌}
use mathlib.Core.Path.{◌≡◌, sym, ap, subst, ◌∙◌}
use mathlib.Core.List.{List}
use native.Mathlib.Omega.{arith}
use lib.ListN.{length, take, drop}
use Rattle.octets.specs.Part.{back}
use Rattle.octets.proofs.Parts.{length_part, part_back}
use Rattle.table.specs.Table.{Table, rows}
use Rattle.table.specs.Order.{used_rows, in_form}
use Rattle.scheme.specs.Store.{Store, Which, width_of, cut, put_in}
use Rattle.scheme.specs.Layout.{Laid}
use Rattle.scheme.proofs.Plan.{laid_end, laid_inside, laid_long, laid_rows, laid_back, laid_length}
use Rattle.store.specs.declared.Part.{Part}
use Rattle.store.specs.declared.Shape.{Shape}
use Rattle.std.specs.Prelude.{Ok}
use Rattle.store.specs.Check.{checked_of, part_in, span_in}
use Rattle.store.specs.Tables.{bytes_of, Within, InOrder, Replaced}
use Rattle.store.proofs.Laws.{formed, used_rows_lem, free_le}

-- the bytes of a store with these tables
pub record LaidStore (z : Shape) : Type 0 where
  pub bytes : List ℕ
  pub store : Store
  pub laid : Laid (span_in z) bytes store

module _ (z : Shape) (g : LaidStore z) (k : Which) where
  -- the part that is lent
  abbrev pub part : List ℕ
  part = take ((part_in z k).end - (part_in z k).start) (drop (part_in z k).start g.bytes)

  -- it came back
  abbrev pub put : (ys : List ℕ) → length ys ≡ length part → LaidStore z
  put ys h = record {
    bytes = back g.bytes (part_in z k).start (part_in z k).end ys;
    store = put_in k (rows (width_of k) (part_in z k).rows ys) g.store;
    laid = laid_back (span_in z) g.bytes g.store g.laid k ys h;
  }

  pub put_end : (part_in z k).end ≤ length g.bytes
  put_end = laid_inside (span_in z) g.bytes g.store g.laid k

  pub part_long : length part ≡ width_of k * (part_in z k).rows
  part_long = laid_long (span_in z) g.bytes g.store g.laid k

  pub part-rows : rows (width_of k) (part_in z k).rows part ≡ g.store.table k
  part-rows = laid_rows (span_in z) g.bytes g.store g.laid k

-- two stores with these tables are as long
pub same_long : (z : Shape) (g h : LaidStore z) → length g.bytes ≡ length h.bytes
same_long z g h = laid_length (span_in z) g.bytes g.store g.laid ∙ sym (laid_length (span_in z) h.bytes h.store h.laid)

-- ---- a table lent by its part

-- the part came back as ys
pub replaced : (b : List ℕ) (p : Part) (w : ℕ) (t : Table) (ys : List ℕ) → Within b p w → length ys ≡ length (bytes_of b p) → rows w p.rows ys ≡ t
    → Replaced b p w t (back b p.start p.end ys)
replaced b p w t ys i l e =
    let h = l ∙ length_part b p.start p.end i.to in
    let s : bytes_of (back b p.start p.end ys) p ≡ ys = part_back b p.start p.end ys i.from i.to h in
    record { bytes = ap (back b p.start p.end) (sym s); long = ap length s ∙ l; table = ap (rows w p.rows) s ∙ e }

module _ (z : Shape) (g : LaidStore z) (k : Which) where
  pub part_within : Within g.bytes (part_in z k) (width_of k)
  part_within = record { from = omega (arith, laid_end (span_in z) g.bytes g.store g.laid k); to = put_end z g k; long = part_long z g k }

  -- the store with the other table
  abbrev pub replace : (t : Table) (after : List ℕ) → Replaced g.bytes (part_in z k) (width_of k) t after → LaidStore z
  replace t after r = record {
    bytes = after;
    store = put_in k t g.store;
    laid =
        subst (λ (l : List ℕ). Laid (span_in z) l (put_in k t g.store)) (sym r.bytes)
        (subst (λ (u : Table). Laid (span_in z) (back g.bytes (part_in z k).start (part_in z k).end (bytes_of after (part_in z k))) (put_in k u g.store)) r.table
        (put z g k (bytes_of after (part_in z k)) r.long).laid);
  }

  -- a table that is still as the checks found it
  pub still_in_order : (b : List ℕ) → checked_of b ≡ Ok z → g.store.table k ≡ (cut b).table k → InOrder g.bytes (part_in z k) (width_of k)
  still_in_order b e s =
      let r = part-rows z g k ∙ s in
      record {
        within = part_within;
        few = free_le b z e k;
        form = ap (in_form (width_of k)) r ∙ formed b z e k;
        number = used_rows_lem b z e k ∙ ap (λ (t : Table). length (used_rows t)) (sym r);
      }
