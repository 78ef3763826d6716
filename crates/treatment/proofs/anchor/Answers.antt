-- The places noted are those of used rows, and the row is the next anchor's.
use Prim.Native.Nat.{ℕ, ◌+◌}
use mathlib.Core.Path.{◌≡◌, refl, ap, ◌∙◌}
use mathlib.Core.Bool.{false}
use mathlib.Core.List.{List}
use native.Mathlib.Omega.{arith}
use Rattle.table.specs.Table.{rows, is_free}
use Rattle.scheme.specs.Store.{table_c, width_of, anchor_row, counted_row}
use Rattle.scheme.specs.Compaction.{next_anchor}
use Rattle.suite.specs.Program.{program}
use Rattle.counter.proofs.Readings.{Bounds}
use Rattle.treatment.proofs.Places.{noted_bounds, noted_inside, anchored_is}
use borrow.Author.Rules.{rules}
use Rattle.treatment.proofs.anchor.Goals as goal
use Rattle.treatment.proofs.anchor.Goals.{Start}

row_is : (cl nonce row : List ℕ) (B start k n : ℕ) → row ≡ anchor_row program cl (B + 1) nonce (start + k) n → row ≡ next_anchor program cl nonce B start k n
unfolding next_anchor
row_is cl nonce row B start k n e = e

anchor_busy : (cl : List ℕ) (b : ℕ) (nonce : List ℕ) (a n : ℕ) → is_free (anchor_row program cl b nonce a n) ≡ false
unfolding anchor_row counted_row
anchor_busy cl b nonce a n = refl

bounds : (s : Start) → Bounds s.args.c s.args.z.b.0 s.args.z.start.0 s.args.z.k s.args.z.count
bounds s = let a = s.args in noted_bounds a.c a.u a.cl.now (rows (width_of table_c) a.c a.t.now) a.z a.places.now s.requires.t_len.1.1

pub next_anchor-next-requires : goal.next_anchor-next-requires
next_anchor-next-requires c =
    let b = bounds (goal.at.next_anchor-next-requires c).Start in
    (omega (arith, b.anchors, c.requires.t_len.0.1), (b.start_limit, omega (arith, b.counters, c.requires.t_len.0.1)))

pub replace-requires : goal.replace-requires
replace-requires c =
    let s = c in
    let a = s.args in
    let t = rows (width_of table_c) a.c a.t.now in record {
      t_len = (s.requires.t_len.0.0, (s.requires.t_len.0.1, s.requires.t_len.1.1.some));
      k_in_bounds = (
        (s.requires.t_len.1.1.long, noted_inside a.c a.u a.cl.now t a.z a.places.now s.requires.t_len.1.1 s.requires.searchable),
        (search rules, (ap is_free c.anchor_row-row.ensures ∙ anchor_busy a.cl.now _ a.nonce.now _ _, s.requires.searchable)),
      );
    }

pub returns : goal.returns
returns c =
    let a = c.args in
    let n = c.next_anchor-next.ensures in record {
      value = c.replace.ensures.value;
      t_after = anchored_is a.c a.u a.cl.now (rows (width_of table_c) a.c a.t.now) a.z a.places.now c.requires.t_len.1.1 a.nonce.now _ c.anchor_row-row.result
          (row_is a.cl.now a.nonce.now _ a.z.b.0 a.z.start.0 a.z.k a.z.count (c.anchor_row-row.ensures ∙ λ j. anchor_row program a.cl.now (n.0 j) a.nonce.now (n.1.0 j) (n.1.1 j))) c.replace.ensures.t_after;
    }
