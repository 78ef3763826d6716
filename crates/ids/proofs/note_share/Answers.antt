use Prim.Native.Nat.{◌+◌, ◌≤◌}
use mathlib.Core.Path.{refl, sym, ap, subst, ◌∙◌}
use native.Mathlib.Omega.{arith}
use lib.ListN.{length}
use Rattle.table.specs.Table.{Table, rows}
use Rattle.table.proofs.Rows.{rows-length, rows_wide}
use Rattle.scheme.specs.Store.{table_m, width_of}
use Rattle.chains.specs.Chains.{Kept, kept, Chained}
use Rattle.chains.proofs.Chains.{RowsM}
use Rattle.ids.specs.Ids.{noted_at}
use Rattle.ids.proofs.Noted.{gathers_to, to_next, to_grows, to_none}
use Rattle.ids.proofs.note_share.Goals as goal
use Rattle.ids.proofs.note_share.Goals.{Start}

abbrev table_at : Start → Table
table_at s = rows (width_of table_m) s.args.m s.args.t.now

abbrev at_start : Start → Kept
at_start s = kept s.args.index.now s.args.ids.now s.args.n

few : (s : Start) → length (table_at s) ≤ 4096
few s = omega (arith, rows-length (width_of table_m) s.args.m s.args.t.now, s.requires.1.0)

wide : (s : Start) → RowsM (table_at s)
wide s = rows_wide (width_of table_m) s.args.m s.args.t.now (omega (arith, s.requires.0.0))

pub loop-a-init : goal.loop-a-init
loop-a-init c =
    let s = (goal.at.loop-a-init c).Start in (omega arith, (refl, (refl, to_none s.args.keys (table_at s) s.args.s.u (at_start s))))

pub note_entry-next-requires : goal.note_entry-next-requires
note_entry-next-requires c =
    let s = (goal.at.note_entry-next-requires c).Start in
    let p = s.args in
    let l = c.loop-a in
    let u = p.s.u in
    let k = kept l.index l.ids l.next in
    let e = l.invariant.1.1.1 in
    let g = to_grows p.keys (table_at s) (few s) (wide s) u l.a p.count (at_start s) l.invariant.0 in
    let g2 = to_grows p.keys (table_at s) (few s) (wide s) u (l.a + 1) p.count (at_start s) (omega (arith, c.loop-a-test.true)) in
    let q = ap (λ (k : Kept). k.n) (ap (noted_at p.keys (table_at s) u (l.a + 1)) e ∙ sym (to_next p.keys (table_at s) (few s) (wide s) u l.a (at_start s))) in (
      s.requires.0,
      (
        s.requires.1.0,
        (
          s.requires.1.1.0,
          (
            s.requires.1.1.1.0,
            (
              subst (Chained p.keys.me (table_at s)) (sym e) ((gathers_to p.keys (table_at s) (few s) (wide s) u l.a (at_start s)).chained s.requires.1.1.1.1.0 (omega (arith, s.requires.1.1.1.1.1, g))),
              omega (arith, s.requires.1.1.1.1.1, g2, q, l.invariant.1.0),
            ),
          ),
        ),
      ),
    )

pub loop-a-preserved : goal.loop-a-preserved
loop-a-preserved c =
    let s = (goal.at.loop-a-preserved c).Start in
    let p = s.args in
    let l = c.loop-a in
    let w = c.note_entry-next in (
      omega (arith, c.loop-a-test.true),
      (
        w.auto.index ∙ l.invariant.1.0,
        (
          w.auto.ids ∙ l.invariant.1.1.0,
          w.ensures ∙ ap (noted_at p.keys (table_at s) p.s.u (l.a + 1)) l.invariant.1.1.1 ∙ sym (to_next p.keys (table_at s) (few s) (wide s) p.s.u l.a (at_start s)),
        ),
      ),
    )
