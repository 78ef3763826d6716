use Prim.Native.Nat.{ℕ, ◌+◌, ◌≤◌}
use mathlib.Core.Path.{refl, sym, ap, ap₂, subst, ◌∙◌}
use native.Mathlib.Omega.{arith}
use lib.ListN.{length, get_or}
use Rattle.table.specs.Table.{Table, rows}
use Rattle.table.proofs.Rows.{rows-length, rows_wide}
use Rattle.scheme.specs.Store.{table_m, width_of}
use Rattle.chains.specs.Chains.{Kept, kept, Chained}
use Rattle.chains.proofs.Chains.{RowsM}
use Rattle.ids.specs.Ids.{noted_to, ShareOf}
use Rattle.ids.proofs.Noted.{gathers_in, in_next, in_grows, in_none}
use borrow.Author.Rules.{rules}
use Rattle.ids.proofs.gather.Goals as goal
use Rattle.ids.proofs.gather.Goals.{Start}

abbrev table_at : Start → Table
table_at s = rows (width_of table_m) s.args.m s.args.t.now

abbrev at_start : Start → Kept
at_start s = kept s.args.index.now s.args.ids.now 0

few : (s : Start) → length (table_at s) ≤ 4096
few s = omega (arith, rows-length (width_of table_m) s.args.m s.args.t.now, s.requires.1.0)

wide : (s : Start) → RowsM (table_at s)
wide s = rows_wide (width_of table_m) s.args.m s.args.t.now (omega (arith, s.requires.0.0))

pub loop-u-init : goal.loop-u-init
loop-u-init c =
    let s = (goal.at.loop-u-init c).Start in (search rules, (refl, (refl, in_none s.args.keys (table_at s) s.args.of (at_start s))))

pub note_share-n-requires : goal.note_share-n-requires
note_share-n-requires c =
    let s = (goal.at.note_share-n-requires c).Start in
    let p = s.args in
    let l = c.loop-u in
    let sh = c.keys_of-s.ensures in
    let r = c.keys_of-s.result in
    let e = l.invariant.1.1.1 in
    let g = in_grows p.keys (table_at s) (few s) (wide s) p.of l.u (p.p + 1) (at_start s) l.invariant.0 in
    let g2 = in_grows p.keys (table_at s) (few s) (wide s) p.of (l.u + 1) (p.p + 1) (at_start s) (omega (arith, c.loop-u-test.true)) in
    let q = ap (λ (k : Kept). k.n) (ap₂ (λ (v : ℕ) (k : Kept). noted_to p.keys (table_at s) v (get_or p.of l.u 0) k) sh.number e ∙ sym (in_next p.keys (table_at s) (few s) (wide s) p.of l.u (at_start s))) in (
      s.requires.0,
      (
        s.requires.1.0,
        (
          omega (arith, sh.number, c.loop-u-test.true, s.requires.1.1.0),
          (
            subst (λ (v : ℕ). ShareOf p.keys v r) (sym sh.number) sh,
            (
              subst (Chained p.keys.me (table_at s)) (sym e) ((gathers_in p.keys (table_at s) (few s) (wide s) p.of l.u (at_start s)).chained s.requires.1.1.1.0 (omega (arith, s.requires.1.1.1.1, g))),
              omega (arith, s.requires.1.1.1.1, g2, q, l.invariant.1.0),
            ),
          ),
        ),
      ),
    )

pub loop-u-preserved : goal.loop-u-preserved
loop-u-preserved c =
    let s = (goal.at.loop-u-preserved c).Start in
    let p = s.args in
    let l = c.loop-u in
    let w = c.note_share-n in (
      search rules,
      (
        w.auto.index ∙ l.invariant.1.0,
        (
          w.auto.ids ∙ l.invariant.1.1.0,
          w.ensures ∙ ap₂ (λ (v : ℕ) (k : Kept). noted_to p.keys (table_at s) v (get_or p.of l.u 0) k) c.keys_of-s.ensures.number l.invariant.1.1.1
              ∙ sym (in_next p.keys (table_at s) (few s) (wide s) p.of l.u (at_start s)),
        ),
      ),
    )
