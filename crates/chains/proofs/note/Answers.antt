-- Met before, all stays; else it is put at the head of its bucket.
use Prim.Native.Nat.{◌+◌, ◌≤◌, ◌<◌}
use mathlib.Core.Path.{sym, ap, ◌∙◌}
use native.Mathlib.Omega.{arith}
use lib.ListN.{length, get_or}
use Rattle.table.specs.Table.{rows}
use Rattle.scheme.specs.Store.{table_m, width_of}
use Rattle.chains.specs.Chains.{Kept, kept, linked}
use Rattle.chains.proofs.Chains.{last_le, id_of, noted-met, noted_new}
use Rattle.chains.proofs.note.Goals as goal

pub returns-then-seen : goal.returns-then-seen
returns-then-seen c =
    let a = c.args in
    let t = rows (width_of table_m) a.m a.t.now in
    noted-met a.me t a.r (kept a.index.now a.ids.now a.n) a.x.now c.requires.1.1.0 (sym c.seen.ensures ∙ c.if-seen.true)

pub link-requires : goal.link-requires
link-requires c =
    let a = c.args in
    let t = rows (width_of table_m) a.m a.t.now in
    let k = kept a.index.now a.ids.now a.n in
    let e = ap (λ (k : Kept). k.n) (noted_new a.me t a.r k a.x.now c.requires.1.1.0 (sym c.seen.ensures ∙ c.if-seen.false)) in
    let b = c.bucket-b.result in
    let room : 4096 + a.n + 1 ≤ length a.index.now = omega (arith, c.requires.1.1.1.1, e) in
    let head : get_or a.index.now b 0 < 65536 = omega (arith, room, c.requires.1.0.most, c.requires.1.0.heads b c.bucket-b.ensures.1, last_le b (id_of a.me t a.index.now) a.n) in
    (c.bucket-b.ensures.1, (c.requires.1.1.1.0, (head, (room, c.requires.1.0.most))))

pub returns : goal.returns
returns c =
    let a = c.args in
    let t = rows (width_of table_m) a.m a.t.now in
    let k = kept a.index.now a.ids.now a.n in
    (λ j. record {
      index = (c.link.ensures ∙ ap (linked a.index.now a.n a.r) c.bucket-b.ensures.0) j;
      ids = c.put_first.ensures j;
      n = a.n + 1;
    }) ∙ noted_new a.me t a.r k a.x.now c.requires.1.1.0 (sym c.seen.ensures ∙ c.if-seen.false)
