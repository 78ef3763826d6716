use Prim.Native.Nat.{ℕ, ◌-◌, ◌%◌}
use mathlib.Core.Path.{◌≡◌, sym, ap, ◌∙◌}
use mathlib.Core.List.{List}
use mathlib.Core.Bool.{true, false}
use native.Mathlib.Omega.{arith}
use borrow.Author.Rules.{rules}
use Rattle.table.specs.Lists.{same}
use Rattle.table.specs.Table.{rows}
use Rattle.scheme.specs.Store.{table_m, width_of}
use Rattle.chains.specs.Chains.{last_in}
use Rattle.chains.proofs.Chains.{id_of, walk_start, walk_hit, walk_next, walk_down, walk_end}
use Rattle.chains.proofs.seen.Goals as goal

pub loop-j-init : goal.loop-j-init
loop-j-init c =
    let a = c.args in
    let t = rows (width_of table_m) a.m a.t.now in
    walk_start a.me t a.index.now a.x.now a.n c.wide-j.result
    (c.wide-j.ensures ∙ c.requires.1.heads c.bucket-b.result c.bucket-b.ensures.1 ∙ ap (λ (b : ℕ). last_in b (id_of a.me t a.index.now) a.n) c.bucket-b.ensures.0)

pub returns-then-eq : goal.returns-then-eq
returns-then-eq c =
    let a = c.args in
    let j = c.loop-j.j in
    let e : same c.id_at-id.result a.x.now ≡ true = search rules in
    walk_hit a.me (rows (width_of table_m) a.m a.t.now) a.index.now a.x.now a.n j (j - 1) c.loop-j.invariant (omega (arith, c.loop-j-test.true))
    (ap (λ (y : List ℕ). same y a.x.now) (sym c.id_at-id.ensures) ∙ e)

pub loop-j-smaller : goal.loop-j-smaller
loop-j-smaller c =
    let a = c.args in
    let j = c.loop-j.j in
    walk_down a.me (rows (width_of table_m) a.m a.t.now) a.index.now a.x.now a.n j (j - 1) c.loop-j.invariant (omega (arith, c.loop-j-test.true)) (c.wide-j-in-loop-j.result % 65536)
    (ap (λ (v : ℕ). v % 65536) c.wide-j-in-loop-j.ensures ∙ c.requires.1.links (j - 1) (omega (arith, c.loop-j.invariant.below, c.loop-j-test.true)))

pub loop-j-preserved : goal.loop-j-preserved
loop-j-preserved c =
    let a = c.args in
    let j = c.loop-j.j in
    let e : same c.id_at-id.result a.x.now ≡ false = search rules in
    walk_next a.me (rows (width_of table_m) a.m a.t.now) a.index.now a.x.now a.n j (j - 1) c.loop-j.invariant (omega (arith, c.loop-j-test.true))
    (ap (λ (y : List ℕ). same y a.x.now) (sym c.id_at-id.ensures) ∙ e)
    (c.wide-j-in-loop-j.result % 65536)
    (ap (λ (v : ℕ). v % 65536) c.wide-j-in-loop-j.ensures ∙ c.requires.1.links (j - 1) (omega (arith, c.loop-j.invariant.below, c.loop-j-test.true)))

pub returns : goal.returns
returns c =
    let a = c.args in
    walk_end a.me (rows (width_of table_m) a.m a.t.now) a.index.now a.x.now a.n c.loop-j.j c.loop-j.invariant c.loop-j-test.false
