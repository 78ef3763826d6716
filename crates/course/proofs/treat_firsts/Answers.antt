use Prim.Native.Nat.{ℕ, ◌+◌, ◌≤◌}
use mathlib.Core.Path.{◌≡◌, refl, sym, ap, ◌∙◌}
use mathlib.Core.List.{List, [], ◌++◌}
use native.Mathlib.Omega.{arith}
use lib.ListN.{length, get_or, drop, length-append}
use Rattle.table.specs.Table.{rows}
use Rattle.table.proofs.Rows.{rows-length}
use Rattle.scheme.specs.Store.{table_c, width_of}
use Rattle.firsts.specs.Firsts.{first_in, firsts}
use Rattle.firsts.proofs.Chaining.{firsts-length, firsts_at}
use Rattle.course.proofs.Steps.{going_none, going_few, going_on, going_stops}
use Rattle.course.proofs.treat_firsts.Goals as goal

-- the first row with the CL of row i
first_at : (first : List ℕ) (n : ℕ) (log : List ℕ) → first ≡ firsts (rows 32 n log) ++ drop n first → (i : ℕ) → i + 1 ≤ n
    → get_or first i 0 ≡ first_in (rows 32 n log) (get_or (rows 32 n log) i [])
first_at first n log e i h = ap (λ (x : List ℕ). get_or x i 0) e ∙ firsts_at (rows 32 n log) (drop n first) i (omega (arith, rows-length 32 n log))

first_long : (first : List ℕ) (n : ℕ) (log : List ℕ) → first ≡ firsts (rows 32 n log) ++ drop n first → n ≤ length first
first_long first n log e =
    omega (arith, ap length e ∙ length-append (firsts (rows 32 n log)) (drop n first), firsts-length (rows 32 n log), rows-length 32 n log)

pub loop-i-init : goal.loop-i-init
loop-i-init c =
    let a = c.args in
    (omega arith, (refl, going_none a.c a.nonces.now (rows 32 a.n a.log.now) (rows (width_of table_c) a.c a.t.now) _ a.u refl refl c.requires.t_len.1.0))

pub bounds-first-i : goal.bounds-first-i
bounds-first-i c =
    omega (arith, first_long c.args.first.now c.args.n c.args.log.now c.requires.first_value, c.loop-i-test.true)

pub treat_row-z-requires : goal.treat_row-z-requires
treat_row-z-requires c =
    let a = c.args in
    let l = c.loop-i in
    let n = rows-length 32 a.n a.log.now in
    let f = going_few a.c a.nonces.now (rows 32 a.n a.log.now) (rows (width_of table_c) a.c a.t.now) l.i _ l.z.totals l.z.stopped l.z.used l.invariant.1.1 c.requires.t_len.0.1 (omega (arith, n, c.loop-i-test.true)) in record { t_len = ((l.invariant.1.0 ∙ c.requires.t_len.0.0, c.requires.t_len.0.1), (l.invariant.1.1.search, (omega (arith, f.0, c.requires.t_len.1.1.0, c.loop-i-test.true), (omega (arith, f.0, c.requires.t_len.1.1.1.1, c.loop-i-test.true), omega (arith, f.1, c.requires.t_len.1.1.1.1, c.loop-i-test.true))))); i_lt_n = (c.loop-i-test.true, c.requires.t_len.1.1.1.0) }

pub returns-then-z : goal.returns-then-z
returns-then-z c =
    let a = c.args in
    let l = c.loop-i in
    let n = rows-length 32 a.n a.log.now in
    let both = going_stops a.c a.nonces.now (rows 32 a.n a.log.now) (rows (width_of table_c) a.c a.t.now) l.i _ l.z.totals l.z.stopped l.z.used l.invariant.1.1 c.requires.t_len.0.1 (omega (arith, n, c.loop-i-test.true))
    (omega (arith, n, c.loop-i-test.true)) c.from.result (c.from.ensures ∙ first_at a.first.now a.n a.log.now c.requires.first_value l.i (omega (arith, c.loop-i-test.true)))
    _ c.treat_row-z.result.totals c.treat_row-z.result.stopped c.treat_row-z.ensures.stopped_after c.if-z.true a.n (sym n) in
    record { stopped_after = both.0; upto_value = both.1 }

pub loop-i-preserved : goal.loop-i-preserved
loop-i-preserved c =
    let a = c.args in
    let l = c.loop-i in
    let n = rows-length 32 a.n a.log.now in (
      omega arith,
      (
        c.treat_row-z.auto.t ∙ l.invariant.1.0,
        going_on a.c a.nonces.now (rows 32 a.n a.log.now) (rows (width_of table_c) a.c a.t.now) l.i _ l.z.totals l.z.stopped l.z.used l.invariant.1.1 c.requires.t_len.0.1 (omega (arith, n, c.loop-i-test.true))
            (omega (arith, n, c.loop-i-test.true)) c.from.result (c.from.ensures ∙ first_at a.first.now a.n a.log.now c.requires.first_value l.i (omega (arith, c.loop-i-test.true)))
            _ c.treat_row-z.result.totals c.treat_row-z.result.stopped c.treat_row-z.ensures.stopped_after c.if-z.false c.treat_row-z.result.used c.treat_row-z.ensures.used_value,
      ),
    )
