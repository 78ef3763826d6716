use Prim.Native.Nat.{ℕ, ◌*◌, ◌-◌}
use mathlib.Core.Path.{◌≡◌, sym, ap, subst, ◌∙◌}
use mathlib.Core.Bool.{not}
use mathlib.Core.List.{[], ◌++◌}
use native.Mathlib.Omega.{arith}
use lib.Dec.{eqb}
use lib.ListN.{length, get_or, take, drop, replicate}
use Rattle.table.specs.Table.{Table, rows, is_free, zero_row}
use Rattle.table.proofs.Rows.{rows-length}
use Rattle.table.proofs.Walk.{mark_at}
use Rattle.closing.proofs.Gathering.{Gathering, gathering_at, gathering_turn, used_stays, gathered_used}
use Rattle.closing.proofs.keep_used.Goals as goal

pub loop-i-preserved : goal.loop-i-preserved
loop-i-preserved c =
    let s = c in
    let a = s.args in
    let l = c.loop-i in
    let t₀ : Table = rows a.w a.n a.t.now in
    let t : Table = rows a.w a.n l.t in
    let h = c.loop-i-test.true in
    let m : eqb (get_or l.t (a.w * l.i) 0) 0 ≡ is_free (get_or t₀ l.i []) =
    ap (λ (x : ℕ). eqb x 0) (sym (mark_at a.w a.n l.i l.t s.requires.0 h)) ∙ ap is_free (gathering_at a.w [] t₀ l.i l.to t l.invariant) in
    gathering_turn a.w [] t₀ l.i l.to t l.invariant (rw (rows-length a.w a.n a.t.now) h)
    (not (eqb (get_or l.t (a.w * l.i) 0) 0)) (ap not m ∙ used_stays (is_free (get_or t₀ l.i []))) _ _ c.keep-to.ensures.t_after c.keep-to.ensures.value

pub returns : goal.returns
returns c =
    let s = c in
    let a = s.args in
    let l = c.loop-i in
    let t₀ : Table = rows a.w a.n a.t.now in
    let t : Table = rows a.w a.n l.t in
    let n : length t₀ ≡ a.n = rows-length a.w a.n a.t.now in
    let e : l.i ≡ length t₀ = omega (arith, c.loop-i-test.false) in
    let both = gathered_used a.w t₀ l.to t (subst (λ (i : ℕ). Gathering a.w [] t₀ i l.to t) e l.invariant) _
    (c.wipe.ensures ∙ ap (λ (m : ℕ). take l.to t ++ (replicate (m - l.to) (zero_row a.w) ++ drop m t)) (sym n)) in
    record { value = both.0; t_after = both.1 }
