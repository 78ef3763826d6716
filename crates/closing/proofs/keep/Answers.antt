-- The row is copied to an earlier place, or stands at its place.
use Prim.Native.Nat.{ℕ, ◌<◌}
use mathlib.Core.Path.{◌≡◌, refl, sym, ap, ◌∙◌}
use mathlib.Core.List.{[]}
use native.Mathlib.Omega.{arith}
use lib.ListN.{length, get_or, set}
use lib.Seq.{set-get_or}
use Rattle.table.specs.Table.{Table, rows}
use Rattle.table.proofs.Rows.{rows-length}
use Rattle.closing.proofs.Gathering.{moved_row}
use Rattle.closing.proofs.keep.Goals as goal
use Rattle.closing.proofs.keep.Goals.{else-to-from, then-to-from}

pub returns-after-to-from : goal.returns-after-to-from
returns-after-to-from c =
    let a = c.args in
    let t : Table = rows a.w a.n a.t.now in
    let k : a.from < length t = omega (arith, c.requires.1.0, rows-length a.w a.n a.t.now) in
    rw c.if-stays.true (record { value = refl; t_after = elim c.if-to-from.branch [ then-to-from w ↦ ap (rows a.w a.n) w.t-is ∙ w.move_rows.ensures ∙ moved_row t a.to a.from c.requires.0 k | else-to-from w ↦ ap (rows a.w a.n) w.t-is ∙ sym (ap (λ (i : ℕ). set t a.to (get_or t i [])) (let e : a.from ≡ a.to = omega (arith, w.if-to-from.false) in e) ∙ set-get_or t a.to []) ] })
