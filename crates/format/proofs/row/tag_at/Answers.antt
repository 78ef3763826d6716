-- The tag is the row's end.
use Prim.Native.Nat.{ℕ, ◌+◌, ◌-◌, ◌*◌}
use mathlib.Core.Path.{◌≡◌, sym, ap, ◌∙◌}
use native.Mathlib.Omega.{arith}
use lib.ListN.{take, drop}
use Rattle.table.proofs.Walk.{body_tail}
use Rattle.scheme.specs.Store.{table_v, width_of, reverse_tag}
use Rattle.format.proofs.row.tag_at.Goals as goal

pub returns : goal.returns
unfolding reverse_tag
returns c =
    let a = c.args in
    let w : ℕ = width_of table_v * a.i in
    let n : w + width_of table_v - (w + 17) ≡ width_of table_v - 17 = omega arith in
    c.copy.ensures ∙ ap (λ (k : ℕ). take k (drop (w + 17) a.t.now)) n ∙ sym (body_tail (width_of table_v) a.n a.i 16 a.t.now c.requires.0)
