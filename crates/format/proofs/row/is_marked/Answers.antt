-- Nonce and R mark are parts of the row.
use Prim.Native.Nat.{ℕ, ◌+◌, ◌-◌, ◌*◌}
use mathlib.Core.Path.{◌≡◌, sym, ap, ap₂, ◌∙◌}
use mathlib.Core.List.{List}
use native.Mathlib.Omega.{arith}
use lib.Dec.{lit≤}
use lib.ListN.{take, drop}
use Rattle.table.specs.Lists.{same}
use Rattle.table.proofs.Walk.{body_field, body_tail}
use Rattle.scheme.specs.Store.{table_r, width_of, label_nonce, label_mark}
use Rattle.format.specs.Tags.{r_mark_by}
use Rattle.format.proofs.row.is_marked.Goals as goal

pub returns : goal.returns
unfolding label_nonce label_mark
returns c =
    let a = c.args in
    let w : ℕ = width_of table_r * a.i in
    let j : w + 29 - (w + 17) ≡ 12 = omega arith in
    let k : w + width_of table_r - (w + 29) ≡ 32 = omega arith in
    c.same.ensures
    ∙ ap₂ same (ap (λ (n : ℕ). take n (drop (w + 29) a.t.now)) k ∙ sym (body_tail (width_of table_r) a.n a.i 28 a.t.now c.requires.0))
    (c.r_mark-wanted.ensures ∙ ap (λ (l : List ℕ). r_mark_by a.rl l a.id.now) (ap (λ (n : ℕ). take n (drop (w + 17) a.t.now)) j ∙ sym (body_field (width_of table_r) a.n a.i 16 12 a.t.now c.requires.0 (lit≤ tt))))
