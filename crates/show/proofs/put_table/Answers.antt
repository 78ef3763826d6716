-- Five pieces; the used rows are those that are not free.
use Prim.Native.Nat.{ℕ}
use mathlib.Core.Path.{ap}
use native.Mathlib.Omega.{arith}
use Rattle.text.specs.Ascii.{ascii}
use Rattle.buffer.specs.Decimal.{counted}
use Rattle.show.specs.Show.{bar_text, table_line}
use Rattle.buffer.proofs.Laws.{then, said}
use Rattle.show.proofs.put_table.Goals as goal

pub returns : goal.returns
unfolding table_line
returns c =
    let s = c in
    let used = c.saturating_sub-used.ensures in
    let p = c.put-a.ensures in
    let b = c.put_bar-b.ensures in
    let x = c.put_counted-d.ensures in
    let y = c.put_counted-e.ensures in
    let z = c.put_counted.ensures in (
      then p (then (said (ap (λ (u : ℕ). bar_text u s.args.total) used) b.0) (then (said (ap (λ (u : ℕ). counted u (ascii " of ")) used) x.0) (then y.0 z.0))),
      omega (arith, s.requires, p.ends, b.1, x.1, y.1, z.1),
    )
