-- The bytes between two rows are zeroed.
use Prim.Native.Nat.{ℕ, ◌*◌, ◌≤◌}
use mathlib.Core.Path.{ap, ◌∙◌}
use mathlib.Core.List.{List}
use native.Mathlib.Nat.{mul-le-mul_left}
use native.Mathlib.Omega.{arith}
use lib.ListN.{length, replicate}
use Rattle.octets.specs.Part.{back}
use Rattle.octets.proofs.Parts.{length_part}
use Rattle.table.specs.Table.{rows}
use Rattle.table.proofs.Cuts.{rows_wiped}
use Rattle.closing.proofs.wipe.Goals as goal
use Rattle.closing.proofs.wipe.Goals.{Start}

inside : (c : Start) → let a = c.args in (a.w * a.from ≤ a.w * a.to) × (a.w * a.to ≤ length a.t.now)
inside c = let a = c.args in (mul-le-mul_left a.w c.requires.0, omega (arith, mul-le-mul_left a.w c.requires.1.0))

pub returns : goal.returns
returns c =
    let s = (goal.at.returns c).Start in
    let a = s.args in
    let h = inside s in
    ap (λ (l : List ℕ). rows a.w a.n (back a.t.now (a.w * a.from) (a.w * a.to) l)) (c.fill.ensures.after (λ y h. h) ∙ ap (λ (m : ℕ). replicate m 0) (length_part a.t.now (a.w * a.from) (a.w * a.to) h.1))
    ∙ rows_wiped a.w a.n a.from a.to a.t.now s.requires.0 s.requires.1.0 s.requires.1.1
