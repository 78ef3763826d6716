-- Two pieces.
use mathlib.Core.Path.{ap}
use Prim.Native.Nat.{ℕ}
use Rattle.text.specs.Ascii.{ascii}
use Rattle.buffer.specs.Decimal.{counted}
use Rattle.buffer.proofs.Laws.{then, said}
use Rattle.diagnosis.specs.Diagnosis.{total_line}
use Rattle.diagnosis.proofs.put_total.Goals as goal

pub returns : goal.returns
unfolding total_line
returns c =
    then c.put-e.ensures (said (ap (λ (n : ℕ). counted n (ascii "\n")) c.total.ensures) c.put_counted.ensures.0)
