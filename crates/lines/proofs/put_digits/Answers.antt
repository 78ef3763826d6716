-- The digits and the line's end.
use mathlib.Core.Path.{ap, ◌∙◌}
use native.Mathlib.Omega.{arith}
use Rattle.text.specs.Hex.{hex_of}
use Rattle.buffer.proofs.Laws.{then, said}
use Rattle.lines.proofs.put_digits.Goals as goal

pub returns : goal.returns
returns c =
    let h = c.hex.ensures ∙ ap (hex_of c.args.bytes.now) c.requires.0 in
    let p = c.put-e.ensures in
    let q = c.put.ensures in record { put = (then (said h p) q, omega (arith, p.ends, q.ends, c.hex.auto.to, c.requires.0)); digits_after = h }
