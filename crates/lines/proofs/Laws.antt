-- The lines of ids grow by one id's line.
use Prim.Native.Nat.{ℕ, ◌+◌, ◌*◌}
use mathlib.Core.Path.{◌≡◌, sym, ap, ◌∙◌}
use mathlib.Core.List.{List, ◌++◌}
use native.Mathlib.Numerals.{add-one}
use lib.ListN.{take, drop}
use Rattle.buffer.specs.Put.{Put}
use Rattle.buffer.proofs.Laws.{then, said}
use Rattle.lines.specs.Ids.{hex_line, id_lines}

pub next_id : {before to after : List ℕ} {at end : ℕ} (found : List ℕ) (i w : ℕ) → w ≡ 16 → Put before 0 (id_lines i found) to at
    → Put to at (hex_line (take w (drop (16 * i) found))) after end → Put before 0 (id_lines (i + 1) found) after end
unfolding id_lines
next_id found i w e p q =
    said (ap (λ (k : ℕ). id_lines i found ++ hex_line (take k (drop (16 * i) found))) e ∙ sym (ap (λ (n : ℕ). id_lines n found) (add-one i))) (then p q)
