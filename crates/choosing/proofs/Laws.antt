-- The find token of a part, in the slice of all parts.
use Prim.Native.Nat.{ℕ, ◌+◌, ◌*◌, ◌-◌, ◌<◌}
use mathlib.Core.Path.{◌≡◌, sym, ap₂, ◌∙◌}
use mathlib.Core.List.{List, []}
use native.Mathlib.Omega.{arith}
use lib.Dec.{lit≤}
use lib.ListN.{get_or, take, drop}
use Rattle.table.specs.Table.{rows}
use Rattle.table.proofs.Walk.{field_at}
use Rattle.scheme.specs.Keys.{part_find}

pub find_token : (n i : ℕ) (t : List ℕ) → i < n → take (128 * i + 96 - 128 * i) (drop (128 * i) t) ≡ part_find (get_or (rows 128 n t) i [])
unfolding part_find
find_token n i t h =
    ap₂ (λ (k a : ℕ). take k (drop a t)) (let e : 128 * i + 96 - 128 * i ≡ 96 = omega arith in e) (let e : 128 * i ≡ 128 * i + 0 = omega arith in e) ∙ sym (field_at 128 n i 0 96 t h (lit≤ tt))
