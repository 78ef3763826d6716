-- The tests of the definition, then the rows of the definition.
use Prim.Native.Nat.{ℕ, ◌+◌, ◌*◌, ◌/◌}
use mathlib.Core.Path.{sym, ap, ap₂, ◌∙◌}
use mathlib.Core.List.{List}
use native.Mathlib.Nat.{add-sub_cancel_left}
use lib.ListN.{length, take, drop}
use Rattle.scheme.specs.Store.{counter_row}
use Rattle.scheme.specs.Insert.{counter_nonce}
use Rattle.suite.specs.Program.{program}
use Rattle.insert.proofs.Answers.{accepted}
use Rattle.insert.proofs.insert_read.Goals as goal

pub returns : goal.returns
unfolding counter_nonce
returns c =
    let a = c.args in
    let x = a.x in
    let n = a.nonces.now in
    let j = length a.ids.now / 16 in
    let both = accepted a.store.now a.ids.now n a.token.now c.requires.accepted.0 a.z c.requires.accepted.1.fits c.requires.accepted.1.shares x.b.0 x.start.0 x.k x.count c.requires.x_value.0
    c.counter_row-row.result _ c.in_ok-room.ensures
    (c.counter_row-row.ensures
    ∙ ap₂ (λ (cl m : List ℕ). counter_row program cl (x.start.0 + x.k + 1) m (x.count + j)) c.requires.x_value.1.1 (ap (λ (k : ℕ). take k (drop (12 * j) n)) (add-sub_cancel_left (12 * j) 12)))
    c.write.ensures in
    record { result_value = both.0; store_after = both.1 }
