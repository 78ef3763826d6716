-- Refused by the definition's tests, in its order.
use mathlib.Core.Path.{◌≡◌, sym}
use Rattle.std.specs.Prelude.{Ok}
use Rattle.store.specs.Check.{checked_of}
use Rattle.erase.proofs.Laws.{erase-length, erase_unfit, erase_fit}
use Rattle.erase.proofs.erase.Goals as goal
use Rattle.erase.proofs.erase.Goals.{In_ok-z}

checked : (c : In_ok-z) → checked_of c.args.store.now ≡ Ok c.in_ok-z.z
checked c = sym c.in_ok-z.ensures

pub returns-then-id-ne-ID : goal.returns-then-id-ne-ID
returns-then-id-ne-ID c =
    let both = erase-length c.args.store.now c.args.id.now c.if-id-ne-ID.true in
    record { result_value = both.0; store_after = both.1 }

pub returns-in_err-z-clause-store_after : goal.returns-in_err-z-clause-store_after
returns-in_err-z-clause-store_after c =
    (erase_unfit c.args.store.now c.args.id.now c.if-id-ne-ID.false c.in_err-z.field-0.0 (sym c.in_err-z.ensures)).1

pub erase_rows-requires : goal.erase_rows-requires
erase_rows-requires c = checked (goal.at.erase_rows-requires c).In_ok-z

pub returns : goal.returns
returns c =
    let n = c.erase_rows in
    let z = (goal.at.returns c).In_ok-z in
    let a = z.args in
    let both = erase_fit a.store.now a.id.now c.if-id-ne-ID.false z.in_ok-z.z (checked z) z.copy_from_slice.new.self z.copy_from_slice.ensures.after n.result n.new.store n.ensures.value n.ensures.store_after in
    record { result_value = both.0; store_after = both.1 }
