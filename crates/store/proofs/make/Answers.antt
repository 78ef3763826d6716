-- 7, 8, or the header with zeros behind it.
-- the sizes after 7
use mathlib.Core.Path.{◌≡◌, sym, ◌∙◌}
use mathlib.Core.Bool.{false}
use lib.ListN.{length}
use Rattle.scheme.specs.Store.{Sizes, sizes_bad, length_for}
use Rattle.store.proofs.Laws.{length_shares, make-length, make-done}
use Rattle.store.proofs.make.Goals as goal
use Rattle.store.proofs.make.Goals.{Else-slice-length_for}

-- the sizes are in range, and the slice has their length
sized : (c : Else-slice-length_for) →
    let a = c.args in
    let z : Sizes = record { p = a.p; m = a.m; c = a.c; s = a.s; r = a.r } in
    (sizes_bad z ≡ false) × (length a.slice.now ≡ length_for z)
sized c = (sym c.bad_sizes.ensures ∙ c.if-bad_sizes.false, c.if-slice-length_for.false ∙ c.length_for.ensures ∙ length_shares _)

pub returns-then-slice-length_for : goal.returns-then-slice-length_for
returns-then-slice-length_for c =
    let a = c.args in
    let both = make-length (record { p = a.p; m = a.m; c = a.c; s = a.s; r = a.r }) a.slice.now (sym c.bad_sizes.ensures ∙ c.if-bad_sizes.false)
    (λ e. c.if-slice-length_for.true (e ∙ sym (c.length_for.ensures ∙ length_shares _))) in
    record { result_value = both.0; slice_after = both.1 }

pub returns : goal.returns
returns c =
    let e = (goal.at.returns c).Else-slice-length_for in
    let a = e.args in
    let h = sized e in
    let both = make-done (record { p = a.p; m = a.m; c = a.c; s = a.s; r = a.r }) a.slice.now h.0 h.1 _ c.write.ensures in
    record { result_value = both.0; slice_after = both.1 }

pub write-requires : goal.write-requires
write-requires c = sized (goal.at.write-requires c).Else-slice-length_for
