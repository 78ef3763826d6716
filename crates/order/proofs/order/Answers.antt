-- 10 and 11, or the tables are put in form.
use mathlib.Core.Path.{sym, ◌∙◌}
use Rattle.order.proofs.Laws.{order_refused, order-done}
use Rattle.order.proofs.order.Goals as goal

pub order_all-requires : goal.order_all-requires
order_all-requires c =
    sym c.in_ok-z.ensures

pub returns-in_err-z-clause-store_after : goal.returns-in_err-z-clause-store_after
returns-in_err-z-clause-store_after c =
    (order_refused c.args.store.now c.in_err-z.field-0.0 (sym c.in_err-z.ensures)).1

pub returns : goal.returns
returns c =
    let o = c.order_all in
    let both = order-done c.args.store.now c.in_ok-z.z (sym c.in_ok-z.ensures) o.result o.new.store o.ensures.value o.ensures.store_after in
    record { result_value = both.0; store_after = both.1 }
