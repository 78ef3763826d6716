-- The part is lent, and comes back in form.
use native.Mathlib.Omega.{arith}
use Rattle.store.specs.Tables.{bytes_of}
use Rattle.store.proofs.Stores.{replaced}
use Rattle.order.proofs.Laws.{few_used}
use Rattle.order.proofs.order_part.Goals as goal

pub returns : goal.returns
returns c =
    let o = c.order_table in
    let a = c.args in record {
      value = (o.ensures.value, omega (arith, o.ensures.value, few_used a.w a.part.rows (bytes_of a.store.now a.part) c.requires.1.1));
      replaced = replaced a.store.now a.part a.w _ o.new.t c.requires.0 o.auto.t o.ensures.t_after;
    }
