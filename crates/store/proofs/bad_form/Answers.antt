-- The tables of the plan, one after the other.
use native.Mathlib.Omega.{arith}
use Rattle.store.proofs.Laws.{table_m, table_v, table_c, table_s, table_r, part_formed}
use Rattle.store.proofs.bad_form.Goals as goal

pub formed-requires : goal.formed-requires
formed-requires c =
    let a = c.args in part_formed a.store.now a.z c.requires table_m (omega arith)

pub formed-requires-2 : goal.formed-requires-2
formed-requires-2 c =
    let a = c.args in part_formed a.store.now a.z c.requires table_v (omega arith)

pub formed-requires-3 : goal.formed-requires-3
formed-requires-3 c =
    let a = c.args in part_formed a.store.now a.z c.requires table_c (omega arith)

pub formed-requires-4 : goal.formed-requires-4
formed-requires-4 c =
    let a = c.args in part_formed a.store.now a.z c.requires table_s (omega arith)

pub formed-requires-5 : goal.formed-requires-5
formed-requires-5 c =
    let a = c.args in part_formed a.store.now a.z c.requires table_r (omega arith)
