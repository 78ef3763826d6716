-- The rows with a tag of the id's are flagged, and M closes up.
use mathlib.Core.Path.{refl, ap, ◌∙◌}
use native.Mathlib.Omega.{arith}
use Rattle.table.proofs.Rows.{rows-length}
use Rattle.closing.specs.Flags.{flagged}
use Rattle.scheme.specs.Store.{table_m, table_v, width_of}
use Rattle.store.specs.Tables.{bytes_of, table_of}
use Rattle.store.proofs.Stores.{replaced}
use Rattle.erase.specs.Tags.{erased_by}
use Rattle.erase.proofs.Laws.{closed_by}
use borrow.Author.Rules.{rules}
use Rattle.erase.proofs.free_entries.Goals as goal

pub flag_entries-requires : goal.flag_entries-requires
flag_entries-requires c =
    let m = c.requires.0 in
    let v = c.requires.1 in record {
      m_len = ((m.order.within.long, record { form = m.order.form; marks = m.marks; number = m.order.number }), (v.order.within.long, record { form = v.order.form; marks = v.marks; number = v.order.number }));
      n_in_bounds = search rules;
    }

pub close-requires : goal.close-requires
close-requires c =
    let m = c.requires.0 in record { t_len = (m.order.within.long, search rules); t_value = (m.order.form, m.order.number) }

pub returns : goal.returns
returns c =
    let o = c.close in
    let a = c.args in
    let b = a.store.now in
    let q = erased_by a.id.now (table_of b a.v (width_of table_v)) in
    let t = table_of b a.m (width_of table_m) in
    replaced b a.m (width_of table_m) _ o.new.t c.requires.0.order.within o.auto.t
    (o.ensures
    ∙ closed_by (width_of table_m) q t c.flag_entries.new.flags (omega (arith, c.requires.0.most, rows-length (width_of table_m) a.m.rows (bytes_of b a.m)))
    (c.flag_entries.ensures ∙ ap (flagged q t) refl))
