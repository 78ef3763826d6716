-- The id's rows are flagged, and the table closes up.
use Prim.Native.Nat.{ℕ}
use mathlib.Core.Path.{◌≡◌, refl, ap, ap₂, ◌∙◌}
use mathlib.Core.List.{List}
use native.Mathlib.Omega.{arith}
use lib.ListN.{length, take}
use Rattle.table.specs.Lists.{count, same}
use Rattle.table.specs.Table.{Table, used}
use Rattle.table.proofs.Rows.{rows-length}
use Rattle.closing.specs.Flags.{flagged}
use Rattle.store.specs.Tables.{bytes_of, table_of}
use Rattle.store.proofs.Stores.{replaced}
use Rattle.erase.specs.Tags.{has_id}
use Rattle.erase.proofs.Laws.{closed_by}
use Rattle.erase.proofs.free_rows.Goals as goal

pub returns : goal.returns
returns c =
    let o = c.close in
    let a = c.args in
    let b = a.store.now in
    let id = a.id.now in
    let t : Table = table_of b a.part a.w in
    let e : length id ≡ 16 = omega (arith, c.flag-arg-2-1.given) in record {
      value = c.flag-freed.ensures.value ∙ ap (λ (k : ℕ). count (λ x. same (take k x) id) (used t)) e;
      replaced = replaced b a.part a.w _ o.new.t c.requires.0.order.within o.auto.t
          (o.ensures
          ∙ closed_by a.w (has_id id) t c.flag-freed.new.flags (omega (arith, c.requires.0.most, rows-length a.w a.part.rows (bytes_of b a.part)))
          (c.flag-freed.ensures.flags_after ∙ ap₂ (λ (k : ℕ) (fs : List ℕ). flagged (λ x. same (take k x) id) t fs) e refl));
    }
