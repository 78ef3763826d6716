-- The bytes beside the index are the id; a row's text is its id.
use Prim.Native.Nat.{ℕ, ◌/◌, ◌%◌}
use mathlib.Core.Path.{ap, ◌∙◌}
use mathlib.Core.List.{List, []}
use native.Mathlib.Omega.{arith}
use lib.ListN.{get_or}
use Rattle.table.specs.Table.{rows, body}
use Rattle.table.proofs.Rows.{rows-length}
use Rattle.scheme.specs.Store.{table_m, width_of}
use Rattle.format.specs.Rows.{text_in}
use Rattle.format.specs.Tags.{numbered_by}
use Rattle.chains.specs.Chains.{id_by}
use Rattle.chains.proofs.id_at.Goals as goal

pub text_at-requires : goal.text_at-requires
text_at-requires c =
    let a = c.args in (omega (arith, c.requires.1.inside, c.wide-r.ensures, rows-length (width_of table_m) a.m a.t.now), c.requires.0)

pub returns : goal.returns
unfolding id_by
returns c =
    let a = c.args in
    let r = c.wide-r.result / 65536 in
    c.text_at.ensures
    ∙ ap (λ (k : List ℕ). text_in k (body (get_or (rows (width_of table_m) a.m a.t.now) (r % 4096) []))) c.numbered-key.ensures
    ∙ ap (λ (v : ℕ). text_in (numbered_by a.me (v / 65536 / 4096)) (body (get_or (rows (width_of table_m) a.m a.t.now) (v / 65536 % 4096) []))) c.wide-r.ensures
