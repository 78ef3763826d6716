-- The row is found at the tag's place, and its text is the id of its number.
use Prim.Native.Nat.{ℕ, ◌<◌}
use mathlib.Core.Path.{◌≡◌, ap, ◌∙◌}
use mathlib.Core.List.{List, []}
use native.Mathlib.Omega.{arith}
use lib.ListN.{length, get_or}
use Rattle.table.specs.Table.{Table, rows, place_of, body}
use Rattle.table.proofs.Rows.{rows-length}
use Rattle.scheme.specs.Store.{table_m, width_of}
use Rattle.format.specs.Rows.{text_in}
use Rattle.chains.specs.Chains.{Kept, kept}
use Rattle.ids.specs.Ids.{tag_of}
use Rattle.ids.proofs.Noted.{noted_hit, noted_miss, id_by_lem}
use Rattle.ids.proofs.note_entry.Goals as goal
use Rattle.ids.proofs.note_entry.Goals.{After-place-i, Start}

abbrev table_at : Start → Table
table_at s = rows (width_of table_m) s.args.m s.args.t.now

-- the place is that of the share's tag
found : (c : After-place-i) →
    let s = c.before.before.before.before.before.before in
    c.place-i.result ≡ place_of (tag_of s.args.keys (table_at s) s.args.s.u s.args.a.0) (table_at s)
found c = let s = c.before.before.before.before.before.before in
    c.place-i.ensures ∙ ap (λ (g : ℕ → List ℕ). place_of (g s.args.a.0) (table_at s)) s.requires.1.1.1.0.tags

pub note-requires : goal.note-requires
note-requires c =
    let s = (goal.at.note-requires c).Start in
    let a = s.args in
    let i = c.place-i.result in
    let h : i < length (table_at s) = omega (arith, c.if-i-m.true, rows-length (width_of table_m) a.m a.t.now) in
    let e = ap (λ (k : Kept). k.n) (noted_hit a.keys (table_at s) a.s.u a.a.0 i (found (goal.at.note-requires c).After-place-i) h (kept a.index.now a.ids.now a.n)) in (
      s.requires.0.0,
      (
        s.requires.1.1.1.1.0,
        (
          c.text_at-id.ensures
              ∙ ap (λ (k : List ℕ). text_in k (body (get_or (table_at s) i []))) s.requires.1.1.1.0.me
              ∙ id_by_lem a.keys (table_at s) a.s.u i (omega (arith, c.if-i-m.true, s.requires.1.0)),
          (omega (arith, c.if-i-m.true, s.requires.1.0, s.requires.1.1.0), omega (arith, s.requires.1.1.1.1.1, e)),
        ),
      ),
    )

pub returns-then-i-m : goal.returns-then-i-m
returns-then-i-m c =
    let s = (goal.at.returns-then-i-m c).Start in
    let a = s.args in
    let i = c.place-i.result in
    let h : i < length (table_at s) = omega (arith, c.if-i-m.true, rows-length (width_of table_m) a.m a.t.now) in
    c.note.ensures ∙ noted_hit a.keys (table_at s) a.s.u a.a.0 i (found (goal.at.returns-then-i-m c).After-place-i) h (kept a.index.now a.ids.now a.n)

pub returns : goal.returns
returns c =
    let s = (goal.at.returns c).Start in
    let a = s.args in
    noted_miss a.keys (table_at s) a.s.u a.a.0 c.place-i.result (found (goal.at.returns c).After-place-i) (omega (arith, c.if-i-m.false, rows-length (width_of table_m) a.m a.t.now)) (kept a.index.now a.ids.now a.n)
