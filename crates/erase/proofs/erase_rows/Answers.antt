-- Each table in turn comes back closed up.
-- the store before each table is lent, and after the last
use mathlib.Core.Path.{◌≡◌, refl, ap, ◌∙◌}
use lib.Dec.{lit≤}
use Rattle.table.specs.Lists.{count}
use Rattle.table.specs.Table.{Table, used}
use Rattle.scheme.specs.Store.{Which, width_of, greatest_mark, cut}
use Rattle.store.specs.Check.{part_in}
use Rattle.store.proofs.Laws.{table_m, table_v, table_r, laid_fit}
use Rattle.store.proofs.Stores.{LaidStore, part-rows, replace, same_long}
use Rattle.erase.specs.Tags.{Clean, has_id}
use Rattle.erase.proofs.Laws.{still_clean, freed_are, all_closed}
use Rattle.erase.proofs.erase_rows.Goals as goal
use Rattle.erase.proofs.erase_rows.Goals.{After-free_entries, After-free_rows, After-free_rows-freed, Start}

abbrev store₀ : (s : Start) → LaidStore s.args.z
store₀ s = record { bytes = s.args.store.now; store = cut s.args.store.now; laid = laid_fit s.args.store.now s.args.z s.requires }

abbrev start : After-free_entries → Start
start c = c.before.before.before.before.before.before

abbrev store₁ : (c : After-free_entries) → LaidStore (start c).args.z
store₁ c = replace (start c).args.z (store₀ (start c)) table_m _ c.free_entries.new.store c.free_entries.ensures

abbrev before₂ : After-free_rows-freed → After-free_entries
before₂ c = c.before.before.before.before

abbrev store₂ : (c : After-free_rows-freed) → LaidStore (start (before₂ c)).args.z
store₂ c = replace (start (before₂ c)).args.z (store₁ (before₂ c)) table_v _ c.free_rows-freed.new.store c.free_rows-freed.ensures.replaced

abbrev before₃ : After-free_rows → After-free_rows-freed
before₃ c = c.before.before.before.before

abbrev store₃ : (c : After-free_rows) → LaidStore (start (before₂ (before₃ c))).args.z
store₃ c = replace (start (before₂ (before₃ c))).args.z (store₂ (before₃ c)) table_r _ c.free_rows.new.store c.free_rows.ensures.replaced

-- a table that has not been lent yet is as the checks found it

still : (s : Start) (g : LaidStore s.args.z) (k : Which) → greatest_mark k ≡ 1 → g.store.table k ≡ (cut s.args.store.now).table k → Clean g.bytes (part_in s.args.z k) (width_of k)
still s g k m e = still_clean s.args.store.now s.args.z s.requires g k m e

pub free_entries-requires : goal.free_entries-requires
free_entries-requires c = let s = (goal.at.free_entries-requires c).Start in (still s (store₀ s) table_m refl refl, still s (store₀ s) table_v refl refl)

pub free_rows-freed-requires : goal.free_rows-freed-requires
free_rows-freed-requires c = let o = (goal.at.free_rows-freed-requires c).After-free_entries in (still (start o) (store₁ o) table_v refl refl, lit≤ tt)

pub free_rows-requires : goal.free_rows-requires
free_rows-requires c = let o = (goal.at.free_rows-requires c).After-free_rows-freed in (still (start (before₂ o)) (store₂ o) table_r refl refl, lit≤ tt)

pub shape_of-store : goal.shape_of-store
shape_of-store c = let o = (goal.at.shape_of-store c).After-free_rows in same_long _ (store₃ o) (store₀ (start (before₂ (before₃ o))))

pub returns : goal.returns
returns c =
    let o₃ = (goal.at.returns c).After-free_rows in
    let o₂ = before₃ o₃ in
    let o₁ = before₂ o₂ in
    let s = start o₁ in
    let b = s.args.store.now in
    let z = s.args.z in
    let id = s.args.id.now in record {
      value = o₂.free_rows-freed.ensures.value ∙ ap (λ (t : Table). count (has_id id) (used t)) (part-rows z (store₁ o₁) table_v) ∙ freed_are b id ((cut b).table table_v);
      store_after = all_closed b id o₃.free_rows.new.store z _ _ _ _ (part-rows z (store₀ s) table_v) (part-rows z (store₀ s) table_m) (part-rows z (store₁ o₁) table_v) (part-rows z (store₂ o₂) table_r) (store₃ o₃).laid;
    }
