-- Each table in turn comes back with its new rows.
-- the store before each table is lent, and after the last
use mathlib.Core.Path.{◌≡◌, refl, ◌∙◌}
use native.Mathlib.Omega.{arith}
use Rattle.table.specs.Table.{rows}
use Rattle.scheme.specs.Store.{Which, width_of, cut}
use Rattle.scheme.specs.Insert.{added_to}
use Rattle.store.specs.Check.{part_in}
use Rattle.store.specs.Tables.{InOrder}
use Rattle.store.proofs.Laws.{table_m, table_v, table_c, table_s, laid_fit}
use Rattle.store.proofs.Stores.{LaidStore, still_in_order}
use Rattle.placing.proofs.Stores.{with_added, only_ascending, placed}
use Rattle.placing.proofs.place.Goals as goal
use Rattle.placing.proofs.place.Lts.View as view
use Rattle.placing.proofs.place.Goals.{After-add_rows, After-add_rows-2, After-add_rows-3, After-add_rows-4, Start}

abbrev store₀ : (s : Start) → LaidStore s.args.z
store₀ s = record {
  bytes = s.args.store.now;
  store = cut s.args.store.now;
  laid = laid_fit s.args.store.now s.args.z s.requires.store_value.0;
}

abbrev start₁ : After-add_rows → Start
start₁ c = c.before.before.before.before.before.before.before.before.before.before.before.before

abbrev store₁ : (c : After-add_rows) → LaidStore (start₁ c).args.z
store₁ c = let a = (start₁ c).args in record {
  bytes = c.add_rows.new.store;
  store = added_to table_m (rows (width_of table_m) a.n a.entries.now) (store₀ (start₁ c)).store;
  laid = with_added a.z (store₀ (start₁ c)) table_m _ _ c.add_rows.ensures;
}

abbrev before₂ : After-add_rows-2 → After-add_rows
before₂ c = (view.up-After-add_rows _ _ _ _ c.before.before.before.before.before)

abbrev store₂ : (c : After-add_rows-2) → LaidStore (start₁ (before₂ c)).args.z
store₂ c = let a = (start₁ (before₂ c)).args in record {
  bytes = c.add_rows-2.new.store;
  store = added_to table_v (rows (width_of table_v) a.n a.reverses.now) (store₁ (before₂ c)).store;
  laid = with_added a.z (store₁ (before₂ c)) table_v _ _ c.add_rows-2.ensures;
}

abbrev before₃ : After-add_rows-3 → After-add_rows-2
before₃ c = (view.up-After-add_rows-2 _ _ _ _ c.before.before.before.before.before)

abbrev store₃ : (c : After-add_rows-3) → LaidStore (start₁ (before₂ (before₃ c))).args.z
store₃ c = let a = (start₁ (before₂ (before₃ c))).args in record {
  bytes = c.add_rows-3.new.store;
  store = added_to table_c (rows (width_of table_c) 1 a.counter.now) (store₂ (before₃ c)).store;
  laid = with_added a.z (store₂ (before₃ c)) table_c _ _ c.add_rows-3.ensures;
}

abbrev before₄ : After-add_rows-4 → After-add_rows-3
before₄ c = (view.up-After-add_rows-3 _ _ _ _ c.before.before.before.before.before)

abbrev store₄ : (c : After-add_rows-4) → LaidStore (start₁ (before₂ (before₃ (before₄ c)))).args.z
store₄ c = let a = (start₁ (before₂ (before₃ (before₄ c)))).args in record {
  bytes = c.add_rows-4.new.store;
  store = added_to table_s (rows (width_of table_s) 1 a.log.now) (store₃ (before₄ c)).store;
  laid = with_added a.z (store₃ (before₄ c)) table_s _ _ c.add_rows-4.ensures;
}

-- a table that has not been lent yet is as the checks found it
still : (s : Start) (g : LaidStore s.args.z) (k : Which) → g.store.table k ≡ (cut s.args.store.now).table k → InOrder g.bytes (part_in s.args.z k) (width_of k)
still s g k e = still_in_order s.args.z g k s.args.store.now s.requires.store_value.0 e

pub add_rows-requires : goal.add_rows-requires
add_rows-requires c =
    let s = (goal.at.add_rows-requires c).Start in record {
      in_order = (still s (store₀ s) table_m refl, s.requires.store_value.1.entries);
      len = (s.requires.entries_len.0.0, s.requires.entries_value.0);
    }

pub add_rows-requires-2 : goal.add_rows-requires-2
add_rows-requires-2 c =
    let o = (goal.at.add_rows-requires-2 c).After-add_rows in
    let s = start₁ o in record {
      in_order = (still s (store₁ o) table_v refl, s.requires.store_value.1.reverses);
      len = (s.requires.entries_len.0.1, s.requires.entries_value.1);
    }

pub add_rows-requires-3 : goal.add_rows-requires-3
add_rows-requires-3 c =
    let o = (goal.at.add_rows-requires-3 c).After-add_rows-2 in
    let s = start₁ (before₂ o) in record {
      in_order = (still s (store₂ o) table_c refl, s.requires.store_value.1.counter);
      len = (s.requires.entries_len.1.0 ∙ omega arith, only_ascending (width_of table_c) s.args.counter.now);
    }

pub add_rows-requires-4 : goal.add_rows-requires-4
add_rows-requires-4 c =
    let o = (goal.at.add_rows-requires-4 c).After-add_rows-3 in
    let s = start₁ (before₂ (before₃ o)) in record {
      in_order = (still s (store₃ o) table_s refl, s.requires.store_value.1.log);
      len = (s.requires.entries_len.1.1 ∙ omega arith, only_ascending (width_of table_s) s.args.log.now);
    }

pub returns : goal.returns
returns c =
    let o = (goal.at.returns c).After-add_rows-4 in
    let s = start₁ (before₂ (before₃ (before₄ o))) in
    let a = s.args in
    placed a.store.now _ a.z (rows (width_of table_m) a.n a.entries.now) (rows (width_of table_v) a.n a.reverses.now) a.counter.now a.log.now s.requires.entries_len.1.0 s.requires.entries_len.1.1
    (store₄ o).laid
