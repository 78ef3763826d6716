-- The rows of M and V stand at the start of two arrays; R's are added last.
use Prim.Native.Nat.{ℕ, ◌+◌, ◌*◌, ◌-◌, ◌/◌, ◌≤◌}
use mathlib.Core.Path.{◌≡◌, refl, sym, ap, ap₂, subst, ◌∙◌}
use mathlib.Core.List.{List, ◌++◌}
use native.Mathlib.Omega.{arith}
use lib.ListN.{length, take, drop, length-drop, length-replicate}
use lib.Seq.{take_all, length-take-le}
use Rattle.octets.proofs.Parts.{front_is, length_part}
use Rattle.table.specs.Table.{Row, Table, rows}
use Rattle.table.specs.Order.{with_rows}
use Rattle.scheme.specs.Keys.{token_mt, token_me, token_log, token_rl}
use Rattle.scheme.specs.Store.{table_m, table_v, table_r, width_of}
use Rattle.scheme.specs.Insert.{entry_rows, reverse_rows, label_rows, label_nonces}
use Rattle.suite.specs.Program.{program}
use Rattle.store.specs.Tables.{table_of, InOrder, Replaced}
use Rattle.store.proofs.Stores.{LaidStore, still_in_order}
use Rattle.placing.specs.Placed.{placed_store}
use Rattle.placing.proofs.Stores.{all_inserted}
use Rattle.placing.proofs.write.Goals as goal
use Rattle.placing.proofs.write.Lts.View as view
use Rattle.placing.proofs.write.Goals.{After-make_rows, After-place, Start}

abbrev count : Start → ℕ
count s = length s.args.ids.now / 16

-- the arrays have room for the rows
short : (s : Start) → count s ≤ 64
short s = s.requires.lengths.0.most

abbrev start : After-make_rows → Start
start o = o.before.before.before.before.before.before.before.before.before.before.before

-- the rows as they came back, and those that they are
abbrev in_m : After-make_rows → List ℕ
in_m o = o.make_rows.new.entries

abbrev in_v : After-make_rows → List ℕ
in_v o = o.make_rows.new.reverses

abbrev new_m : After-make_rows → List Row
new_m o = let a = (start o).args in
    entry_rows program (take 32 (drop 1 a.token.now)) (take 32 (drop 33 a.token.now)) a.g (rows 16 (count (start o)) a.ids.now) a.nonces.now

abbrev new_v : After-make_rows → List Row
new_v o = let a = (start o).args in reverse_rows program (take 32 (drop 1 a.token.now)) a.g (rows 16 (count (start o)) a.ids.now)

long_m : (o : After-make_rows) → length (in_m o) ≡ width_of table_m * count (start o)
long_m o = o.make_rows.auto.entries ∙ length-take-le _ _ (omega (arith, short (start o), length-replicate {A = ℕ} (64 * width_of table_m) 0))

long_v : (o : After-make_rows) → length (in_v o) ≡ width_of table_v * count (start o)
long_v o = o.make_rows.auto.reverses ∙ length-take-le _ _ (omega (arith, short (start o), length-replicate {A = ℕ} (64 * width_of table_v) 0))

front_m : (o : After-make_rows) (rest : List ℕ) → take (width_of table_m * count (start o)) (in_m o ++ rest) ≡ in_m o
front_m o rest = front_is _ (in_m o) rest _ (sym (long_m o)) refl

front_v : (o : After-make_rows) (rest : List ℕ) → take (width_of table_v * count (start o)) (in_v o ++ rest) ≡ in_v o
front_v o rest = front_is _ (in_v o) rest _ (sym (long_v o)) refl

abbrev made : After-place → After-make_rows
made c = (view.up-After-make_rows _ _ _ _ c.before.before.before.before.before.before.before.before.before.before)

-- the store with all but R's rows, and R in it as it was
abbrev store₁ : (c : After-place) → LaidStore (start (made c)).args.z
store₁ c = record { bytes = c.place.new.store; store = _; laid = c.place.ensures }

labels_still : (c : After-place) → InOrder c.place.new.store (start (made c)).args.z.r (width_of table_r)
unfolding placed_store
labels_still c = let s = start (made c) in still_in_order s.args.z (store₁ c) table_r s.args.store.now s.requires.store_value.0 refl

pub write_labels-requires : goal.write_labels-requires
write_labels-requires c =
    let p = (goal.at.write_labels-requires c).After-place in
    let s = start (made p) in
    let l = s.requires.lengths.0 in
    let n = s.args.nonces.now in record {
      in_order = ((labels_still p, s.requires.store_value.1.labels), (length_part s.args.token.now 141 173 (omega (arith, l.token_bytes)), l.most));
      n_in_bounds = (omega (arith, length_part n (12 * (count s + 1)) (length n) (omega arith), l.nonce_bytes), l.id_bytes);
    }

pub returns : goal.returns
unfolding token_mt token_me token_log token_rl label_nonces
returns c =
    let p = (goal.at.returns c).After-place in
    let o = made p in
    let s = start o in
    let t = s.args.token.now in
    let n = s.args.nonces.now in
    let j = 12 * (count s + 1) in
    let after = c.write_labels.new.store in
    let in_r : Table = table_of p.place.new.store s.args.z.r (width_of table_r) in
    all_inserted s.args.store.now p.place.new.store after s.args.z (new_m o) (new_v o) _ _ s.args.counter.now _ _ _ (ap (rows (width_of table_m) (count s)) (front_m o _) ∙ o.make_rows.ensures.entries_after)
    (ap (rows (width_of table_v) (count s)) (front_v o _) ∙ o.make_rows.ensures.reverses_after) p.log_row-log.ensures p.place.ensures
    (subst (λ (x : Table). Replaced p.place.new.store s.args.z.r (width_of table_r) x after)
    (ap₂ (λ (rl m : List ℕ). with_rows (width_of table_r) (label_rows program rl (rows 16 (count s) s.args.ids.now) m) in_r) (take_all 32 (drop 141 t) (omega (arith, length-drop 141 t, s.requires.lengths.0.token_bytes)))
    (take_all (length n - j) (drop j n) (omega (arith, length-drop j n))))
    c.write_labels.ensures)
