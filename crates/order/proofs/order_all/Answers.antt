-- Each table in turn comes back in form.
-- the store before each table is lent, and after the last
use Prim.Native.Nat.{ℕ, ◌≤◌}
use mathlib.Core.Path.{ap, ◌∙◌}
use lib.Dec.{lit≤}
use lib.ListN.{length}
use Rattle.table.specs.Table.{Table, used}
use Rattle.scheme.specs.Store.{Which, cut}
use Rattle.store.specs.Check.{part_in}
use Rattle.store.proofs.Laws.{table_m, table_v, table_c, table_s, table_r, marked_fits, laid_marked}
use Rattle.store.proofs.Stores.{LaidStore, part_within, part-rows, replace, same_long}
use Rattle.order.proofs.Laws.{all_ordered, all_used}
use Rattle.order.proofs.order_all.Goals as goal
use Rattle.order.proofs.order_all.Goals.{After-order_part-in_c, After-order_part-in_m, After-order_part-in_r, After-order_part-in_s, After-order_part-in_v, Start}

abbrev store₀ : (s : Start) → LaidStore s.args.z
store₀ s = record { bytes = s.args.store.now; store = cut s.args.store.now; laid = laid_marked s.args.store.now s.args.z s.requires }

abbrev start₁ : After-order_part-in_m → Start
start₁ c = c.before.before.before.before.before.before.before.before

abbrev store₁ : (c : After-order_part-in_m) → LaidStore (start₁ c).args.z
store₁ c = replace (start₁ c).args.z (store₀ (start₁ c)) table_m _ c.order_part-in_m.new.store c.order_part-in_m.ensures.replaced

abbrev before₂ : After-order_part-in_v → After-order_part-in_m
before₂ c = c.before.before.before.before

abbrev start₂ : After-order_part-in_v → Start
start₂ c = start₁ (before₂ c)

abbrev store₂ : (c : After-order_part-in_v) → LaidStore (start₂ c).args.z
store₂ c = replace (start₂ c).args.z (store₁ (before₂ c)) table_v _ c.order_part-in_v.new.store c.order_part-in_v.ensures.replaced

abbrev before₃ : After-order_part-in_c → After-order_part-in_v
before₃ c = c.before.before.before.before

abbrev start₃ : After-order_part-in_c → Start
start₃ c = start₂ (before₃ c)

abbrev store₃ : (c : After-order_part-in_c) → LaidStore (start₃ c).args.z
store₃ c = replace (start₃ c).args.z (store₂ (before₃ c)) table_c _ c.order_part-in_c.new.store c.order_part-in_c.ensures.replaced

abbrev before₄ : After-order_part-in_s → After-order_part-in_c
before₄ c = c.before.before.before.before

abbrev start₄ : After-order_part-in_s → Start
start₄ c = start₃ (before₄ c)

abbrev store₄ : (c : After-order_part-in_s) → LaidStore (start₄ c).args.z
store₄ c = replace (start₄ c).args.z (store₃ (before₄ c)) table_s _ c.order_part-in_s.new.store c.order_part-in_s.ensures.replaced

abbrev before₅ : After-order_part-in_r → After-order_part-in_s
before₅ c = c.before.before.before.before

abbrev start₅ : After-order_part-in_r → Start
start₅ c = start₄ (before₅ c)

abbrev store₅ : (c : After-order_part-in_r) → LaidStore (start₅ c).args.z
store₅ c = replace (start₅ c).args.z (store₄ (before₅ c)) table_r _ c.order_part-in_r.new.store c.order_part-in_r.ensures.replaced

few : (s : Start) (k : Which) → (part_in s.args.z k).rows ≤ 4096
few s k = (marked_fits s.args.store.now s.args.z s.requires k).most

pub order_part-in_m-requires : goal.order_part-in_m-requires
order_part-in_m-requires c = let s = (goal.at.order_part-in_m-requires c).Start in (part_within _ (store₀ s) table_m, ((lit≤ tt, lit≤ tt), few s table_m))

pub order_part-in_v-requires : goal.order_part-in_v-requires
order_part-in_v-requires c = let o = (goal.at.order_part-in_v-requires c).After-order_part-in_m in (part_within _ (store₁ o) table_v, ((lit≤ tt, lit≤ tt), few (start₁ o) table_v))

pub order_part-in_c-requires : goal.order_part-in_c-requires
order_part-in_c-requires c = let o = (goal.at.order_part-in_c-requires c).After-order_part-in_v in (part_within _ (store₂ o) table_c, ((lit≤ tt, lit≤ tt), few (start₂ o) table_c))

pub order_part-in_s-requires : goal.order_part-in_s-requires
order_part-in_s-requires c = let o = (goal.at.order_part-in_s-requires c).After-order_part-in_c in (part_within _ (store₃ o) table_s, ((lit≤ tt, lit≤ tt), few (start₃ o) table_s))

pub order_part-in_r-requires : goal.order_part-in_r-requires
order_part-in_r-requires c = let o = (goal.at.order_part-in_r-requires c).After-order_part-in_s in (part_within _ (store₄ o) table_r, ((lit≤ tt, lit≤ tt), few (start₄ o) table_r))

pub shape_of-store : goal.shape_of-store
shape_of-store c = let o = (goal.at.shape_of-store c).After-order_part-in_r in same_long _ (store₅ o) (store₀ (start₅ o))

pub returns : goal.returns
returns c =
    let o₅ = (goal.at.returns c).After-order_part-in_r in
    let o₄ = before₅ o₅ in
    let o₃ = before₄ o₄ in
    let o₂ = before₃ o₃ in
    let o₁ = before₂ o₂ in
    let s = start₁ o₁ in
    let b = s.args.store.now in
    let z = s.args.z in
    let e_m = part-rows z (store₀ s) table_m in
    let e_v = part-rows z (store₁ o₁) table_v in
    let e_c = part-rows z (store₂ o₂) table_c in
    let e_s = part-rows z (store₃ o₃) table_s in
    let e_r = part-rows z (store₄ o₄) table_r in
    let many : Table → ℕ = λ t. length (used t) in record {
      value = all_used b _ _ _ _ _ (o₁.order_part-in_m.ensures.value.0 ∙ ap many e_m) (o₂.order_part-in_v.ensures.value.0 ∙ ap many e_v) (o₃.order_part-in_c.ensures.value.0 ∙ ap many e_c) (o₄.order_part-in_s.ensures.value.0 ∙ ap many e_s) (o₅.order_part-in_r.ensures.value.0 ∙ ap many e_r);
      store_after = all_ordered b o₅.order_part-in_r.new.store z _ _ _ _ _ e_m e_v e_c e_s e_r (store₅ o₅).laid;
    }
