-- What an insert that its tests (admission) let pass has of lengths and of room, and a store with its new rows (document 01,
-- "Refusals from the input", "Refusals from the state").
use Rattle.std.specs.Prelude.{ℕ, ◌+◌, ◌*◌, ◌≤◌, ◌≡◌, List, [], ◌∷◌, length}
use Rattle.table.specs.Table.{Row}
use Rattle.scheme.specs.Keys.{insert_token_length}
use Rattle.scheme.specs.Refusals.{id_count}
use Rattle.scheme.specs.Store.{Store, table_m, table_v, table_c, table_s, cut}
use Rattle.scheme.specs.Insert.{added_to}
use Rattle.store.specs.declared.Shape.{Shape}

-- the lengths that 4, 5 and 6 let pass [01:RI5 RI6 RI7] [02:W4.11]
pub record Lengths (ids nonces token : List ℕ) : Type 0 where
  pub id_bytes : length ids ≡ 16 * id_count ids
  pub most : id_count ids ≤ 64
  pub nonce_bytes : length nonces ≡ 12 * (2 * id_count ids + 1)
  pub token_bytes : length token ≡ insert_token_length

-- the free rows that 15, 16, 17 and 21 let pass
pub record Room (z : Shape) (n : ℕ) : Type 0 where
  pub entries : n ≤ z.m.free
  pub reverses : n ≤ z.v.free
  pub counter : 1 ≤ z.c.free
  pub log : 1 ≤ z.s.free
  pub labels : n ≤ z.r.free

-- a store with new rows in every table but R
unfoldable pub placed_store : List ℕ → List Row → List Row → Row → Row → Store
placed_store before new_m new_v new_c new_s = added_to table_s (new_s ∷ []) (added_to table_c (new_c ∷ []) (added_to table_v new_v (added_to table_m new_m (cut before))))
