-- The shares read one after the other, 0 to p: none is damaged, and their counts add up. And a share's reading is the
-- scheme's.
use Prim.Native.Nat.{ℕ, ◌+◌, ◌*◌, ◌≤◌}
use mathlib.Core.Path.{◌≡◌, refl, sym, ap}
use mathlib.Core.Bool.{true, false}
use mathlib.Core.List.{List, map}
use native.Mathlib.Nat.{mul-le-mul_right}
use native.Mathlib.Numerals.{add-one}
use native.Mathlib.Omega.{arith}
use lib.ListN.{length}
use Rattle.hmac.specs.declared.Keyed.{Keyed}
use Rattle.table.specs.Lists.{any_of, sum, up_to}
use Rattle.table.specs.Table.{Table}
use Rattle.table.specs.Order.{used_rows}
use Rattle.table.proofs.Order.{rows_counted}
use Rattle.table.proofs.Below.{below, up_to-below, sum_next, none_next, any_below}
use Rattle.scheme.specs.Store.{table_c, sizes_of, cut}
use Rattle.scheme.specs.Reading.{limit, Reading, damaged, count_of, reading}
use Rattle.scheme.specs.Reading.Reading.{counter, damage}
use Rattle.scheme.specs.Find.{share_reading}
use Rattle.scheme.specs.RowsRead.{reading_rows}
use Rattle.scheme.specs.Count.{share_rows}
use Rattle.scheme.proofs.RowsRead.{reading_rows_most}
use Rattle.suite.specs.Program.{program}
use Rattle.format.specs.Tags.{Prepared, numbered_by}
use Rattle.counter.specs.Outcome.{share_read, share_told, share_looked}
use Rattle.lookups.specs.declared.Lookup.TheVariants.{Walk}
use Rattle.counter.proofs.Readings.{rows_counter}
use Rattle.format.proofs.Tags.{share_is}

-- the readings of the first u shares: none is damage, and the sum of their counts
pub record Summed (f : ℕ → Reading) (u n : ℕ) : Type 0 where
  pub sound : any_of (λ u. damaged (f u)) (below u) ≡ false
  pub total : n ≡ sum (map (λ u. count_of (f u)) (below u))
  pub small : n ≤ limit * u

module _ (f : ℕ → Reading) where
  pub summed_none : Summed f 0 0
  summed_none = record { sound = refl; total = refl; small = omega arith }

  pub summed_more : (u n b start k x : ℕ) → Summed f u n → counter b start k x ≡ f u → x ≤ limit → Summed f (u + 1) (n + x)
  summed_more u n b start k x s e l =
      let t = s.total in
      let m = s.small in
      let c : x ≡ count_of (f u) = ap count_of e in
      rw (add-one u) (record {
        sound = none_next (λ u. damaged (f u)) u s.sound (sym (ap damaged e));
        total = omega (arith, sum_next (λ u. count_of (f u)) u);
        small = omega arith;
      })

  pub summed_damage : (u p : ℕ) → u ≤ p → damage ≡ f u → any_of (λ u. damaged (f u)) (up_to p) ≡ true
  summed_damage u p h e = rw (up_to-below p) (any_below (λ u. damaged (f u)) u (p + 1) (omega arith) (sym (ap damaged e)))

  pub summed_all : (p n : ℕ) → Summed f (p + 1) n → (any_of (λ u. damaged (f u)) (up_to p) ≡ false) × (n ≡ sum (map (λ u. count_of (f u)) (up_to p)))
  summed_all p n s = rw (up_to-below p) (s.sound, s.total)

-- the reading of a share, from the prepared F(KC, x) and table C
pub share_read_lem : (clx : Keyed) (key before : List ℕ) (c : ℕ) (t : Table) → Prepared clx key → c ≡ (sizes_of before).c → t ≡ (cut before).table table_c
    → share_read clx c t ≡ share_reading program before key
unfolding share_read share_reading
share_read_lem clx key before c t p e f = λ j u. reading program (e j) (share_is clx key u p j) (f j)

pub share_looked_lem : (clx : Keyed) (key before : List ℕ) (c : ℕ) (t : Table) → Prepared clx key → c ≡ (sizes_of before).c → t ≡ (cut before).table table_c
    → share_looked clx c t ≡ share_rows program before key
unfolding share_looked share_rows
share_looked_lem clx key before c t p e f = λ j u. reading_rows program (e j) (share_is clx key u p j) (f j)

-- what a walk tells of a share that is no damage
pub share_told_lem : (clx : Keyed) (c : ℕ) (t : Table) (u b start k n : ℕ) → counter b start k n ≡ share_read clx c t u → share_told Walk clx c t u ≡ share_looked clx c t u
unfolding share_read share_told share_looked
share_told_lem clx c t u b start k n e = sym (rows_counter c (numbered_by clx u) t Walk b start k n (reading_rows program c (numbered_by clx u) t) e refl)

-- it fits
pub share_small : (clx : Keyed) (c : ℕ) (t : Table) → c ≤ 4096 → length t ≤ 4096 → (u : ℕ) → share_looked clx c t u ≤ 33554432
unfolding share_looked
share_small clx c t h l u =
    omega (arith, reading_rows_most program c (numbered_by clx u) t, rows_counted t, mul-le-mul_right (length (used_rows t)) h)
