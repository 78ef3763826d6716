-- Document 01, "Reading a counter".
use Rattle.std.specs.Prelude.{ℕ, zero, suc, ◌+◌, Bool, true, false, cond, not, ◌||◌, List, ltb, eqb, take, drop}
use Rattle.std.proofs.Math.Option.{Option, none, some}
use Rattle.table.specs.Table.{Table, lookup, holds}
use Rattle.scheme.specs.Suite.{Suite, value_of}
use Rattle.scheme.specs.Store.{counter_tag, anchor_tag, plain_in}

-- 4,294,967,295 [01:RS6 RS7]
abbrev pub limit : ℕ
limit = 4294967295

-- the two numbers in a row of C
pub record Numbers : Type 0 where
  pub a : ℕ
  pub n : ℕ

-- a counter, by B, Start, k and the count, or damage [01:RC5]
pub data Reading : Type 0 where
  damage : Reading
  counter : ℕ → ℕ → ℕ → ℕ → Reading

abbrev pub damaged : Reading → Bool
damaged damage = true
damaged (counter B start k n) = false

abbrev pub count_of : Reading → ℕ
count_of damage = 0
count_of (counter B start k n) = n

-- the position, Start + k
abbrev pub position_of : Reading → ℕ
position_of damage = 0
position_of (counter B start k n) = start + k

-- the greatest k up to a bound such that i + 1 to i + k are all held
abbrev pub walk : (ℕ → Bool) → ℕ → ℕ → ℕ
walk held zero i = zero
walk held (suc bound) i = cond (held (suc i)) (suc (walk held bound (suc i))) zero

-- the numbers in a row of C found by a lookup
unfoldable pub numbers_at : Suite → List ℕ → Option (List ℕ) → Numbers
numbers_at suite cl none = record { a = 0; n = 0 }
numbers_at suite cl (some b) = record { a = value_of (take 8 (plain_in suite cl b)); n = value_of (drop 8 (plain_in suite cl b)) }

module _ (suite : Suite) (c : ℕ) (cl : List ℕ) (t : Table) where
  -- B: the greatest number up to c such that anchors 1 to B are all held [01:RC1]
  unfoldable pub anchors_held : ℕ
  anchors_held = walk (λ b. holds (anchor_tag suite cl b) t) c 0

  -- the numbers of anchor B, 0 and 0 if B = 0; Start is the first [01:RC2]
  unfoldable pub anchor_numbers : Numbers
  anchor_numbers = cond (eqb anchors_held 0) (record { a = 0; n = 0 }) (numbers_at suite cl (lookup (anchor_tag suite cl anchors_held) t))

  unfoldable pub start_of : ℕ
  start_of = anchor_numbers.a

  -- k: the greatest number up to c such that counters Start + 1 to Start + k are all held [01:RC3]
  unfoldable pub counters_held : ℕ
  counters_held = walk (λ i. holds (counter_tag suite cl i) t) c start_of

  -- the numbers of counter Start + k if k > 0, else 0 and the count of anchor B, else 0 and 0 [01:RC4]
  unfoldable pub counter_numbers : Numbers
  counter_numbers =
      cond (eqb counters_held 0) (record { a = 0; n = anchor_numbers.n }) (numbers_at suite cl (lookup (counter_tag suite cl (start_of + counters_held)) t))

  -- damage: the first number of counter Start + k isn't 0, or its count, or a number of anchor B, is above the limit [01:RS6 RC6]
  unfoldable pub is_damage : Bool
  is_damage = ltb limit anchor_numbers.a || (ltb limit anchor_numbers.n || (not (eqb counter_numbers.a 0) || ltb limit counter_numbers.n))

  -- the reading, by this walk alone and not by the source's [01:SC3 RC5 RC7]
  unfoldable pub reading : Reading
  reading = cond is_damage damage (counter anchors_held start_of counters_held counter_numbers.n)
