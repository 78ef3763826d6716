-- The treatment of one CL (document 01, "Operations", compaction), by its reading: what was done, and table C after it.
use Rattle.std.specs.Prelude.{ℕ, zero, suc, ◌≤◌, ◌<◌, ◌≡◌, List, length, take}
use Rattle.table.specs.Table.{Table}
use Rattle.scheme.specs.Reading.{Reading, reading}
use Rattle.scheme.specs.Reading.Reading.{counter, damage}
use Rattle.scheme.specs.Compaction.{anchored_table, held_places}
use Rattle.suite.specs.Program.{program}
use Rattle.counter.specs.declared.Counter.{Counter}
use Rattle.treatment.specs.declared.Treated.{Treated}
use Rattle.treatment.specs.declared.Treated.TheVariants.{Damage, Skipped, Anchored}

-- what a reading of table C gave, with k > 0, and the places of the counters that it held
pub record Noted (c : ℕ) (cl : List ℕ) (t : Table) (z : Counter) (places : List ℕ) : Type 0 where
  pub read : reading program c cl t ≡ counter z.b.0 z.start.0 z.k z.count
  pub some : 0 < z.k
  pub long : z.k ≤ length places
  pub held : take z.k places ≡ held_places program cl t z.start.0 z.k

-- damage stops a compaction [01:RS13]; with k = 0 nothing is done, else k counters are freed [01:OP11]
abbrev pub done_by : Reading → Treated
done_by damage = Damage
done_by (counter B start zero n) = Skipped
done_by (counter B start (suc k) n) = Anchored (suc k)

-- damage and k = 0 leave the table; else the counters are freed and anchor B + 1 is written under the nonce [01:OP11 RS13]
abbrev pub table_by : List ℕ → List ℕ → Table → Reading → Table
table_by cl nonce t damage = t
table_by cl nonce t (counter B start zero n) = t
table_by cl nonce t (counter B start (suc k) n) = anchored_table program cl nonce t B start (suc k) n
