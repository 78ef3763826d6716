-- What a reading's enum stands for (document 01, "Reading a counter").
use Rattle.std.specs.Prelude.{ℕ, cond, List}
use Rattle.table.specs.Table.{Table}
use Rattle.scheme.specs.Store.{counter_tag}
use Rattle.scheme.specs.Reading.{Reading as SchemeReading, anchor_numbers, start_of, counters_held, is_damage, reading}
use Rattle.scheme.specs.Reading.Reading.{counter, damage}
use Rattle.scheme.specs.RowsRead.{reading_rows}
use Rattle.suite.specs.Program.{program}
use Rattle.lookups.specs.Walks.{noted, tallied_by}
use Rattle.hmac.specs.declared.Keyed.{Keyed}
use Rattle.format.specs.Tags.{numbered_by}
use Rattle.numbers.specs.Numbers.{anchor_bad}
use Rattle.lookups.specs.declared.Lookup.{Lookup}
use Rattle.counter.specs.declared.Reading.{Reading}
use Rattle.counter.specs.declared.Reading.TheVariants.{Counter, Damage}

-- the reading of a share, from the prepared F(KC, x) [01:KT6 RC5]
unfoldable pub share_read : Keyed → ℕ → Table → ℕ → SchemeReading
share_read clx c t u = reading program c (numbered_by clx u) t

-- B, Start, k and the count, or damage [01:RC5 FM14]
abbrev pub reading_of : Reading → SchemeReading
reading_of (Counter c) = counter c.b.0 c.start.0 c.k c.count
reading_of Damage = damage

-- a list of places after a reading: the places of the counters held stand over its start, where anchor B let them be walked
unfoldable pub places_noted : ℕ → List ℕ → Table → List ℕ → List ℕ
places_noted c cl t old =
    cond (anchor_bad (anchor_numbers program c cl t)) old (noted (counter_tag program cl) t (start_of program c cl t) (counters_held program c cl t) old)

-- the tally of a reading; damage has none
abbrev pub rows_in : Reading → ℕ
rows_in (Counter c) = c.rows
rows_in Damage = 0

unfoldable pub rows_told : Lookup → ℕ → List ℕ → Table → ℕ
rows_told by c cl t = cond (is_damage program c cl t) 0 (tallied_by by (reading_rows program c cl t))

unfoldable pub share_told : Lookup → Keyed → ℕ → Table → ℕ → ℕ
share_told by clx c t u = rows_told by c (numbered_by clx u) t

-- the rows looked at for a share, from the prepared F(KC, x) [02:W3.8]
unfoldable pub share_looked : Keyed → ℕ → Table → ℕ → ℕ
share_looked clx c t u = reading_rows program c (numbered_by clx u) t
