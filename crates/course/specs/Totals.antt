-- What the treatment of one CL adds to the numbers of a compaction (document 01, "Operations").
use Rattle.std.specs.Prelude.{ℕ, ◌+◌, Bool, true, false}
use Rattle.treatment.specs.declared.Treated.{Treated}
use Rattle.treatment.specs.declared.Treated.TheVariants.{Damage, Skipped, Anchored}
use Rattle.answer.specs.declared.Tally.{Tally}

-- whether damage stops the compaction [01:RS13]
abbrev pub stops : Treated → Bool
stops Damage = true
stops Skipped = false
stops (Anchored k) = false

-- anchors written and counters freed [01:OP13]
abbrev pub anchors_in : Treated → ℕ
anchors_in Damage = 0
anchors_in Skipped = 0
anchors_in (Anchored k) = 1

abbrev pub counters_in : Treated → ℕ
counters_in Damage = 0
counters_in Skipped = 0
counters_in (Anchored k) = k

abbrev pub totals_after : Tally → Treated → Tally
totals_after t r = record { anchors = t.anchors + anchors_in r; counters = t.counters + counters_in r }
