-- The double rounds that are left lead to the same state.
use Rattle.std.proofs.Common.{◌≡◌, ◌-◌}
use Rattle.chacha20_block.specs.Rounds.{words, double_rounds}
use Rattle.chacha20_block.proofs.rounds.Given as goal

abbrev pub invariant-loop : goal.invariant-loop
invariant-loop l = double_rounds (10 - l.counter) (words l.s) ≡ double_rounds 10 (words l.initial.s)
