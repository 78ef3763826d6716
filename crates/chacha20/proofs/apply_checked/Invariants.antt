-- `chacha20::apply_checked` meets its contract. The invariant: the text up to `at` is done, and the rest, XORed with the stream from the
-- state's counter on, makes the text that is asked.
use Prim.Native.Nat.{◌-◌, ◌≤◌}
use mathlib.Core.Path.{◌≡◌}
use mathlib.Core.List.{◌++◌}
use lib.ListN.{length, get_or, take, drop}
use Rattle.chacha20_block.specs.Rounds.{words}
use Rattle.chacha20_block.specs.Block.{initial_state}
use Rattle.chacha20.specs.Cipher.{stream, xored, blocks_for, E}
use Rattle.chacha20.proofs.apply_checked.Given as goal

abbrev pub invariant-loop-at : goal.invariant-loop-at
invariant-loop-at l = (length l.text ≡ length l.initial.text) × (l.at ≤ length l.text) × (words l.s ≡ initial_state l.key (get_or (words l.s) 12 0) l.nonce)
    × (take l.at l.text ++ xored (drop l.at l.text) (stream (blocks_for (length l.initial.text - l.at)) l.key (get_or (words l.s) 12 0) l.nonce) ≡ E l.key l.nonce l.initial.text)

abbrev pub decreases-loop-at : goal.decreases-loop-at
decreases-loop-at l = length l.initial.text - l.at
