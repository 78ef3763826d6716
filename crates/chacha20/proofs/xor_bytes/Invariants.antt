-- The first i bytes are done, and the others, XORed with what is left of the stream, make the text that is asked.
use Rattle.chacha20.specs.Cipher.{xored}
use Rattle.std.proofs.Common.{◌≡◌, ◌++◌, length, take, drop}
use Rattle.chacha20.proofs.xor_bytes.Given as goal

abbrev pub invariant-loop-i : goal.invariant-loop-i
invariant-loop-i l = (length l.text ≡ length l.initial.text)
    × (take l.i l.text ++ xored (drop l.i l.text) (drop l.i l.ks) ≡ xored l.initial.text l.ks)
