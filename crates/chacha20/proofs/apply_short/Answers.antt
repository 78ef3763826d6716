-- `chacha20::apply_short` meets its contract: a text of at most 64 bytes takes one block of the stream.
use mathlib.Core.Path.{sym, ap, ◌∙◌}
use mathlib.Core.List.{List}
use Prim.Native.Nat.{ℕ}
use native.Mathlib.Omega.{arith}
use Rattle.chacha20_block.specs.Block.{block}
use Rattle.chacha20.specs.Cipher.{xored}
use Rattle.chacha20.proofs.Stream.{one_block}
use Rattle.chacha20.proofs.apply_short.Goals as goal

pub returns : goal.returns
returns c =
    let a = c.args in
    c.xor_block.ensures
    ∙ ap (λ (b : List ℕ). xored a.text.now (block b)) c.first_state.ensures
    ∙ sym (one_block a.key.now a.nonce.now a.text.now (omega arith))
