-- The worked examples of RFC 8439 hold of the definitions: the quarter round (2.1.1) and the block function (2.3.2), each
-- computed. [01:KF2]
use Rattle.std.specs.Prelude.{◌≡◌, ℕ, List, [], ◌∷◌, refl}
use Rattle.chacha20_block.specs.Words.{rotl}
use Rattle.chacha20_block.specs.Quarter.{quarter_round, quarter_at}
use Rattle.chacha20_block.specs.Rounds.{columns, diagonals, double_rounds}
use Rattle.chacha20_block.specs.Block.{word_at, initial_state, sums, block_words}

pub quarter_example : quarter_round 0x1111_1111 0x0102_0304 0x9b8d_6f43 0x0123_4567
    ≡ 0xea2a_92f4 ∷ 0xcb1c_f8ce ∷ 0x4581_472e ∷ 0x5881_c4bb ∷ []
unfolding quarter_round rotl
quarter_example = refl

-- the key of this example and of the encryption's: the bytes 0 to 31
abbrev pub key : List ℕ
key =
    0x00 ∷ 0x01 ∷ 0x02 ∷ 0x03 ∷ 0x04 ∷ 0x05 ∷ 0x06 ∷ 0x07 ∷ 0x08 ∷ 0x09 ∷ 0x0a ∷ 0x0b ∷ 0x0c ∷ 0x0d ∷ 0x0e ∷ 0x0f ∷
    0x10 ∷ 0x11 ∷ 0x12 ∷ 0x13 ∷ 0x14 ∷ 0x15 ∷ 0x16 ∷ 0x17 ∷ 0x18 ∷ 0x19 ∷ 0x1a ∷ 0x1b ∷ 0x1c ∷ 0x1d ∷ 0x1e ∷ 0x1f ∷ []

pub block_example : block_words (initial_state key 1 (0 ∷ 0 ∷ 0 ∷ 9 ∷ 0 ∷ 0 ∷ 0 ∷ 0x4a ∷ 0 ∷ 0 ∷ 0 ∷ 0 ∷ [])) ≡
    0xe4e7_f110 ∷ 0x1559_3bd1 ∷ 0x1fdd_0f50 ∷ 0xc471_20a3 ∷ 0xc7f4_d1c7 ∷ 0x0368_c033 ∷ 0x9aaa_2204 ∷ 0x4e6c_d4c3 ∷
    0x4664_82d2 ∷ 0x09aa_9f07 ∷ 0x05d7_c214 ∷ 0xa202_8bd9 ∷ 0xd19c_12b5 ∷ 0xb94e_16de ∷ 0xe883_d0cb ∷ 0x4e3c_50a2 ∷ []
unfolding quarter_round rotl quarter_at columns diagonals double_rounds word_at initial_state sums block_words
block_example = refl
