-- Examples of bytes (document 01, "Keys and tokens", "Store", "Operations"): every key, token, tag and row for every suite, with each
-- number's bytes written out. The claim sees neither the constants nor the order of parts that making and reading share.
use Rattle.std.specs.Prelude.{ℕ, List, [], ◌∷◌, ◌++◌}
use Rattle.table.specs.Lists.{flat}
use Rattle.scheme.specs.Suite.{Suite, number8, value_of}
use Rattle.scheme.specs.Labels.{Field}
use Rattle.scheme.specs.Keys.{KM, KC, KS, MT, ME, CL, CT, CE, RL, insert_token, find_token, count_token, compaction_token, mark_token, part_token, token_p, token_mt, token_me, token_cl, token_log, token_rl, find_mt, find_me, find_cl, part_find, part_rl}
use Rattle.scheme.specs.Store.{Sizes, table_m, table_v, table_c, table_s, table_r, header_of, sizes_of, start_of, length_for, cut, fresh, make, entry_tag, entry_row, reverse_row, counter_tag, anchor_tag, counter_row, anchor_row, id_in, plain_in, cl_in, log_row, reverse_id, reverse_tag, r_mark, label_row, label_id, label_nonce, label_mark}
use Rattle.scheme.specs.Layout.{span_of}
use Rattle.scheme.specs.Erase.{erase}
use Rattle.scheme.specs.Insert.{insert}
use Rattle.scheme.specs.Order.{order}
use Rattle.scheme.specs.Example.{Equation, ◌is◌, Case, ◌gives◌, field_of, zeros, places, eight, number}

-- the field of L2, and its label x
abbrev pub field : Field
field = field_of (0x61 ∷ 0x62 ∷ []) (0x63 ∷ [])

abbrev pub x : List ℕ
x = 0x02 ∷ 0x61 ∷ 0x62 ∷ 0x63 ∷ []

-- p, m, c, s and r
abbrev pub sizes : ℕ → ℕ → ℕ → ℕ → ℕ → Sizes
sizes p m c s r = record { p = p; m = m; c = c; s = s; r = r }

-- numbers [01:KF6]
abbrev pub number_bytes : List Equation
number_bytes =
    (number8 0 is eight 0)
    ∷ (number8 255 is eight 255)
    ∷ (number8 258 is (0 ∷ 0 ∷ 0 ∷ 0 ∷ 0 ∷ 0 ∷ 1 ∷ 2 ∷ []))
    ∷ (number8 0x0102030405060708 is places 1 8)
    ∷ ((value_of (places 1 8) ∷ []) is (0x0102030405060708 ∷ []))
    ∷ []

module _ (suite : Suite) (k l nonce id : List ℕ) where
  open suite use {F, E}

  -- with master key k, label x and share 5: KM, KS, F(F(KM, 1), x), F(F(KM, 2), x), F(KC, x), and CL [01:KT2 KT4 KT5 KT6]
  abbrev km : List ℕ
  km = F k (eight 1)

  abbrev ks : List ℕ
  ks = F k (eight 3)

  abbrev mtx : List ℕ
  mtx = F (F km (eight 1)) x

  abbrev mex : List ℕ
  mex = F (F km (eight 2)) x

  abbrev clx : List ℕ
  clx = F (F k (eight 2)) x

  abbrev cl : List ℕ
  cl = F clx (eight 5)

  abbrev rl : List ℕ
  rl = F (F k (eight 4)) x

  abbrev pub key_bytes : List Equation
  key_bytes =
      -- KM, KC, KS = F(K, 1), F(K, 2), F(K, 3) [01:KT2]
      (KM suite k is F k (eight 1))
      ∷ (KC suite k is F k (eight 2))
      ∷ (KS suite k is F k (eight 3))
      -- MT = F(F(F(KM, 1), x), u) and ME = F(F(F(KM, 2), x), u) [01:KT4 KT5]
      ∷ (MT suite k field 5 is F (F (F km (eight 1)) x) (eight 5))
      ∷ (ME suite k field 5 is F (F (F km (eight 2)) x) (eight 5))
      -- CL = F(F(KC, x), u), CT = F(CL, 1), CE = F(CL, 2) [01:KT6]
      ∷ (CL suite k field 5 is F (F (F k (eight 2)) x) (eight 5))
      ∷ (CT suite k is F k (eight 1))
      ∷ (CE suite k is F k (eight 2))
      -- RL = F(F(K, 4), x) [02:W4.4]
      ∷ (RL suite k field is F (F k (eight 4)) x)
      -- insert token: p (here 9), MT, ME, CL, a nonce n, E(KS, n, CL), RL [01:KT7] [02:W4.9]
      ∷ (insert_token suite k field 9 5 nonce is (9 ∷ F mtx (eight 5) ++ (F mex (eight 5) ++ (cl ++ (nonce ++ (E ks nonce cl ++ rl))))))
      -- find token: F(F(KM, 1), x), F(F(KM, 2), x), F(KC, x) [01:KT8]
      ∷ (find_token suite k field is (mtx ++ (mex ++ clx)))
      -- count token: F(KC, x); compaction token: KS [01:KT9 KT10 KT11]
      ∷ (count_token suite k field is clx)
      ∷ (compaction_token suite k is ks)
      -- RL alone, and a find token with RL [02:W4.16 W4.18]
      ∷ (mark_token suite k field is rl)
      ∷ (part_token suite k field is ((mtx ++ (mex ++ clx)) ++ rl))
      -- the parts of an insert token of 173 bytes, of a find token of 96, and of a part of 128 [01:KT7 KT8] [02:W4.9 W4.10 W4.18]
      ∷ ((token_p (places 7 173) ∷ []) is (7 ∷ []))
      ∷ (token_mt (places 0 173) is places 1 32)
      ∷ (token_me (places 0 173) is places 33 32)
      ∷ (token_cl (places 0 173) is places 65 32)
      ∷ (token_log (places 0 173) is places 97 44)
      ∷ (token_rl (places 0 173) is places 141 32)
      ∷ (find_mt (places 0 96) is places 0 32)
      ∷ (find_me (places 0 96) is places 32 32)
      ∷ (find_cl (places 0 96) is places 64 32)
      ∷ (part_find (places 0 128) is places 0 96)
      ∷ (part_rl (places 0 128) is places 96 32)
      ∷ []

  abbrev pub row_bytes : List Equation
  row_bytes =
      -- M: mark, tag F(MT, address), nonce, E(ME, nonce, id); MT is k and ME is l [01:ST6]
      (entry_tag suite k 258 is F k (0 ∷ 0 ∷ 0 ∷ 0 ∷ 0 ∷ 0 ∷ 1 ∷ 2 ∷ []))
      ∷ (entry_row suite k l 7 nonce id is (1 ∷ F k (eight 7) ++ (nonce ++ E l nonce id)))
      -- V: mark, id, that M row's tag [01:ST8]
      ∷ (reverse_row suite k 7 id is (1 ∷ id ++ F k (eight 7)))
      -- C: mark, tag F(CT, byte 1 then a), nonce, number 0 and the count under CE; CL is k [01:ST9 ST10]
      ∷ (counter_tag suite k 258 is F (F k (eight 1)) (1 ∷ 0 ∷ 0 ∷ 0 ∷ 0 ∷ 0 ∷ 0 ∷ 1 ∷ 2 ∷ []))
      ∷ (counter_row suite k 7 nonce 9 is (1 ∷ F (F k (eight 1)) (1 ∷ eight 7) ++ (nonce ++ E (F k (eight 2)) nonce (eight 0 ++ eight 9))))
      -- C: mark, tag F(CT, byte 2 then b), nonce, position and count under CE [01:ST9 ST11]
      ∷ (anchor_tag suite k 258 is F (F k (eight 1)) (2 ∷ 0 ∷ 0 ∷ 0 ∷ 0 ∷ 0 ∷ 0 ∷ 1 ∷ 2 ∷ []))
      ∷ (anchor_row suite k 7 nonce 8 9 is (1 ∷ F (F k (eight 1)) (2 ∷ eight 7) ++ (nonce ++ E (F k (eight 2)) nonce (eight 8 ++ eight 9))))
      -- S: mark, then the token's nonce and E(KS, nonce, CL) [01:ST12]
      ∷ (log_row (nonce ++ E k nonce l) is (1 ∷ nonce ++ E k nonce l))
      -- R: mark, id, nonce, F(RL, nonce then id); RL is k [02:W4.3]
      ∷ (r_mark suite k nonce id is F k (nonce ++ id))
      ∷ (label_row suite k nonce id is (1 ∷ id ++ (nonce ++ F k (nonce ++ id))))
      -- what is read of a row after its mark: 32 bytes of tag, 12 of nonce and 16 of text in M and C [01:ST6 ST7 ST9]
      ∷ (id_in suite k (places 1 60) is E k (places 33 12) (places 45 16))
      ∷ (plain_in suite k (places 1 60) is E (F k (eight 2)) (places 33 12) (places 45 16))
      -- 16 bytes of id and 32 of tag in V, 12 of nonce and 32 of text in S [01:ST8 ST12]
      ∷ (reverse_id (places 1 48) is places 1 16)
      ∷ (reverse_tag (places 1 48) is places 17 32)
      ∷ (cl_in suite k (places 1 44) is E k (places 1 12) (places 13 32))
      -- 16 bytes of id, 12 of nonce and 32 of R mark in R [02:W4.3]
      ∷ (label_id (places 1 60) is places 1 16)
      ∷ (label_nonce (places 1 60) is places 17 12)
      ∷ (label_mark (places 1 60) is places 29 32)
      ∷ []

-- ---- the store

-- p = 0 and m = c = s = r = 1; every byte after the header is its place
abbrev pub numbered : List ℕ
numbered = 2 ∷ 0 ∷ 0 ∷ 1 ∷ 0 ∷ 1 ∷ 0 ∷ 1 ∷ 0 ∷ 1 ∷ places 10 277

abbrev pub size_numbers : Sizes → List ℕ
size_numbers z = z.p ∷ z.m ∷ z.c ∷ z.s ∷ z.r ∷ []

abbrev pub starts : Sizes → List ℕ
starts z = start_of z table_m ∷ start_of z table_v ∷ start_of z table_c ∷ start_of z table_s ∷ start_of z table_r ∷ length_for z ∷ []

abbrev pub ends : Sizes → List ℕ
ends z = (span_of z table_m).end ∷ (span_of z table_v).end ∷ (span_of z table_c).end ∷ (span_of z table_s).end ∷ (span_of z table_r).end ∷ []

abbrev pub store_bytes : List Equation
store_bytes =
    -- the header: version 2, p, then m, c, s, r, two bytes each, big-endian [01:ST2] [02:W4.5 W4.7]
    (header_of (sizes 9 258 772 1286 1800) is (2 ∷ 9 ∷ 1 ∷ 2 ∷ 3 ∷ 4 ∷ 5 ∷ 6 ∷ 7 ∷ 8 ∷ []))
    ∷ (header_of (sizes 0 255 256 4096 1) is (2 ∷ 0 ∷ 0 ∷ 255 ∷ 1 ∷ 0 ∷ 16 ∷ 0 ∷ 0 ∷ 1 ∷ []))
    ∷ (header_of (sizes 15 256 4096 255 4096) is (2 ∷ 15 ∷ 1 ∷ 0 ∷ 16 ∷ 0 ∷ 0 ∷ 255 ∷ 16 ∷ 0 ∷ []))
    ∷ (header_of (sizes 1 4096 255 256 255) is (2 ∷ 1 ∷ 16 ∷ 0 ∷ 0 ∷ 255 ∷ 1 ∷ 0 ∷ 0 ∷ 255 ∷ []))
    ∷ (size_numbers (sizes_of (2 ∷ 9 ∷ 1 ∷ 2 ∷ 3 ∷ 4 ∷ 5 ∷ 6 ∷ 7 ∷ 8 ∷ [])) is (9 ∷ 258 ∷ 772 ∷ 1286 ∷ 1800 ∷ []))
    -- m rows of M, m of V, c of C, s of S, r of R, from byte 10 on, and where they end [01:ST3] [02:W4.1 W4.8]
    ∷ (starts (sizes 0 1 1 1 1) is (10 ∷ 71 ∷ 120 ∷ 181 ∷ 226 ∷ 287 ∷ []))
    ∷ (starts (sizes 1 4 4 4 4) is (10 ∷ 254 ∷ 450 ∷ 694 ∷ 874 ∷ 1118 ∷ []))
    ∷ (ends (sizes 1 4 4 4 4) is (254 ∷ 450 ∷ 694 ∷ 874 ∷ 1118 ∷ []))
    ∷ (starts (sizes 15 10 100 1000 2) is (10 ∷ 620 ∷ 1110 ∷ 7210 ∷ 52210 ∷ 52332 ∷ []))
    -- each table is the part that holds it [01:ST4]
    ∷ (flat ((cut numbered).table table_m) is places 10 61)
    ∷ (flat ((cut numbered).table table_v) is places 71 49)
    ∷ (flat ((cut numbered).table table_c) is places 120 61)
    ∷ (flat ((cut numbered).table table_s) is places 181 45)
    ∷ (flat ((cut numbered).table table_r) is places 226 61)
    -- making a store writes the header and zeroes the rest; refused, it writes nothing [01:ST16 RS13]
    ∷ (fresh (sizes 0 1 1 1 1) is (2 ∷ 0 ∷ 0 ∷ 1 ∷ 0 ∷ 1 ∷ 0 ∷ 1 ∷ 0 ∷ 1 ∷ zeros 277))
    ∷ ((make (sizes 15 1 2 3 4) (places 0 621)).store is (2 ∷ 15 ∷ 0 ∷ 1 ∷ 0 ∷ 2 ∷ 0 ∷ 3 ∷ 0 ∷ 4 ∷ zeros 611))
    ∷ ((make (sizes 15 1 2 3 4) (places 0 620)).store is places 0 620)
    ∷ ((make (sizes 16 1 2 3 4) (places 0 621)).store is places 0 621)
    ∷ []

-- ---- an insert and an erase

-- p = 0, m = 2, c = s = 1, r = 2
abbrev pub room_for_two : List ℕ
room_for_two = 2 ∷ 0 ∷ 0 ∷ 2 ∷ 0 ∷ 1 ∷ 0 ∷ 1 ∷ 0 ∷ 2 ∷ []

-- what an insert writes with a token of which p is 0 and the other bytes are their places: MT 1 to 32, ME 33 to 64, CL 65 to 96, then
-- the 44 bytes of an S row, then RL 141 to 172. A row of M and of V, by address, the first byte of the nonce and of the id; a row of C, by position, the first
-- byte of the nonce and the count [01:OP1 OP2]; a row of R, by the first byte of the nonce and of the id [02:W4.13]
module _ (suite : Suite) where
  open suite use {F, E}

  abbrev pub new_m : ℕ → ℕ → ℕ → List ℕ
  new_m address nonce id = 1 ∷ F (places 1 32) (eight address) ++ (places nonce 12 ++ E (places 33 32) (places nonce 12) (places id 16))

  abbrev pub new_v : ℕ → ℕ → List ℕ
  new_v address id = 1 ∷ places id 16 ++ F (places 1 32) (eight address)

  abbrev pub new_c : ℕ → ℕ → ℕ → List ℕ
  new_c position nonce n =
      1 ∷ F (F (places 65 32) (eight 1)) (1 ∷ eight position) ++ (places nonce 12 ++ E (F (places 65 32) (eight 2)) (places nonce 12) (eight 0 ++ eight n))

  abbrev pub new_s : List ℕ
  new_s = 1 ∷ places 97 44

  abbrev pub new_r : ℕ → ℕ → List ℕ
  new_r nonce id = 1 ∷ places id 16 ++ (places nonce 12 ++ F (places 141 32) (places nonce 12 ++ places id 16))

  -- ids 1 to 16 and 17 to 32; nonces 1 to 12 and 13 to 24 for them, 25 to 36 for the counter, 37 to 48 and 49 to 60 for R [02:W4.11 W4.12].
  -- In the suite that computes F grows with the number, so that address 1 comes first
  abbrev pub insert_bytes : List Equation
  insert_bytes =
      ((insert suite (room_for_two ++ zeros 448) (places 1 32) (places 1 60) (places 0 173)).store is
      (room_for_two
      ++ (flat (new_m 1 1 1 ∷ new_m 2 13 17 ∷ [])
      ++ (flat (new_v 1 1 ∷ new_v 2 17 ∷ [])
      ++ (flat (new_c 1 25 2 ∷ [])
      ++ (flat (new_s ∷ [])
      ++ (flat (new_r 37 1 ∷ new_r 49 17 ∷ []) ++ [])))))))
      ∷ []

-- rows of M and V with a given tag
abbrev pub marked_m : ℕ → ℕ → List ℕ
marked_m mark tag = mark ∷ places tag 32 ++ places 5 28

abbrev pub marked_v : ℕ → ℕ → ℕ → List ℕ
marked_v mark id tag = mark ∷ places id 16 ++ places tag 32

abbrev pub marked_r : ℕ → ℕ → ℕ → List ℕ
marked_r mark id nonce = mark ∷ places id 16 ++ places nonce 44

-- the id's V rows are the second and the third, with tags that three M rows have [01:OP4 OP5 ST5 ST14]; of R the second and the third are the
-- id's [02:W4.14], the fourth is of an id that V has not; the rows left close up [02:W2.4]
abbrev pub store_of : List (List ℕ) → List (List ℕ) → List (List ℕ) → List ℕ
store_of entries reverses labels = 2 ∷ 0 ∷ 0 ∷ 5 ∷ 0 ∷ 1 ∷ 0 ∷ 1 ∷ 0 ∷ 4 ∷ flat entries ++ (flat reverses ++ (places 1 61 ++ (places 1 45 ++ flat labels)))

abbrev pub erasable_m : List (List ℕ)
erasable_m = marked_m 1 20 ∷ marked_m 1 20 ∷ marked_m 1 30 ∷ marked_m 1 40 ∷ zeros 61 ∷ []

abbrev pub erasable_v : List (List ℕ)
erasable_v = marked_v 1 8 40 ∷ marked_v 1 9 20 ∷ marked_v 1 9 30 ∷ zeros 49 ∷ zeros 49 ∷ []

abbrev pub before_erase : List ℕ
before_erase = store_of erasable_m erasable_v (marked_r 1 8 50 ∷ marked_r 1 9 40 ∷ marked_r 1 9 50 ∷ marked_r 1 10 40 ∷ [])

abbrev pub after_erase : List ℕ
after_erase =
    store_of (marked_m 1 40 ∷ zeros 61 ∷ zeros 61 ∷ zeros 61 ∷ zeros 61 ∷ []) (marked_v 1 8 40 ∷ zeros 49 ∷ zeros 49 ∷ zeros 49 ∷ zeros 49 ∷ [])
    (marked_r 1 8 50 ∷ marked_r 1 10 40 ∷ zeros 61 ∷ zeros 61 ∷ [])

-- the R row is freed where V has none
abbrev pub after_erase_r : List ℕ
after_erase_r = store_of erasable_m erasable_v (marked_r 1 8 50 ∷ marked_r 1 9 40 ∷ marked_r 1 9 50 ∷ zeros 61 ∷ [])

-- ---- a store put in form

-- in M a used row after a free one, in V equal rows and one that is less by its last byte, in C a free row with bytes, in S two rows that
-- differ first at a byte of 0x80 and of 0x7f, in R two rows the wrong way round [02:W2.6 W2.7]
abbrev pub before_order : List ℕ
before_order =
    2 ∷ 0 ∷ 0 ∷ 3 ∷ 0 ∷ 1 ∷ 0 ∷ 2 ∷ 0 ∷ 2 ∷ []
    ++ (marked_m 1 40 ++ (marked_m 0 10 ++ (marked_m 1 20
    ++ (marked_v 1 9 30 ++ (marked_v 1 9 30 ++ ((1 ∷ places 9 16 ++ (places 30 31 ++ (1 ∷ [])))
    ++ ((0 ∷ places 1 60)
    ++ ((1 ∷ places 5 10 ++ (0x80 ∷ zeros 33)) ++ ((1 ∷ places 5 10 ++ (0x7f ∷ places 9 33))
    ++ (marked_r 1 9 50 ++ marked_r 1 8 50))))))))))

abbrev pub after_order : List ℕ
after_order =
    2 ∷ 0 ∷ 0 ∷ 3 ∷ 0 ∷ 1 ∷ 0 ∷ 2 ∷ 0 ∷ 2 ∷ []
    ++ (marked_m 1 20 ++ (marked_m 1 40 ++ (zeros 61
    ++ ((1 ∷ places 9 16 ++ (places 30 31 ++ (1 ∷ []))) ++ (marked_v 1 9 30 ++ (marked_v 1 9 30
    ++ (zeros 61
    ++ ((1 ∷ places 5 10 ++ (0x7f ∷ places 9 33)) ++ ((1 ∷ places 5 10 ++ (0x80 ∷ zeros 33))
    ++ (marked_r 1 8 50 ++ marked_r 1 9 50))))))))))

abbrev pub order_bytes : List Equation
order_bytes =
    ((order before_order).store is after_order)
    ∷ ((order after_order).store is after_order)
    ∷ ((order (3 ∷ before_order)).store is (3 ∷ before_order))
    ∷ []

abbrev pub erase_bytes : List Equation
erase_bytes =
    ((erase before_erase (places 9 16)).store is after_erase)
    ∷ ((erase before_erase (places 10 16)).store is after_erase_r)
    ∷ ((erase before_erase (places 11 16)).store is before_erase)
    ∷ ((erase before_erase (places 9 15)).store is before_erase)
    ∷ []

abbrev pub erase_cases : List Case
erase_cases =
    ((erase before_erase (places 9 16)).answer gives number 2)
    ∷ ((erase before_erase (places 10 16)).answer gives number 0)
    ∷ ((order before_order).answer gives number 9)
    ∷ ((order after_order).answer gives number 9)
    ∷ []

abbrev pub byte_equations : Suite → List ℕ → List ℕ → List ℕ → List ℕ → List Equation
byte_equations suite k l nonce id =
    number_bytes ++ (key_bytes suite k l nonce id ++ (row_bytes suite k l nonce id ++ (store_bytes ++ (erase_bytes ++ order_bytes))))
