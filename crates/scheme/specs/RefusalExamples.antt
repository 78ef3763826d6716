-- Examples of refusals (document 01, "Refusals from the input", "Refusals from the state"): each number of each call on both sides of its
-- limit, and where two conditions hold, the earlier one. The claim sees none of 1 to 8, which store and ledger share, nor 10, 11 and 13.
use Rattle.std.specs.Prelude.{ℕ, ◌+◌, List, [], ◌∷◌, ◌++◌, length, take, set}
use Rattle.table.specs.Lists.{flat}
use Rattle.answer.specs.Answer.{Answer, done, refused, without_rows}
use Rattle.answer.specs.Verdict.{verdict, answer_or}
use Rattle.scheme.specs.Suite.{Suite}
use Rattle.scheme.specs.Refusals.{insert_token_tests, field_token_tests, key_tests}
use Rattle.scheme.specs.Store.{make}
use Rattle.scheme.specs.Erase
use Rattle.scheme.specs.Find
use Rattle.scheme.specs.Count
use Rattle.scheme.specs.Count.{most_rows}
use Rattle.scheme.specs.Insert
use Rattle.scheme.specs.Compaction
use Rattle.scheme.specs.Order
use Rattle.scheme.specs.Example.{Equation, ◌is◌, Case, ◌gives◌, field_of, zeros, places, eight, accepted, number, by}

-- ---- making tokens, by the lengths of key, name and value, p, u and the length of the nonce

abbrev pub insert_making : ℕ → ℕ → ℕ → ℕ → ℕ → ℕ → Answer
insert_making key name value p u nonce =
    answer_or (verdict (insert_token_tests (zeros key) (field_of (zeros name) (zeros value)) p u (zeros nonce))) accepted

-- a find token or a count token
abbrev pub field_making : ℕ → ℕ → ℕ → Answer
field_making key name value = answer_or (verdict (field_token_tests (zeros key) (field_of (zeros name) (zeros value)))) accepted

abbrev pub compaction_making : ℕ → Answer
compaction_making key = answer_or (verdict (key_tests (zeros key))) accepted

abbrev pub making_cases : List Case
making_cases =
    -- 1: the key has 32 bytes [01:RI2]
    (insert_making 31 1 0 0 0 12 gives by 1)
    ∷ (insert_making 32 1 0 0 0 12 gives accepted)
    ∷ (insert_making 33 1 0 0 0 12 gives by 1)
    ∷ (insert_making 0 1 0 0 0 12 gives by 1)
    ∷ (field_making 31 1 0 gives by 1)
    ∷ (field_making 32 1 0 gives accepted)
    ∷ (field_making 33 1 0 gives by 1)
    ∷ (compaction_making 31 gives by 1)
    ∷ (compaction_making 32 gives accepted)
    ∷ (compaction_making 33 gives by 1)
    -- 2: a name of 1 to 255 bytes, a value of 0 to 1,024 [01:RI3 LB1]
    ∷ (insert_making 32 0 0 0 0 12 gives by 2)
    ∷ (insert_making 32 255 0 0 0 12 gives accepted)
    ∷ (insert_making 32 256 0 0 0 12 gives by 2)
    ∷ (insert_making 32 1 1024 0 0 12 gives accepted)
    ∷ (insert_making 32 1 1025 0 0 12 gives by 2)
    ∷ (field_making 32 0 0 gives by 2)
    ∷ (field_making 32 255 1024 gives accepted)
    ∷ (field_making 32 256 0 gives by 2)
    ∷ (field_making 32 1 1025 gives by 2)
    -- 3: p is at most 15 and u at most p [01:RI4 KT3]
    ∷ (insert_making 32 1 0 15 0 12 gives accepted)
    ∷ (insert_making 32 1 0 15 15 12 gives accepted)
    ∷ (insert_making 32 1 0 15 16 12 gives by 3)
    ∷ (insert_making 32 1 0 16 0 12 gives by 3)
    ∷ (insert_making 32 1 0 16 16 12 gives by 3)
    ∷ (insert_making 32 1 0 257 1 12 gives by 3)
    ∷ (insert_making 32 1 0 0 1 12 gives by 3)
    ∷ (insert_making 32 1 0 1 1 12 gives accepted)
    ∷ (insert_making 32 1 0 1 2 12 gives by 3)
    -- 4: the nonce has 12 bytes [01:RI5]
    ∷ (insert_making 32 1 0 0 0 11 gives by 4)
    ∷ (insert_making 32 1 0 0 0 13 gives by 4)
    ∷ (insert_making 32 1 0 0 0 0 gives by 4)
    -- in number order [01:RI1]
    ∷ (insert_making 31 0 0 16 0 11 gives by 1)
    ∷ (insert_making 32 0 0 16 0 11 gives by 2)
    ∷ (insert_making 32 1 1025 0 1 11 gives by 2)
    ∷ (insert_making 32 1 0 16 0 11 gives by 3)
    ∷ (insert_making 32 1 0 0 1 11 gives by 3)
    ∷ (field_making 33 256 0 gives by 1)
    ∷ []

-- ---- making a store, by p, m, c, s, r and the slice's length

abbrev pub making : ℕ → ℕ → ℕ → ℕ → ℕ → ℕ → Answer
making p m c s r slice = (make (record { p = p; m = m; c = c; s = s; r = r }) (places 0 slice)).answer

abbrev pub store_making_cases : List Case
store_making_cases =
    -- 8: the length is 10 + 110·m + 61·c + 45·s + 61·r exactly [01:RI9 ST3] [02:W4.8]
    (making 0 1 1 1 1 287 gives accepted)
    ∷ (making 0 1 1 1 1 286 gives by 8)
    ∷ (making 0 1 1 1 1 288 gives by 8)
    ∷ (making 1 4 4 4 4 1118 gives accepted)
    ∷ (making 1 4 4 4 4 0 gives by 8)
    ∷ (making 0 1 2 3 4 621 gives accepted)
    ∷ (making 0 1 1 1 1 224 gives by 8)
    -- 7: p is at most 15, and m, c, s and r are 1 to 4,096 [01:RI8 ST2] [02:W4.2]
    ∷ (making 15 1 1 1 1 287 gives accepted)
    ∷ (making 16 1 1 1 1 287 gives by 7)
    ∷ (making 0 0 1 1 1 177 gives by 7)
    ∷ (making 0 1 0 1 1 226 gives by 7)
    ∷ (making 0 1 1 0 1 242 gives by 7)
    ∷ (making 0 1 1 1 0 226 gives by 7)
    -- in number order: 7 before 8, so that the size in range is told by 8 [01:RI1]
    ∷ (making 0 4096 1 1 1 0 gives by 8)
    ∷ (making 0 4097 1 1 1 0 gives by 7)
    ∷ (making 0 1 4096 1 1 0 gives by 8)
    ∷ (making 0 1 4097 1 1 0 gives by 7)
    ∷ (making 0 1 1 4096 1 0 gives by 8)
    ∷ (making 0 1 1 4097 1 0 gives by 7)
    ∷ (making 0 1 1 1 4096 0 gives by 8)
    ∷ (making 0 1 1 1 4097 0 gives by 7)
    ∷ (making 16 1 1 1 1 0 gives by 7)
    ∷ []

-- ---- the calls on a store

-- 4,294,967,294 to 4,294,967,296 as 8 bytes
abbrev pub below_limit : List ℕ
below_limit = 0 ∷ 0 ∷ 0 ∷ 0 ∷ 255 ∷ 255 ∷ 255 ∷ 254 ∷ []

abbrev pub at_limit : List ℕ
at_limit = 0 ∷ 0 ∷ 0 ∷ 0 ∷ 255 ∷ 255 ∷ 255 ∷ 255 ∷ []

abbrev pub above_limit : List ℕ
above_limit = 0 ∷ 0 ∷ 0 ∷ 1 ∷ 0 ∷ 0 ∷ 0 ∷ 0 ∷ []

-- a store whose rows are all free, by the header's version, p, m, c, s, r below 256, and the bytes after the header
abbrev pub slice : ℕ → ℕ → ℕ → ℕ → ℕ → ℕ → ℕ → List ℕ
slice version p m c s r n = version ∷ p ∷ 0 ∷ m ∷ 0 ∷ c ∷ 0 ∷ s ∷ 0 ∷ r ∷ zeros n

-- p = 0 and m = c = s = r = 1: M's row begins at 10, V's at 71, C's at 120, S's at 181, R's at 226
abbrev pub one : List ℕ
one = slice 2 0 1 1 1 1 277

-- two rows in each: M's second row begins at 71, V's at 181, C's at 291, S's at 397, R's at 503
abbrev pub two : List ℕ
two = slice 2 0 2 2 2 2 554

-- with p, and these rows in C; m = s = r = 1
abbrev pub with_c : ℕ → ℕ → List (List ℕ) → List ℕ
with_c p c rows = 2 ∷ p ∷ 0 ∷ 1 ∷ 0 ∷ c ∷ 0 ∷ 1 ∷ 0 ∷ 1 ∷ zeros 110 ++ (flat rows ++ zeros 106)

-- m = c = r = 1 and two rows in S, both used, with these bytes after their marks
abbrev pub two_logs : List ℕ → List ℕ → List ℕ
two_logs a b = 2 ∷ 0 ∷ 0 ∷ 1 ∷ 0 ∷ 1 ∷ 0 ∷ 2 ∷ 0 ∷ 1 ∷ zeros 171 ++ ((1 ∷ a) ++ ((1 ∷ b) ++ zeros 61))

abbrev pub ordering : List ℕ → Answer
ordering store = (Order.order store).answer

abbrev pub erasing : List ℕ → ℕ → Answer
erasing store id = (Erase.erase store (zeros id)).answer

module _ (suite : Suite) where
  open suite use {F, E}

  -- a row of C under CL: byte 1 for a counter, 2 for an anchor, then its number; its two numbers as 8 bytes each [01:ST9 ST10 ST11]
  abbrev pub row_c : List ℕ → ℕ → List ℕ → List ℕ → List ℕ → List ℕ
  row_c cl kind i a n = 1 ∷ F (F cl (eight 1)) (kind ∷ i) ++ (zeros 12 ++ E (F cl (eight 2)) (zeros 12) (a ++ n))

  -- the token's CL is all zeros in the calls below
  abbrev pub counter_is : ℕ → List ℕ → List ℕ → List ℕ
  counter_is i a n = row_c (zeros 32) 1 (eight i) a n

  abbrev pub anchor_is : ℕ → List ℕ → List ℕ → List ℕ
  anchor_is i a n = row_c (zeros 32) 2 (eight i) a n

  -- insert, by the lengths of ids and nonces, the token's length after its first byte, and that byte
  abbrev pub inserting : List ℕ → ℕ → ℕ → ℕ → ℕ → Answer
  inserting store ids nonces token p = (Insert.insert suite store (zeros ids) (zeros nonces) (p ∷ zeros token)).answer

  -- of one id, in a store with these rows and a free one in C
  abbrev pub insert_over : List (List ℕ) → Answer
  insert_over rows = inserting (with_c 0 (length rows + 1) (rows ++ (zeros 61 ∷ []))) 16 36 172 0

  -- find and count, by the token's length; a find token's bytes are their places, and a count token is its third part. The rows that a count
  -- looked at have examples of their own
  abbrev pub finding : List ℕ → ℕ → ℕ → Answer
  finding store token output = (Find.find suite store (places 0 token) (zeros output)).answer

  abbrev pub counting : List ℕ → ℕ → Answer
  counting store token = without_rows (Count.count suite store (places 64 token)).answer

  abbrev pub tallying : List ℕ → Answer
  tallying store = (Count.count suite store (places 64 32)).answer

  abbrev pub compacting : List ℕ → ℕ → ℕ → Answer
  compacting store nonces token = (Compaction.compact suite store (zeros nonces) (zeros token)).answer

  -- 4 to 6 [01:RI5 RI6 RI7]
  abbrev pub input_cases : List Case
  input_cases =
      -- insert: 12 × (2 × ids + 1) nonce bytes, ids rounded down; 16 × 1 to 64 id bytes; a token of 173 bytes [02:W4.9 W4.11]
      (inserting one 16 36 172 0 gives number 1)
      ∷ (inserting one 16 35 172 0 gives by 4)
      ∷ (inserting one 16 37 172 0 gives by 4)
      ∷ (inserting one 16 24 172 0 gives by 4)
      ∷ (inserting one 16 60 172 0 gives by 4)
      ∷ (inserting one 0 12 172 0 gives by 5)
      ∷ (inserting one 15 12 172 0 gives by 5)
      ∷ (inserting one 17 36 172 0 gives by 5)
      ∷ (inserting one 31 36 172 0 gives by 5)
      ∷ (inserting (slice 2 0 64 1 1 64 11050) 1024 1548 172 0 gives number 64)
      ∷ (inserting one 1023 1524 172 0 gives by 5)
      ∷ (inserting one 1025 1548 172 0 gives by 5)
      ∷ (inserting one 1040 1572 172 0 gives by 5)
      ∷ (inserting one 16 36 171 0 gives by 6)
      ∷ (inserting one 16 36 173 0 gives by 6)
      -- in number order [01:RI1 RS1]
      ∷ (inserting one 0 0 171 0 gives by 4)
      ∷ (inserting one 0 12 171 0 gives by 5)
      ∷ (inserting [] 16 36 171 0 gives by 6)
      -- erase: 16 id bytes
      ∷ (erasing one 16 gives number 0)
      ∷ (erasing one 15 gives by 5)
      ∷ (erasing one 17 gives by 5)
      ∷ (erasing [] 15 gives by 5)
      -- find: a token of 96 bytes
      ∷ (finding one 96 0 gives number 0)
      ∷ (finding one 95 0 gives by 6)
      ∷ (finding one 97 0 gives by 6)
      ∷ (finding [] 95 0 gives by 6)
      -- count: a token of 32 bytes
      ∷ (counting one 32 gives number 0)
      ∷ (counting one 31 gives by 6)
      ∷ (counting one 33 gives by 6)
      ∷ (counting [] 31 gives by 6)
      -- compaction: a multiple of 12 nonce bytes, a token of 32 bytes
      ∷ (compacting one 0 32 gives done (0 ∷ 0 ∷ []))
      ∷ (compacting one 12 32 gives done (0 ∷ 0 ∷ []))
      ∷ (compacting one 24 32 gives done (0 ∷ 0 ∷ []))
      ∷ (compacting one 11 32 gives by 4)
      ∷ (compacting one 13 32 gives by 4)
      ∷ (compacting one 0 31 gives by 6)
      ∷ (compacting one 0 33 gives by 6)
      ∷ (compacting [] 13 31 gives by 4)
      ∷ (compacting [] 0 31 gives by 6)
      ∷ []

  -- 10 by a header with r = 4,097, in a store of the formula's length
  abbrev pub many_rows : List Case
  many_rows = (counting (2 ∷ 0 ∷ 0 ∷ 1 ∷ 0 ∷ 1 ∷ 0 ∷ 1 ∷ 16 ∷ 1 ∷ zeros 250133) 32 gives by 10) ∷ []

  -- 10 and 11, in a count and then in every call [01:RS2 RS3]
  abbrev pub state_cases : List Case
  state_cases =
      -- 10: at least 10 bytes [02:W4.6]
      (counting [] 32 gives by 10)
      ∷ (counting (take 9 one) 32 gives by 10)
      ∷ (counting (take 10 one) 32 gives by 10)
      -- version 2, also where all else is as version 1 had it [02:W4.5 W4.6]
      ∷ (counting (slice 0 0 1 1 1 1 277) 32 gives by 10)
      ∷ (counting (slice 1 0 1 1 1 1 277) 32 gives by 10)
      ∷ (counting (slice 3 0 1 1 1 1 277) 32 gives by 10)
      ∷ (counting (1 ∷ 0 ∷ 0 ∷ 1 ∷ 0 ∷ 1 ∷ 0 ∷ 1 ∷ zeros 216) 32 gives by 10)
      -- p at most 15, m, c, s and r from 1 to 4,096; above it they are tried under 7, by the same test, and r in many_rows
      ∷ (counting (slice 2 15 1 1 1 1 277) 32 gives number 0)
      ∷ (counting (slice 2 16 1 1 1 1 277) 32 gives by 10)
      ∷ (counting (slice 2 0 0 1 1 1 167) 32 gives by 10)
      ∷ (counting (slice 2 0 1 0 1 1 216) 32 gives by 10)
      ∷ (counting (slice 2 0 1 1 0 1 232) 32 gives by 10)
      ∷ (counting (slice 2 0 1 1 1 0 216) 32 gives by 10)
      -- the length is the formula's
      ∷ (counting (slice 2 0 1 1 1 1 276) 32 gives by 10)
      ∷ (counting (slice 2 0 1 1 1 1 278) 32 gives by 10)
      ∷ (counting (slice 2 0 2 3 4 5 888) 32 gives number 0)
      ∷ (counting (slice 2 0 2 3 4 5 887) 32 gives by 10)
      -- 11: a mark of 0 or 1 in every row of every table
      ∷ (counting (set one 10 1) 32 gives number 0)
      ∷ (counting (set one 10 2) 32 gives by 11)
      ∷ (counting (set one 71 1) 32 gives number 0)
      ∷ (counting (set one 71 2) 32 gives by 11)
      ∷ (counting (set one 120 1) 32 gives number 0)
      ∷ (counting (set one 120 2) 32 gives by 11)
      ∷ (counting (set one 181 1) 32 gives number 0)
      ∷ (counting (set one 181 2) 32 gives by 11)
      ∷ (counting (set one 226 1) 32 gives number 0)
      ∷ (counting (set one 226 2) 32 gives by 11)
      ∷ (counting (set two 71 255) 32 gives by 11)
      ∷ (counting (set two 181 255) 32 gives by 11)
      ∷ (counting (set two 291 255) 32 gives by 11)
      ∷ (counting (set two 397 255) 32 gives by 11)
      ∷ (counting (set two 503 255) 32 gives by 11)
      -- in order, in every call [01:RS1]
      ∷ (counting (set (slice 3 0 1 1 1 1 277) 10 2) 32 gives by 10)
      ∷ (finding (set (slice 3 0 1 1 1 1 277) 10 2) 96 0 gives by 10)
      ∷ (finding (set one 10 2) 96 0 gives by 11)
      ∷ (erasing (set (slice 3 0 1 1 1 1 277) 10 2) 16 gives by 10)
      ∷ (erasing (set one 10 2) 16 gives by 11)
      ∷ (inserting (set (slice 3 0 1 1 1 1 277) 10 2) 16 36 172 1 gives by 10)
      ∷ (inserting (set one 10 2) 16 36 172 1 gives by 11)
      ∷ (compacting (set (slice 3 0 1 1 1 1 277) 181 2) 0 32 gives by 10)
      ∷ (compacting (set one 181 2) 0 32 gives by 11)
      ∷ []

  -- 20, in a count and then in every call [02:W2.1 W2.2 W2.3 W2.11 W2.12]
  abbrev pub form_cases : List Case
  form_cases =
      -- a free row is all zero: the byte after the mark, and the last byte, in each table
      (counting (set one 11 2) 32 gives by 20)
      ∷ (counting (set one 70 1) 32 gives by 20)
      ∷ (counting (set one 72 2) 32 gives by 20)
      ∷ (counting (set one 119 1) 32 gives by 20)
      ∷ (counting (set one 121 2) 32 gives by 20)
      ∷ (counting (set one 180 1) 32 gives by 20)
      ∷ (counting (set one 182 2) 32 gives by 20)
      ∷ (counting (set one 225 1) 32 gives by 20)
      ∷ (counting (set one 227 2) 32 gives by 20)
      ∷ (counting (set one 286 1) 32 gives by 20)
      -- of a used row it may be any byte
      ∷ (counting (set (set one 10 1) 11 2) 32 gives number 0)
      ∷ (counting (set (set one 181 1) 225 255) 32 gives number 0)
      -- a used row after a free one, in each table; the other way round is in form
      ∷ (counting (set two 71 1) 32 gives by 20)
      ∷ (counting (set two 181 1) 32 gives by 20)
      ∷ (counting (set two 291 1) 32 gives by 20)
      ∷ (counting (set two 397 1) 32 gives by 20)
      ∷ (counting (set two 503 1) 32 gives by 20)
      ∷ (counting (set two 10 1) 32 gives number 0)
      ∷ (counting (set two 352 1) 32 gives number 0)
      ∷ (counting (set two 442 1) 32 gives number 0)
      -- two rows of S: in order by the first byte after the mark, by the last, equal, and as unsigned
      ∷ (counting (two_logs (5 ∷ zeros 43) (6 ∷ zeros 43)) 32 gives number 0)
      ∷ (counting (two_logs (6 ∷ zeros 43) (5 ∷ zeros 43)) 32 gives by 20)
      ∷ (counting (two_logs (zeros 43 ++ (1 ∷ [])) (zeros 43 ++ (2 ∷ []))) 32 gives number 0)
      ∷ (counting (two_logs (zeros 43 ++ (2 ∷ [])) (zeros 43 ++ (1 ∷ []))) 32 gives by 20)
      ∷ (counting (two_logs (places 1 44) (places 1 44)) 32 gives number 0)
      ∷ (counting (two_logs (0x7f ∷ zeros 43) (0x80 ∷ zeros 43)) 32 gives number 0)
      ∷ (counting (two_logs (0x80 ∷ zeros 43) (0x7f ∷ zeros 43)) 32 gives by 20)
      ∷ (counting (two_logs (1 ∷ 255 ∷ zeros 42) (2 ∷ 0 ∷ zeros 42)) 32 gives number 0)
      -- right after 11, whose test goes over every table first, and before 12, 13 and 19
      ∷ (counting (set (set one 11 2) 181 2) 32 gives by 11)
      ∷ (counting (set (slice 3 0 1 1 1 1 277) 11 2) 32 gives by 10)
      ∷ (finding (set one 11 2) 96 0 gives by 20)
      ∷ (erasing (set one 11 2) 16 gives by 20)
      ∷ (inserting (set one 11 2) 16 36 172 1 gives by 20)
      ∷ (inserting (with_c 0 2 (anchor_is 1 (eight 5) above_limit ∷ counter_is 6 (eight 0) (eight 9) ∷ [])) 16 36 172 0 gives by 20)
      ∷ (compacting (set one 11 2) 0 32 gives by 20)
      ∷ (compacting (two_logs (6 ∷ zeros 43) (5 ∷ zeros 43)) 0 32 gives by 20)
      ∷ []

  -- the call that puts a store in form: 10 and 11 alone, and how many rows are used in all tables [02:W2.8 W2.9]
  abbrev pub order_cases : List Case
  order_cases =
      (ordering one gives number 0)
      ∷ (ordering (set one 11 2) gives number 0)
      ∷ (ordering (set (set (set (set (set one 10 1) 71 1) 120 1) 181 1) 226 1) gives number 5)
      ∷ (ordering (two_logs (6 ∷ zeros 43) (5 ∷ zeros 43)) gives number 2)
      ∷ (ordering (two_logs (places 1 44) (places 1 44)) gives number 2)
      ∷ (ordering (set two 71 1) gives number 1)
      ∷ (ordering (take 9 one) gives by 10)
      ∷ (ordering (slice 3 0 1 1 1 1 277) gives by 10)
      ∷ (ordering (slice 1 0 1 1 1 1 277) gives by 10)
      ∷ (ordering (slice 2 0 1 1 1 1 276) gives by 10)
      ∷ (ordering (set one 10 2) gives by 11)
      ∷ (ordering (set one 181 2) gives by 11)
      ∷ (ordering (set one 226 2) gives by 11)
      ∷ (ordering (set (slice 3 0 1 1 1 1 277) 10 2) gives by 10)
      ∷ []

  -- insert: 12 to 17, and 21 [01:RS4 RS6 RS7 RS8 RS9 RS10] [02:W4.28]
  abbrev pub insert_cases : List Case
  insert_cases =
      -- 12: the token's p is the store's
      (inserting one 16 36 172 1 gives by 12)
      ∷ (inserting (slice 2 15 1 1 1 1 277) 16 36 172 15 gives number 1)
      ∷ (inserting (slice 2 15 1 1 1 1 277) 16 36 172 14 gives by 12)
      ∷ (inserting (slice 2 15 1 1 1 1 277) 16 36 172 0 gives by 12)
      -- 13: the first number of counter Start + k is 0, and its count is at most 4,294,967,295; 14: so is the new count
      ∷ (insert_over (counter_is 1 (eight 0) (eight 7) ∷ []) gives number 8)
      ∷ (insert_over (counter_is 1 (eight 1) (eight 7) ∷ []) gives by 13)
      ∷ (insert_over (counter_is 1 (eight 0) below_limit ∷ []) gives number 4294967295)
      ∷ (insert_over (counter_is 1 (eight 0) at_limit ∷ []) gives by 14)
      ∷ (insert_over (counter_is 1 (eight 0) above_limit ∷ []) gives by 13)
      ∷ (insert_over (counter_is 1 (1 ∷ zeros 7) (eight 7) ∷ []) gives by 13)
      ∷ (insert_over (counter_is 1 (eight 0) (1 ∷ zeros 7) ∷ []) gives by 13)
      -- only that counter is read [01:RC6]
      ∷ (insert_over (counter_is 1 (eight 1) above_limit ∷ counter_is 2 (eight 0) (eight 7) ∷ []) gives number 8)
      ∷ (insert_over (counter_is 1 (eight 0) (eight 7) ∷ counter_is 2 (eight 1) (eight 8) ∷ []) gives by 13)
      -- 13: the numbers of anchor B are at most 4,294,967,295
      ∷ (insert_over (anchor_is 1 (eight 5) (eight 7) ∷ []) gives number 8)
      ∷ (insert_over (anchor_is 1 at_limit below_limit ∷ []) gives number 4294967295)
      ∷ (insert_over (anchor_is 1 at_limit at_limit ∷ []) gives by 14)
      ∷ (insert_over (anchor_is 1 above_limit (eight 7) ∷ []) gives by 13)
      ∷ (insert_over (anchor_is 1 (eight 5) above_limit ∷ []) gives by 13)
      -- also where a counter follows it
      ∷ (insert_over (counter_is 6 (eight 0) (eight 9) ∷ anchor_is 1 (eight 5) (eight 7) ∷ []) gives number 10)
      ∷ (insert_over (counter_is 6 (eight 1) (eight 9) ∷ anchor_is 1 (eight 5) (eight 7) ∷ []) gives by 13)
      ∷ (insert_over (counter_is 6 (eight 0) above_limit ∷ anchor_is 1 (eight 5) (eight 7) ∷ []) gives by 13)
      ∷ (insert_over (counter_is 6 (eight 0) (eight 9) ∷ anchor_is 1 (eight 5) above_limit ∷ []) gives by 13)
      ∷ (insert_over (row_c (zeros 32) 1 above_limit (eight 0) (eight 9) ∷ anchor_is 1 at_limit (eight 7) ∷ []) gives number 10)
      ∷ (insert_over (row_c (zeros 32) 1 (0 ∷ 0 ∷ 0 ∷ 1 ∷ 0 ∷ 0 ∷ 0 ∷ 1 ∷ []) (eight 0) (eight 9) ∷ anchor_is 1 above_limit (eight 7) ∷ []) gives by 13)
      -- only anchor B is read
      ∷ (insert_over (anchor_is 1 above_limit above_limit ∷ anchor_is 2 (eight 5) (eight 7) ∷ []) gives number 8)
      -- 15: as many free rows of M and of V as ids
      ∷ (inserting (slice 2 0 2 1 1 2 448) 32 60 172 0 gives number 2)
      ∷ (inserting (slice 2 0 2 1 1 2 448) 48 84 172 0 gives by 15)
      ∷ (inserting (set (slice 2 0 2 1 1 2 448) 10 1) 16 36 172 0 gives number 1)
      ∷ (inserting (set (slice 2 0 2 1 1 2 448) 10 1) 32 60 172 0 gives by 15)
      ∷ (inserting (set (slice 2 0 2 1 1 2 448) 132 1) 32 60 172 0 gives by 15)
      -- 16: a free row of C; 17: a free row of S
      ∷ (inserting (set one 120 1) 16 36 172 0 gives by 16)
      ∷ (inserting (set one 181 1) 16 36 172 0 gives by 17)
      -- 21: as many free rows of R as ids
      ∷ (inserting (slice 2 0 2 1 1 1 387) 16 36 172 0 gives number 1)
      ∷ (inserting (slice 2 0 2 1 1 1 387) 32 60 172 0 gives by 21)
      ∷ (inserting (set one 226 1) 16 36 172 0 gives by 21)
      -- in order [01:RS1] [02:W4.30]
      ∷ (inserting (with_c 0 1 (counter_is 1 (eight 1) (eight 7) ∷ [])) 16 36 172 1 gives by 12)
      ∷ (inserting (set (with_c 0 1 (counter_is 1 (eight 1) (eight 7) ∷ [])) 10 1) 16 36 172 0 gives by 13)
      ∷ (inserting (set (with_c 0 1 (counter_is 1 (eight 0) at_limit ∷ [])) 10 1) 16 36 172 0 gives by 14)
      ∷ (inserting (set (set one 10 1) 120 1) 16 36 172 0 gives by 15)
      ∷ (inserting (set (set one 120 1) 181 1) 16 36 172 0 gives by 16)
      ∷ (inserting (set (set one 181 1) 226 1) 16 36 172 0 gives by 17)
      ∷ []

  -- find and count: 13, with every share read first, and 18 [01:RS6 RS11]; rows of C under the CL of share u
  abbrev pub of_share : ℕ → ℕ → List ℕ → List ℕ → List ℕ
  of_share u i a n = row_c (F (places 64 32) (eight u)) 1 (eight i) a n

  -- the row of M for an id at address 1 of share u
  abbrev pub entry_of : ℕ → List ℕ → List ℕ
  entry_of u id = 1 ∷ F (F (places 0 32) (eight u)) (eight 1) ++ (zeros 12 ++ E (F (places 32 32) (eight u)) (zeros 12) id)

  -- one id in share 0 and one in share 1; m = 2, c = 3, s = r = 1, and these rows in C
  abbrev pub with_entries : List ℕ → List ℕ → ℕ → List (List ℕ) → List ℕ
  with_entries id other p rows = 2 ∷ p ∷ 0 ∷ 2 ∷ 0 ∷ 3 ∷ 0 ∷ 1 ∷ 0 ∷ 1 ∷ entry_of 0 id ++ (entry_of 1 other ++ (zeros 98 ++ (flat rows ++ zeros 106)))

  -- two ids; two that differ in the last byte alone; one id, twice
  abbrev pub two_entries : ℕ → List (List ℕ) → List ℕ
  two_entries p rows = with_entries (places 1 16) (places 17 16) p rows

  abbrev pub alike_entries : ℕ → List (List ℕ) → List ℕ
  alike_entries p rows = with_entries (places 1 16) (places 1 15 ++ (17 ∷ [])) p rows

  abbrev pub repeated_entry : ℕ → List (List ℕ) → List ℕ
  repeated_entry p rows = with_entries (places 1 16) (places 1 16) p rows

  -- share 0 has made 1 entry, share 1 has made 4, of which 3 are gone
  abbrev pub both_shares : List (List ℕ)
  both_shares = of_share 0 1 (eight 0) (eight 1) ∷ of_share 1 1 (eight 0) (eight 4) ∷ zeros 61 ∷ []

  abbrev pub damaged_share : List (List ℕ)
  damaged_share = of_share 0 1 (eight 0) (eight 1) ∷ of_share 1 1 (eight 1) (eight 4) ∷ zeros 61 ∷ []

  abbrev pub query_cases : List Case
  query_cases =
      (counting (with_c 1 2 (of_share 0 1 (eight 0) (eight 3) ∷ of_share 1 1 (eight 0) (eight 4) ∷ [])) 32 gives number 7)
      ∷ (counting (with_c 1 2 (of_share 0 1 (eight 1) (eight 3) ∷ of_share 1 1 (eight 0) (eight 4) ∷ [])) 32 gives by 13)
      ∷ (counting (with_c 1 2 (of_share 0 1 (eight 0) (eight 3) ∷ of_share 1 1 (eight 0) above_limit ∷ [])) 32 gives by 13)
      ∷ (counting (with_c 1 2 (of_share 0 1 (eight 0) at_limit ∷ of_share 1 1 (eight 0) at_limit ∷ [])) 32 gives number 8589934590)
      ∷ (counting (with_c 0 2 (of_share 0 1 (eight 0) (eight 3) ∷ of_share 0 2 (eight 0) (eight 5) ∷ [])) 32 gives number 5)
      -- share 1 of a store with p = 0 is not read
      ∷ (counting (with_c 0 2 (of_share 0 1 (eight 0) (eight 3) ∷ of_share 1 1 (eight 0) (eight 4) ∷ [])) 32 gives number 3)
      ∷ (counting (with_c 0 2 (of_share 0 1 (eight 0) (eight 3) ∷ of_share 1 1 (eight 1) (eight 4) ∷ [])) 32 gives number 3)
      ∷ (finding (two_entries 0 both_shares) 96 16 gives number 1)
      ∷ (finding (two_entries 0 both_shares) 96 15 gives refused 18 (1 ∷ []))
      ∷ (finding (two_entries 0 damaged_share) 96 16 gives number 1)
      ∷ (finding (two_entries 1 both_shares) 96 32 gives number 2)
      ∷ (finding (two_entries 1 both_shares) 96 31 gives refused 18 (2 ∷ []))
      ∷ (finding (two_entries 1 damaged_share) 96 32 gives by 13)
      -- an id that is in both shares needs the room of one, is found once and counted twice [02:W1.1 W1.3 W1.4]
      ∷ (finding (repeated_entry 1 both_shares) 96 16 gives number 1)
      ∷ (finding (repeated_entry 1 both_shares) 96 15 gives refused 18 (1 ∷ []))
      ∷ (counting (repeated_entry 1 both_shares) 32 gives number 5)
      ∷ (finding (alike_entries 1 both_shares) 96 32 gives number 2)
      ∷ (finding (alike_entries 1 both_shares) 96 31 gives refused 18 (2 ∷ []))
      -- in order [01:RS1]
      ∷ (finding (two_entries 1 damaged_share) 96 15 gives by 13)
      ∷ (finding (set (two_entries 1 damaged_share) 132 2) 96 15 gives by 11)
      ∷ (counting (set (two_entries 1 damaged_share) 132 2) 32 gives by 11)
      ∷ []

  -- a count with the rows looked at: anchor 1 and counters 1 and 2 of each share; a refusal carries none [02:W3.8]
  abbrev pub tally_cases : List Case
  tally_cases =
      (tallying (with_c 1 2 (of_share 0 1 (eight 0) (eight 3) ∷ of_share 1 1 (eight 0) (eight 4) ∷ [])) gives done (7 ∷ 11 ∷ []))
      ∷ (tallying (with_c 0 2 (of_share 0 1 (eight 0) (eight 3) ∷ of_share 0 2 (eight 0) (eight 5) ∷ [])) gives done (5 ∷ 5 ∷ []))
      ∷ (tallying (with_c 0 2 (of_share 0 1 (eight 0) (eight 3) ∷ of_share 1 1 (eight 0) (eight 4) ∷ [])) gives done (3 ∷ 5 ∷ []))
      ∷ (tallying one gives done (0 ∷ 0 ∷ []))
      ∷ (tallying (with_c 1 2 (of_share 0 1 (eight 1) (eight 3) ∷ of_share 1 1 (eight 0) (eight 4) ∷ [])) gives by 13)
      ∷ (tallying (set one 10 2) gives by 11)
      ∷ []

  -- the most that these can be: 2 × c × (p + 1) × the used rows of C [02:W3.11]
  abbrev pub bound_bytes : List Equation
  bound_bytes =
      (most_rows (with_c 1 2 (of_share 0 1 (eight 0) (eight 3) ∷ of_share 1 1 (eight 0) (eight 4) ∷ [])) ∷ [] is (16 ∷ []))
      ∷ (most_rows (with_c 2 3 (counter_is 1 (eight 0) (eight 7) ∷ zeros 61 ∷ zeros 61 ∷ [])) ∷ [] is (18 ∷ []))
      ∷ []

  -- ids go to the start of the output and later bytes stay; a refusal leaves all of it [01:OP6 OP7 RS13]
  abbrev pub finds : List ℕ → ℕ → List ℕ
  finds store output = (Find.find suite store (places 0 96) (places 101 output)).output

  abbrev pub query_bytes : List Equation
  query_bytes =
      (finds (two_entries 1 both_shares) 40 is (places 1 32 ++ places 133 8))
      ∷ (finds (two_entries 0 both_shares) 40 is (places 1 16 ++ places 117 24))
      ∷ (finds (two_entries 1 both_shares) 31 is places 101 31)
      ∷ (finds (two_entries 1 damaged_share) 40 is places 101 40)
      -- each id once, and its own [02:W1.1]
      ∷ (finds (repeated_entry 1 both_shares) 40 is (places 1 16 ++ places 117 24))
      ∷ (finds (alike_entries 1 both_shares) 40 is (places 1 16 ++ (places 1 15 ++ (17 ∷ places 133 8))))
      ∷ []
