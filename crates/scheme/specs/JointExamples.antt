-- Examples of tests and joint finds (document 02, "Find by several fields"): refusals on both sides of their limits, and stores that no list of
-- calls makes, where a row of R is missing or a part is damaged. The claim does not see these.
use Rattle.std.specs.Prelude.{ℕ, ◌*◌, List, [], ◌∷◌, ◌++◌, length, set}
use Rattle.table.specs.Lists.{flat}
use Rattle.answer.specs.Answer.{Answer, refused}
use Rattle.scheme.specs.Suite.{Suite}
use Rattle.scheme.specs.Order
use Rattle.scheme.specs.Test
use Rattle.scheme.specs.JointFind
use Rattle.scheme.specs.JointFind.{least_at}
use Rattle.scheme.specs.Example.{Equation, ◌is◌, Case, ◌gives◌, zeros, places, eight, number, by}
use Rattle.scheme.specs.RefusalExamples.{one, slice, row_c}

-- two ids
abbrev pub id_a : List ℕ
id_a = places 1 16

abbrev pub id_b : List ℕ
id_b = places 17 16

-- two parts: MT, ME, CL and RL of 32 bytes each
abbrev pub part_one : List ℕ
part_one = places 0 128

abbrev pub part_two : List ℕ
part_two = places 128 128

-- the place of the least number, the earlier on a tie [02:W4.19 W4.20]
abbrev pub least_bytes : List Equation
least_bytes =
    ((least_at (5 ∷ []) ∷ least_at (5 ∷ 4 ∷ []) ∷ least_at (4 ∷ 5 ∷ []) ∷ least_at (4 ∷ 4 ∷ []) ∷ least_at (5 ∷ 4 ∷ 6 ∷ 4 ∷ 7 ∷ []) ∷ least_at (6 ∷ 5 ∷ 4 ∷ []) ∷ []) is
    (0 ∷ 1 ∷ 0 ∷ 0 ∷ 1 ∷ 2 ∷ []))
    ∷ []

module _ (suite : Suite) where
  open suite use {F, E}

  -- ---- tests

  -- a row of R: the mark, the id, a nonce by its first byte, and what stands for the R mark
  abbrev pub row_r : List ℕ → ℕ → List ℕ → List ℕ
  row_r id nonce r_mark = 1 ∷ id ++ (places nonce 12 ++ r_mark)

  -- with the R mark F(RL, n then id) of part one or two [02:W4.3]
  abbrev pub row_one : List ℕ → ℕ → List ℕ
  row_one id nonce = row_r id nonce (F (places 96 32) (places nonce 12 ++ id))

  abbrev pub row_two : List ℕ → ℕ → List ℕ
  row_two id nonce = row_r id nonce (F (places 224 32) (places nonce 12 ++ id))

  -- p = 0, m = c = s = 1, and these rows in R
  abbrev pub with_r : List (List ℕ) → List ℕ
  with_r rows = 2 ∷ 0 ∷ 0 ∷ 1 ∷ 0 ∷ 1 ∷ 0 ∷ 1 ∷ 0 ∷ length rows ∷ zeros 216 ++ flat rows

  abbrev pub testing : List ℕ → List ℕ → List ℕ → Answer
  testing store id token = (Test.test suite store id token).answer

  abbrev pub test_cases : List Case
  test_cases =
      -- yes exactly when an R row of that id carries RL's R mark [02:W4.17]
      (testing (with_r (row_one id_a 40 ∷ [])) id_a (places 96 32) gives number 1)
      ∷ (testing (with_r (row_one id_a 40 ∷ [])) id_b (places 96 32) gives number 0)
      ∷ (testing (with_r (row_one id_a 40 ∷ [])) id_a (places 224 32) gives number 0)
      ∷ (testing (with_r (zeros 61 ∷ [])) id_a (places 96 32) gives number 0)
      ∷ (testing (with_r (row_two id_a 40 ∷ row_one id_a 60 ∷ zeros 61 ∷ [])) id_a (places 96 32) gives number 1)
      ∷ (testing (with_r (row_one id_a 40 ∷ row_one id_b 40 ∷ [])) id_b (places 96 32) gives number 1)
      -- the R mark is over the nonce and then the id, of that row
      ∷ (testing (with_r (row_r id_a 40 (F (places 96 32) id_a) ∷ [])) id_a (places 96 32) gives number 0)
      ∷ (testing (with_r (row_r id_a 40 (F (places 96 32) (id_a ++ places 40 12)) ∷ [])) id_a (places 96 32) gives number 0)
      ∷ (testing (with_r (row_r id_a 40 (F (places 96 32) (places 41 12 ++ id_a)) ∷ [])) id_a (places 96 32) gives number 0)
      ∷ (testing (with_r (row_r id_b 40 (F (places 96 32) (places 40 12 ++ id_a)) ∷ [])) id_a (places 96 32) gives number 0)
      ∷ (testing (with_r (row_r id_b 40 (F (places 96 32) (places 40 12 ++ id_a)) ∷ [])) id_b (places 96 32) gives number 0)
      -- 5: an id of 16 bytes; 6: a token of 32 bytes [02:W4.15 W4.16]
      ∷ (testing one (zeros 16) (zeros 32) gives number 0)
      ∷ (testing one (zeros 15) (zeros 32) gives by 5)
      ∷ (testing one (zeros 17) (zeros 32) gives by 5)
      ∷ (testing one (zeros 16) (zeros 31) gives by 6)
      ∷ (testing one (zeros 16) (zeros 33) gives by 6)
      -- in order, then 10, 11 and 20
      ∷ (testing [] (zeros 15) (zeros 31) gives by 5)
      ∷ (testing [] (zeros 16) (zeros 31) gives by 6)
      ∷ (testing [] (zeros 16) (zeros 32) gives by 10)
      ∷ (testing (set (slice 3 0 1 1 1 1 277) 226 2) (zeros 16) (zeros 32) gives by 10)
      ∷ (testing (set (set one 226 2) 11 2) (zeros 16) (zeros 32) gives by 11)
      ∷ (testing (set one 227 2) (zeros 16) (zeros 32) gives by 20)
      ∷ []

  -- ---- joint finds

  -- the entry of an id at an address, and counter 1 with a count, of part one and of part two; p = 0, so share 0
  abbrev pub entry : List ℕ → List ℕ → ℕ → List ℕ → List ℕ
  entry mt me a id = 1 ∷ F (F mt (eight 0)) (eight a) ++ (zeros 12 ++ E (F me (eight 0)) (zeros 12) id)

  abbrev pub in_one : ℕ → List ℕ → List ℕ
  in_one a id = entry (places 0 32) (places 32 32) a id

  abbrev pub in_two : ℕ → List ℕ → List ℕ
  in_two a id = entry (places 128 32) (places 160 32) a id

  abbrev pub counts : List ℕ → ℕ → List ℕ → List ℕ
  counts clx a n = row_c suite (F clx (eight 0)) 1 (eight 1) (eight a) n

  abbrev pub count_one : ℕ → List ℕ
  count_one n = counts (places 64 32) 0 (eight n)

  abbrev pub count_two : ℕ → List ℕ
  count_two n = counts (places 192 32) 0 (eight n)

  -- p = 0, s = 1, these rows in M, C and R, put in form
  abbrev pub holding : List (List ℕ) → List (List ℕ) → List (List ℕ) → List ℕ
  holding M C R =
      (Order.order (2 ∷ 0 ∷ 0 ∷ length M ∷ 0 ∷ length C ∷ 0 ∷ 1 ∷ 0 ∷ length R ∷ flat M ++ (zeros (49 * length M) ++ (flat C ++ (zeros 45 ++ flat R))))).store

  -- part one has A and B, part two has B and A; R has all four
  abbrev pub both : ℕ → ℕ → List ℕ
  both n k =
      holding (in_one 1 id_a ∷ in_one 2 id_b ∷ in_two 1 id_b ∷ in_two 2 id_a ∷ []) (count_one n ∷ count_two k ∷ [])
      (row_one id_a 40 ∷ row_two id_a 60 ∷ row_one id_b 40 ∷ row_two id_b 60 ∷ [])

  -- the same entries; R has A alone, under part one
  abbrev pub only_a : ℕ → ℕ → List ℕ
  only_a n k = holding (in_one 1 id_a ∷ in_one 2 id_b ∷ in_two 1 id_b ∷ in_two 2 id_a ∷ []) (count_one n ∷ count_two k ∷ []) (row_one id_a 40 ∷ [])

  -- the entry of B in part one is gone; R has A under part one and B under part two
  abbrev pub erased : ℕ → ℕ → List ℕ
  erased n k = holding (in_one 1 id_a ∷ in_two 1 id_b ∷ in_two 2 id_a ∷ []) (count_one n ∷ count_two k ∷ []) (row_one id_a 40 ∷ row_two id_b 60 ∷ [])

  -- part two is damaged
  abbrev pub damaged_two : List ℕ
  damaged_two = holding (in_one 1 id_a ∷ []) (count_one 1 ∷ counts (places 192 32) 1 (eight 2) ∷ []) (row_one id_a 40 ∷ [])

  abbrev pub joining : List ℕ → List ℕ → ℕ → Answer
  joining store parts output = (JointFind.joint_find suite store parts (zeros output)).answer

  abbrev pub joins : List ℕ → List ℕ → ℕ → List ℕ
  joins store parts output = (JointFind.joint_find suite store parts (places 101 output)).output

  abbrev pub joint_bytes : List Equation
  joint_bytes =
      -- the find of the part with the least count, and ids at the start of the output [02:W4.19 W4.21]
      (joins (both 3 2) (part_one ++ part_two) 40 is (id_b ++ (id_a ++ places 133 8)))
      ∷ (joins (both 2 3) (part_one ++ part_two) 40 is (id_a ++ (id_b ++ places 133 8)))
      -- the earlier on a tie [02:W4.20]
      ∷ (joins (both 2 2) (part_one ++ part_two) 40 is (id_a ++ (id_b ++ places 133 8)))
      ∷ (joins (both 2 2) (part_two ++ part_one) 40 is (id_b ++ (id_a ++ places 133 8)))
      -- by the count, erased entries included, and not by the ids still listed
      ∷ (joins (erased 3 2) (part_one ++ part_two) 40 is (id_a ++ places 117 24))
      -- every other part is tested, and the chosen one is not; as often as it stands there
      ∷ (joins (only_a 2 2) (part_two ++ part_one) 40 is (id_a ++ places 117 24))
      ∷ (joins (only_a 2 2) (part_one ++ part_two) 40 is places 101 40)
      ∷ (joins (only_a 2 2) part_two 40 is (id_b ++ (id_a ++ places 133 8)))
      ∷ (joins (only_a 2 2) (part_two ++ part_two) 40 is places 101 40)
      ∷ (joins (only_a 2 2) (part_one ++ part_one) 40 is (id_a ++ places 117 24))
      ∷ (joins (both 2 2) (part_one ++ (part_two ++ (part_one ++ part_two))) 40 is (id_a ++ (id_b ++ places 133 8)))
      -- a refusal leaves the output [02:W4.22 W4.23]
      ∷ (joins (both 2 2) (part_one ++ part_two) 31 is places 101 31)
      ∷ (joins damaged_two (part_one ++ part_two) 40 is places 101 40)
      ∷ []

  abbrev pub joint_cases : List Case
  joint_cases =
      -- 6: 1 to 8 parts of 128 bytes [02:W4.18]
      (joining one [] 0 gives by 6)
      ∷ (joining one (zeros 127) 0 gives by 6)
      ∷ (joining one (zeros 128) 0 gives number 0)
      ∷ (joining one (zeros 129) 0 gives by 6)
      ∷ (joining one (zeros 1024) 0 gives number 0)
      ∷ (joining one (zeros 1025) 0 gives by 6)
      ∷ (joining one (zeros 1152) 0 gives by 6)
      -- 18 by the ids kept, which may be fewer than the find's [02:W4.23]
      ∷ (joining (both 2 2) (part_one ++ part_two) 32 gives number 2)
      ∷ (joining (both 2 2) (part_one ++ part_two) 31 gives refused 18 (2 ∷ []))
      ∷ (joining (only_a 2 2) (part_two ++ part_one) 16 gives number 1)
      ∷ (joining (only_a 2 2) (part_two ++ part_one) 15 gives refused 18 (1 ∷ []))
      ∷ (joining (only_a 2 2) (part_one ++ part_two) 0 gives number 0)
      -- 13 for damage in any part, also where it is not the chosen one [02:W4.22]
      ∷ (joining damaged_two part_one 16 gives number 1)
      ∷ (joining damaged_two part_two 16 gives by 13)
      ∷ (joining damaged_two (part_one ++ part_two) 16 gives by 13)
      ∷ (joining damaged_two (part_two ++ part_one) 0 gives by 13)
      -- in order: 6, then 10, 11 and 20, then 13
      ∷ (joining [] (zeros 127) 0 gives by 6)
      ∷ (joining [] (zeros 128) 0 gives by 10)
      ∷ (joining (set (slice 3 0 1 1 1 1 277) 226 2) (zeros 128) 0 gives by 10)
      ∷ (joining (set (set one 226 2) 11 2) (zeros 128) 0 gives by 11)
      ∷ (joining (set one 227 2) (zeros 128) 0 gives by 20)
      ∷ (joining (set damaged_two 243 2) part_two 0 gives by 20)
      ∷ []
