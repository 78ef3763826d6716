-- Examples of readings, inserts, finds and compactions (document 01, "Reading a counter", "Operations"), most of them on stores that no list of calls
-- makes: rows that are missing, stand twice or are damaged. The claim does not see these.
use Rattle.std.specs.Prelude.{ℕ, refl, List, [], ◌∷◌, ◌++◌, length, replicate}
use Rattle.table.specs.Lists.{flat}
use Rattle.answer.specs.Answer.{done, refused}
use Rattle.scheme.specs.Suite.{Suite}
use Rattle.scheme.specs.Reading.{Reading, damage, counter, reading}
use Rattle.scheme.specs.RowsRead.{anchor_rows, counter_rows}
use Rattle.scheme.specs.Refusals.{Result}
use Rattle.scheme.specs.Find
use Rattle.scheme.specs.Insert
use Rattle.scheme.specs.Compaction
use Rattle.scheme.specs.Example.{Equation, ◌is◌, Case, ◌gives◌, zeros, places, eight, number, by}
use Rattle.scheme.specs.ByteExamples.{new_m, new_v, new_c, new_s, new_r}
use Rattle.scheme.specs.RefusalExamples.{with_c, row_c, counter_is, anchor_is, at_limit, above_limit}

-- a suite in which one row of C holds every counter and every anchor
abbrev pub blind : Suite
blind = record {
  F = λ k x. zeros 32;
  E = λ k n t. t;
  f_length = λ k x. refl;
  e_length = λ k n t. refl;
  e_undoes = λ k n t. refl;
}

abbrev pub blind_row : ℕ → List ℕ
blind_row n = 1 ∷ zeros 44 ++ (eight 0 ++ eight n)

-- B, Start, k and the count; nothing where there is damage
abbrev pub reading_numbers : Reading → List ℕ
reading_numbers damage = []
reading_numbers (counter B start k n) = B ∷ start ∷ k ∷ n ∷ []

-- the reading of a CL of zeros in a table C of these rows
abbrev pub read : Suite → List (List ℕ) → List ℕ
read suite rows = reading_numbers (reading suite (length rows) (zeros 32) rows)

module _ (suite : Suite) where
  open suite use {F, E}

  -- a row of C that is free, whatever stands after its mark
  abbrev pub free_counter : ℕ → ℕ → List ℕ
  free_counter i n = 0 ∷ F (F (zeros 32) (eight 1)) (1 ∷ eight i) ++ (zeros 12 ++ E (F (zeros 32) (eight 2)) (zeros 12) (eight 0 ++ eight n))

  abbrev pub reading_bytes : List Equation
  reading_bytes =
      -- B = 0, Start = 0 [01:RC1 RC2 RC3 RC4]
      (read suite (zeros 61 ∷ []) is (0 ∷ 0 ∷ 0 ∷ 0 ∷ []))
      ∷ (read suite (counter_is suite 1 (eight 0) (eight 7) ∷ []) is (0 ∷ 0 ∷ 1 ∷ 7 ∷ []))
      ∷ (read suite (counter_is suite 2 (eight 0) (eight 9) ∷ zeros 61 ∷ counter_is suite 1 (eight 0) (eight 7) ∷ []) is (0 ∷ 0 ∷ 2 ∷ 9 ∷ []))
      -- counters and anchors that follow a missing one are not held
      ∷ (read suite (counter_is suite 2 (eight 0) (eight 9) ∷ []) is (0 ∷ 0 ∷ 0 ∷ 0 ∷ []))
      ∷ (read suite (counter_is suite 1 (eight 0) (eight 7) ∷ counter_is suite 3 (eight 0) (eight 9) ∷ []) is (0 ∷ 0 ∷ 1 ∷ 7 ∷ []))
      ∷ (read suite (anchor_is suite 2 (eight 5) (eight 7) ∷ []) is (0 ∷ 0 ∷ 0 ∷ 0 ∷ []))
      ∷ (read suite (anchor_is suite 1 (eight 5) (eight 7) ∷ anchor_is suite 3 (eight 6) (eight 8) ∷ []) is (1 ∷ 5 ∷ 0 ∷ 7 ∷ []))
      -- Start is the position in anchor B; the count is that of counter Start + k, else of anchor B
      ∷ (read suite (anchor_is suite 2 (eight 6) (eight 8) ∷ anchor_is suite 1 (eight 5) (eight 7) ∷ []) is (2 ∷ 6 ∷ 0 ∷ 8 ∷ []))
      ∷ (read suite (anchor_is suite 1 (eight 5) (eight 7) ∷ counter_is suite 6 (eight 0) (eight 9) ∷ counter_is suite 1 (eight 0) (eight 3) ∷ []) is (1 ∷ 5 ∷ 1 ∷ 9 ∷ []))
      -- damage
      ∷ (read suite (counter_is suite 1 (eight 1) (eight 7) ∷ []) is [])
      -- the used row of lowest index [01:ST13 ST5]
      ∷ (read suite (counter_is suite 1 (eight 0) (eight 7) ∷ counter_is suite 1 (eight 0) (eight 9) ∷ []) is (0 ∷ 0 ∷ 1 ∷ 7 ∷ []))
      ∷ (read suite (free_counter 1 7 ∷ counter_is suite 1 (eight 0) (eight 9) ∷ []) is (0 ∷ 0 ∷ 1 ∷ 9 ∷ []))
      ∷ (read suite (free_counter 1 7 ∷ []) is (0 ∷ 0 ∷ 0 ∷ 0 ∷ []))
      -- B and k are at most c
      ∷ (read blind (blind_row 7 ∷ []) is (1 ∷ 0 ∷ 1 ∷ 7 ∷ []))
      ∷ (read blind (zeros 61 ∷ blind_row 7 ∷ zeros 61 ∷ []) is (3 ∷ 0 ∷ 3 ∷ 7 ∷ []))
      ∷ []

-- ---- the rows looked at for anchors and for counters, by the reading of a CL of zeros in a table C of these rows, in form; F grows with its
-- number in the suite that computes, and with the byte before it, so counters come before anchors [02:W3.2 W3.3 W3.4 W3.5 W3.6 W3.7]

abbrev pub looked_for : Suite → List (List ℕ) → List ℕ
looked_for suite rows = anchor_rows suite (length rows) (zeros 32) rows ∷ counter_rows suite (length rows) (zeros 32) rows ∷ []

module _ (suite : Suite) where
  abbrev pub rows_bytes : List Equation
  rows_bytes =
      -- no used row
      (looked_for suite (zeros 61 ∷ []) is (0 ∷ 0 ∷ []))
      -- anchor 1 comes after every counter, and no row follows; counter 1 is at the first row, and c = 1 ends it
      ∷ (looked_for suite (counter_is suite 1 (eight 0) (eight 7) ∷ []) is (1 ∷ 1 ∷ []))
      -- counters 1, 2 and 3, where 3 is missing and no row follows: 1 + 2 + 2
      ∷ (looked_for suite (counter_is suite 1 (eight 0) (eight 7) ∷ counter_is suite 2 (eight 0) (eight 9) ∷ zeros 61 ∷ []) is (2 ∷ 5 ∷ []))
      -- c of a kind: counter 3 is not looked up
      ∷ (looked_for suite (counter_is suite 1 (eight 0) (eight 7) ∷ counter_is suite 2 (eight 0) (eight 9) ∷ []) is (2 ∷ 3 ∷ []))
      -- below all rows: the first row that follows is looked at
      ∷ (looked_for suite (counter_is suite 2 (eight 0) (eight 9) ∷ zeros 61 ∷ []) is (1 ∷ 1 ∷ []))
      -- anchors 1 and 2, then counters 6 and 7, where anchor 1 follows counter 7
      ∷ (looked_for suite (counter_is suite 6 (eight 0) (eight 9) ∷ anchor_is suite 1 (eight 5) (eight 7) ∷ zeros 61 ∷ zeros 61 ∷ []) is (4 ∷ 3 ∷ []))
      -- a tag that stands twice: a lookup ends at the first of them, one that follows goes past both
      ∷ (looked_for suite (counter_is suite 1 (eight 0) (eight 7) ∷ counter_is suite 1 (eight 0) (eight 9) ∷ []) is (2 ∷ 3 ∷ []))
      -- every lookup at the first row, c of either kind
      ∷ (looked_for blind (blind_row 7 ∷ zeros 61 ∷ zeros 61 ∷ []) is (3 ∷ 3 ∷ []))
      ∷ []

-- ---- an insert where anchor 1 (position 5, count 7) and counter 6 (count 9) are held: address 10, position 7, count 10 [01:OP1 OP3]

module _ (suite : Suite) where
  abbrev pub held_c : List (List ℕ)
  held_c = row_c suite (places 65 32) 1 (eight 6) (eight 0) (eight 9) ∷ row_c suite (places 65 32) 2 (eight 1) (eight 5) (eight 7) ∷ []

  -- counter 7 stands between counter 6 and the anchor, since F grows with the number in the suite that computes
  abbrev pub grown_c : List (List ℕ)
  grown_c = row_c suite (places 65 32) 1 (eight 6) (eight 0) (eight 9) ∷ new_c suite 7 13 10 ∷ row_c suite (places 65 32) 2 (eight 1) (eight 5) (eight 7) ∷ []

  abbrev pub later_bytes : List Equation
  later_bytes =
      ((Insert.insert suite (with_c 0 3 (held_c ++ (zeros 61 ∷ []))) (places 1 16) (places 1 36) (places 0 173)).store is
      (2 ∷ 0 ∷ 0 ∷ 1 ∷ 0 ∷ 3 ∷ 0 ∷ 1 ∷ 0 ∷ 1 ∷ new_m suite 10 1 1 ++ (new_v suite 10 1 ++ (flat grown_c ++ (new_s suite ++ new_r suite 25 1)))))
      ∷ []

-- ---- a find where one row of M is every address from 1 to 7: the id once, and 18 by one id [02:W1.1 W1.3]

abbrev pub blind_entry : List ℕ
blind_entry = 2 ∷ 0 ∷ 0 ∷ 1 ∷ 0 ∷ 1 ∷ 0 ∷ 1 ∷ 0 ∷ 1 ∷ 1 ∷ zeros 44 ++ (places 1 16 ++ (zeros 49 ++ (blind_row 7 ++ zeros 106)))

abbrev pub blind_bytes : List Equation
blind_bytes =
    ((Find.find blind blind_entry (zeros 96) (places 101 40)).output is (places 1 16 ++ places 117 24))
    ∷ ((Find.find blind blind_entry (zeros 96) (places 101 15)).output is places 101 15)
    ∷ []

abbrev pub blind_cases : List Case
blind_cases =
    ((Find.find blind blind_entry (zeros 96) (zeros 16)).answer gives number 1)
    ∷ ((Find.find blind blind_entry (zeros 96) (zeros 15)).answer gives refused 18 (1 ∷ []))
    ∷ []

-- ---- compactions: p = 0, m = r = 1, with these rows in C and S

abbrev pub with_cs : List (List ℕ) → List (List ℕ) → List ℕ
with_cs C S = 2 ∷ 0 ∷ 0 ∷ 1 ∷ 0 ∷ length C ∷ 0 ∷ length S ∷ 0 ∷ 1 ∷ zeros 110 ++ (flat C ++ (flat S ++ zeros 61))

-- two CL
abbrev pub cl_a : List ℕ
cl_a = replicate 32 0xaa

abbrev pub cl_b : List ℕ
cl_b = replicate 32 0xbb

-- with n nonce bytes, each its place, and a token of zeros
abbrev pub compacted : Suite → List ℕ → ℕ → Result
compacted suite store n = Compaction.compact suite store (places 1 n) (zeros 32)

module _ (suite : Suite) where
  open suite use {F, E}

  -- a row of S under a nonce that begins with a number: in form the lower one comes first [01:ST12] [02:W2.2]
  abbrev pub log_of : ℕ → List ℕ → List ℕ
  log_of n cl = 1 ∷ places n 12 ++ E (zeros 32) (places n 12) cl

  -- counter 1 or 2 with a count, and anchor 1 with position and count under a nonce
  abbrev pub counter_of : List ℕ → ℕ → ℕ → List ℕ
  counter_of cl i n = row_c suite cl 1 (eight i) (eight 0) (eight n)

  abbrev pub anchor_of : List ℕ → List ℕ → ℕ → ℕ → List ℕ
  anchor_of cl nonce position n = 1 ∷ F (F cl (eight 1)) (2 ∷ eight 1) ++ (nonce ++ E (F cl (eight 2)) nonce (eight position ++ eight n))

  -- the CL of S are A, B, A again; counters 1 and 2 of A, counter 1 of B
  abbrev pub mixed : List ℕ
  mixed = with_cs (counter_of cl_a 1 2 ∷ counter_of cl_a 2 5 ∷ counter_of cl_b 1 3 ∷ []) (log_of 1 cl_a ∷ log_of 20 cl_b ∷ log_of 40 cl_a ∷ [])

  -- A has an anchor and no counter
  abbrev pub anchored_before : List ℕ
  anchored_before = with_cs (anchor_of cl_a (zeros 12) 2 5 ∷ counter_of cl_b 1 3 ∷ []) (log_of 1 cl_a ∷ log_of 20 cl_b ∷ [])

  -- the counter of B is damaged
  abbrev pub damaged_b : List ℕ
  damaged_b = row_c suite cl_b 1 (eight 1) (eight 1) (eight 3)

  abbrev pub damaged_second : List ℕ
  damaged_second = with_cs (counter_of cl_a 1 2 ∷ damaged_b ∷ []) (log_of 1 cl_a ∷ log_of 20 cl_b ∷ [])

  abbrev pub damaged_first : List ℕ
  damaged_first = with_cs (counter_of cl_a 1 2 ∷ damaged_b ∷ []) (log_of 1 cl_b ∷ log_of 20 cl_a ∷ [])

  -- a counter at position 4,294,967,296, and what an anchor with that position looks like
  abbrev pub far_before : List ℕ
  far_before = with_cs (row_c suite cl_a 1 above_limit (eight 0) (eight 9) ∷ row_c suite cl_a 2 (eight 1) at_limit (eight 7) ∷ []) (log_of 1 cl_a ∷ [])

  abbrev pub far_after : List ℕ
  far_after =
      with_cs (row_c suite cl_a 2 (eight 1) at_limit (eight 7)
      ∷ (1 ∷ F (F cl_a (eight 1)) (2 ∷ eight 2) ++ (places 1 12 ++ E (F cl_a (eight 2)) (places 1 12) (above_limit ++ eight 9)))
      ∷ [])
      (zeros 45 ∷ [])

  -- two rows, of which the first is every counter and every anchor
  abbrev pub blind_twice : List ℕ
  blind_twice = with_cs (blind_row 7 ∷ blind_row 9 ∷ []) ((1 ∷ zeros 12 ++ cl_a) ∷ [])

  abbrev pub compaction_cases : List Case
  compaction_cases =
      -- anchors written, counters freed [01:OP13]
      ((compacted suite mixed 36).answer gives done (2 ∷ 3 ∷ []))
      ∷ ((compacted suite anchored_before 24).answer gives done (1 ∷ 1 ∷ []))
      ∷ ((compacted suite far_before 12).answer gives done (1 ∷ 1 ∷ []))
      -- the sum of the k, also where one row is two of the counters
      ∷ ((compacted blind blind_twice 12).answer gives done (1 ∷ 2 ∷ []))
      -- 19: a nonce for every used S row [01:RS5]
      ∷ ((compacted suite mixed 24).answer gives by 19)
      ∷ ((compacted suite mixed 48).answer gives done (2 ∷ 3 ∷ []))
      ∷ ((compacted suite (with_cs (zeros 61 ∷ []) (replicate 12 (log_of 1 cl_a))) 132).answer gives by 19)
      ∷ ((compacted suite (with_cs (zeros 61 ∷ []) (replicate 12 (log_of 1 cl_a))) 144).answer gives done (0 ∷ 0 ∷ []))
      -- 13 carries both numbers so far; 19 before 13 [01:RS6 RS13 RS1]
      ∷ ((compacted suite damaged_second 24).answer gives refused 13 (1 ∷ 1 ∷ []))
      ∷ ((compacted suite damaged_first 24).answer gives refused 13 (0 ∷ 0 ∷ []))
      ∷ ((compacted suite damaged_first 12).answer gives by 19)
      ∷ ((compacted suite (with_cs (row_c suite cl_a 2 (eight 1) above_limit (eight 7) ∷ []) (log_of 1 cl_a ∷ [])) 12).answer gives refused 13 (0 ∷ 0 ∷ []))
      ∷ []

  abbrev pub compaction_bytes : List Equation
  compaction_bytes =
      -- CL in order of first row, each with the next nonce; all its S rows are freed [01:OP10 OP11 OP12 ST14]
      ((compacted suite mixed 36).store is
      with_cs (anchor_of cl_a (places 1 12) 2 5 ∷ anchor_of cl_b (places 13 12) 1 3 ∷ zeros 61 ∷ []) (zeros 45 ∷ zeros 45 ∷ zeros 45 ∷ []))
      -- with k = 0 nothing is written and no nonce is used
      ∷ ((compacted suite anchored_before 24).store is
      with_cs (anchor_of cl_a (zeros 12) 2 5 ∷ anchor_of cl_b (places 1 12) 1 3 ∷ []) (zeros 45 ∷ zeros 45 ∷ []))
      -- the position in an anchor may be above the limit
      ∷ ((compacted suite far_before 12).store is far_after)
      -- 19 changes no byte; 13 leaves the CL before it treated [01:RS13]
      ∷ ((compacted suite mixed 24).store is mixed)
      ∷ ((compacted suite damaged_second 24).store is with_cs (anchor_of cl_a (places 1 12) 1 2 ∷ damaged_b ∷ []) (log_of 20 cl_b ∷ zeros 45 ∷ []))
      ∷ ((compacted suite damaged_first 24).store is damaged_first)
      -- the rows that the reading held are freed, and no other [01:OP11]
      ∷ ((compacted blind blind_twice 12).store is
      with_cs (blind_row 9 ∷ (1 ∷ zeros 32 ++ (places 1 12 ++ (eight 2 ++ eight 7))) ∷ []) (zeros 45 ∷ []))
      ∷ []
