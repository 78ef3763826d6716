-- Examples of a check (the request "Check"): each of the seven numbers on a store made for it by hand, with the others known, and 10, 11 and
-- 20 in their order. The claim sees seven zeros alone.
use Rattle.std.specs.Prelude.{ℕ, ◌*◌, ◌-◌, List, [], ◌∷◌, ◌++◌, length, take, set, replicate}
use Rattle.table.specs.Lists.{flat}
use Rattle.answer.specs.Answer.{Answer, done}
use Rattle.scheme.specs.Check
use Rattle.scheme.specs.Example.{Equation, ◌is◌, Case, ◌gives◌, zeros, by}
use Rattle.scheme.specs.RefusalExamples.{one, slice}

-- a tag by its first and its last byte, an id by its last byte
abbrev pub tag_by : ℕ → ℕ → List ℕ
tag_by a z = a ∷ replicate 30 5 ++ (z ∷ [])

abbrev pub id_by : ℕ → List ℕ
id_by n = replicate 15 7 ++ (n ∷ [])

-- rows of M or C with a tag, of V with an id and a tag, of R with an id; n stands for all bytes after
abbrev pub tagged : List ℕ → ℕ → List ℕ
tagged tag n = 1 ∷ tag ++ replicate 28 n

abbrev pub reverse : ℕ → List ℕ → List ℕ
reverse id tag = 1 ∷ id_by id ++ tag

abbrev pub labelled : ℕ → ℕ → List ℕ
labelled id n = 1 ∷ id_by id ++ replicate 44 n

-- p = 0, m = c = r = 3, s = 1, with these rows in M, V, C and R, and free ones after them
abbrev pub filled : ℕ → List (List ℕ) → List ℕ
filled w rows = flat rows ++ zeros (w * (3 - length rows))

abbrev pub holding : List (List ℕ) → List (List ℕ) → List (List ℕ) → List (List ℕ) → List ℕ
holding m v c r = 2 ∷ 0 ∷ 0 ∷ 3 ∷ 0 ∷ 3 ∷ 0 ∷ 1 ∷ 0 ∷ 3 ∷ filled 61 m ++ (filled 49 v ++ (filled 61 c ++ (zeros 45 ++ filled 61 r)))

-- three tags: B differs from A in the last byte alone, C in the first
abbrev pub tag_a : List ℕ
tag_a = tag_by 1 1

abbrev pub tag_b : List ℕ
tag_b = tag_by 1 2

abbrev pub tag_c : List ℕ
tag_c = tag_by 2 1

abbrev pub checking : List ℕ → Answer
checking store = (Check.check store).answer

-- the seven numbers: M repeated, C repeated, V without M, M without V, V without R, R without V, R in excess
abbrev pub numbers : ℕ → ℕ → ℕ → ℕ → ℕ → ℕ → ℕ → Answer
numbers mm cc vm mv vr rv excess = done (mm ∷ cc ∷ vm ∷ mv ∷ vr ∷ rv ∷ excess ∷ [])

abbrev pub check_cases : List Case
check_cases =
    -- nothing is used; three entries, under two ids, go together, and the bytes after tags and ids are not looked at
    (checking one gives numbers 0 0 0 0 0 0 0)
    ∷ (checking (holding (tagged tag_a 9 ∷ tagged tag_b 8 ∷ tagged tag_c 9 ∷ []) (reverse 1 tag_a ∷ reverse 1 tag_c ∷ reverse 2 tag_b ∷ []) (tagged tag_a 3 ∷ tagged tag_b 3 ∷ tagged tag_c 3 ∷ []) (labelled 1 0 ∷ labelled 1 1 ∷ labelled 2 0 ∷ [])) gives numbers 0 0 0 0 0 0 0)
    -- M: an insert at an address in use, its id another or the same; three rows of one tag are two too many [check:2]
    ∷ (checking (holding (tagged tag_a 0 ∷ tagged tag_a 1 ∷ tagged tag_b 0 ∷ []) (reverse 1 tag_a ∷ reverse 2 tag_a ∷ reverse 3 tag_b ∷ []) [] (labelled 1 0 ∷ labelled 2 0 ∷ labelled 3 0 ∷ [])) gives numbers 1 0 0 0 0 0 0)
    ∷ (checking (holding (tagged tag_a 0 ∷ tagged tag_b 0 ∷ tagged tag_b 1 ∷ []) (reverse 1 tag_a ∷ reverse 1 tag_b ∷ reverse 1 tag_b ∷ []) [] (labelled 1 0 ∷ labelled 1 1 ∷ labelled 1 2 ∷ [])) gives numbers 1 0 0 0 0 0 0)
    ∷ (checking (holding (tagged tag_a 0 ∷ tagged tag_a 0 ∷ tagged tag_a 1 ∷ []) (reverse 1 tag_a ∷ []) [] (labelled 1 0 ∷ [])) gives numbers 2 0 0 0 0 0 0)
    -- C [check:3]
    ∷ (checking (holding [] [] (tagged tag_a 0 ∷ tagged tag_a 1 ∷ tagged tag_b 0 ∷ []) []) gives numbers 0 1 0 0 0 0 0)
    ∷ (checking (holding [] [] (tagged tag_a 0 ∷ tagged tag_b 0 ∷ tagged tag_b 0 ∷ []) []) gives numbers 0 1 0 0 0 0 0)
    ∷ (checking (holding [] [] (tagged tag_c 4 ∷ tagged tag_c 4 ∷ tagged tag_c 4 ∷ []) []) gives numbers 0 2 0 0 0 0 0)
    -- V without M: each row counts; a row of C with the tag is no entry [check:4]
    ∷ (checking (holding (tagged tag_a 0 ∷ []) (reverse 1 tag_a ∷ reverse 1 tag_b ∷ []) [] (labelled 1 0 ∷ [])) gives numbers 0 0 1 0 0 0 0)
    ∷ (checking (holding (tagged tag_a 0 ∷ []) (reverse 1 tag_a ∷ reverse 1 tag_c ∷ reverse 2 tag_c ∷ []) (tagged tag_c 0 ∷ []) (labelled 1 0 ∷ labelled 2 0 ∷ [])) gives numbers 0 0 2 0 0 0 0)
    -- M without V [check:5]
    ∷ (checking (holding (tagged tag_a 0 ∷ tagged tag_b 0 ∷ tagged tag_c 0 ∷ []) (reverse 1 tag_a ∷ []) [] (labelled 1 0 ∷ [])) gives numbers 0 0 0 2 0 0 0)
    ∷ (checking (set one 10 1) gives numbers 0 0 0 1 0 0 0)
    -- V without R [check:6]
    ∷ (checking (holding (tagged tag_a 0 ∷ tagged tag_b 0 ∷ tagged tag_c 0 ∷ []) (reverse 1 tag_a ∷ reverse 2 tag_b ∷ reverse 2 tag_c ∷ []) [] (labelled 1 0 ∷ labelled 1 1 ∷ [])) gives numbers 0 0 0 0 2 0 0)
    -- R without V [check:7]
    ∷ (checking (holding (tagged tag_a 0 ∷ tagged tag_b 0 ∷ tagged tag_c 0 ∷ []) (reverse 1 tag_a ∷ reverse 1 tag_b ∷ reverse 1 tag_c ∷ []) [] (labelled 1 0 ∷ labelled 2 0 ∷ labelled 2 1 ∷ [])) gives numbers 0 0 0 0 0 2 0)
    -- R in excess; fewer rows of R than of V are none [check:8]
    ∷ (checking (holding (tagged tag_a 0 ∷ []) (reverse 1 tag_a ∷ []) [] (labelled 1 0 ∷ labelled 1 1 ∷ labelled 1 2 ∷ [])) gives numbers 0 0 0 0 0 0 2)
    ∷ (checking (holding (tagged tag_a 0 ∷ tagged tag_b 0 ∷ []) (reverse 1 tag_a ∷ reverse 1 tag_b ∷ []) [] (labelled 1 0 ∷ [])) gives numbers 0 0 0 0 0 0 0)
    -- all of them at once
    ∷ (checking (holding (tagged tag_a 0 ∷ tagged tag_a 1 ∷ tagged tag_b 0 ∷ []) (reverse 1 tag_a ∷ reverse 2 tag_c ∷ []) (tagged tag_c 4 ∷ tagged tag_c 4 ∷ tagged tag_c 4 ∷ []) (labelled 1 0 ∷ labelled 3 0 ∷ labelled 3 1 ∷ [])) gives numbers 1 2 1 1 1 2 1)
    -- 10, 11 and 20, in order [check:1]
    ∷ (checking [] gives by 10)
    ∷ (checking (take 9 one) gives by 10)
    ∷ (checking (slice 1 0 1 1 1 1 277) gives by 10)
    ∷ (checking (slice 2 0 1 1 1 1 276) gives by 10)
    ∷ (checking (set (slice 3 0 1 1 1 1 277) 10 2) gives by 10)
    ∷ (checking (set one 226 2) gives by 11)
    ∷ (checking (set (set one 11 2) 181 2) gives by 11)
    ∷ (checking (set one 11 2) gives by 20)
    ∷ (checking (holding (tagged tag_b 0 ∷ tagged tag_a 0 ∷ []) [] [] []) gives by 20)
    ∷ []

-- the store stays as it was, and there is no output [check:1]
abbrev pub check_bytes : List Equation
check_bytes =
    ((Check.check (holding (tagged tag_a 0 ∷ []) [] [] [])).store is holding (tagged tag_a 0 ∷ []) [] [] [])
    ∷ ((Check.check (set one 11 2)).store is set one 11 2)
    ∷ ((Check.check one).output is [])
    ∷ []
