-- What the tests of an insert make of a call (document 01, "Refusals from the input", "Refusals from the state").
use Rattle.std.specs.Prelude.{ℕ, ◌||◌, List, [], ◌∷◌, ltb}
use Rattle.answer.specs.Verdict.{Test, ◌⇒◌}
use Rattle.scheme.specs.Reading.{limit}
use Rattle.store.specs.declared.Shape.{Shape}

-- 14 to 17, then 21, for a new count and n ids [01:RS7 RS8 RS9 RS10] [02:W4.28 W4.30]
unfoldable pub room_tests : Shape → ℕ → ℕ → List Test
room_tests z count n =
    (ltb limit count ⇒ 14)
    ∷ (ltb z.m.free n || ltb z.v.free n ⇒ 15)
    ∷ (ltb z.c.free 1 ⇒ 16)
    ∷ (ltb z.s.free 1 ⇒ 17)
    ∷ (ltb z.r.free n ⇒ 21)
    ∷ []
