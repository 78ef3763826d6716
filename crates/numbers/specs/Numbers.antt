-- The numbers in a row of C, and the tests for damage (document 01, "Reading a counter").
use Rattle.std.specs.Prelude.{ℕ, Bool, cond, not, ◌||◌, List, [], ltb, eqb, length, get_or, take, drop}
use Rattle.table.specs.Table.{Table, body}
use Rattle.scheme.specs.Suite.{value_of}
use Rattle.scheme.specs.Reading.{limit, Numbers as SchemeNumbers}
use Rattle.format.specs.Rows.{text_in}
use Rattle.numbers.specs.declared.Numbers.{Numbers}

-- the numbers in a row of C without its mark, under CE [01:ST9]
unfoldable pub numbers_in : List ℕ → List ℕ → SchemeNumbers
numbers_in ce b = record { a = value_of (take 8 (text_in ce b)); n = value_of (drop 8 (text_in ce b)) }

-- the numbers in the row at a place; others past the end
unfoldable pub numbers_or : List ℕ → Table → ℕ → SchemeNumbers → SchemeNumbers
numbers_or ce t i other = cond (ltb i (length t)) (numbers_in ce (body (get_or t i []))) other

-- the code's two numbers
abbrev pub numbers_of : Numbers → SchemeNumbers
numbers_of x = record { a = x.a; n = x.n }

-- a number of anchor B is above the limit; the first number of counter Start + k isn't 0, or its count is above it [01:RS6]
abbrev pub anchor_bad : SchemeNumbers → Bool
anchor_bad x = ltb limit x.a || ltb limit x.n

abbrev pub counter_bad : SchemeNumbers → Bool
counter_bad x = not (eqb x.a 0) || ltb limit x.n
