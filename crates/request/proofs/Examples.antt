-- What lines ask for, read off: a count's last word, a find's fields, a new store's sizes, a check.
use Prim.Native.Nat.{ℕ, zero, suc}
use mathlib.Core.Path.{◌≡◌, refl}
use mathlib.Core.Bool.{true, false}
use mathlib.Core.List.{List, [], ◌∷◌, ◌++◌}
use Rattle.text.specs.Ascii.{ascii}
use Rattle.words.specs.Decimal.{further, decimal_of}
use Rattle.words.specs.Line.{before, from_word, word_at, word_count}
use Rattle.words.specs.declared.Command.TheVariants.{New as New₀, Find as Find₀, Count as Count₀, Check as Check₀}
use Rattle.request.specs.Request.{new_of, find_of, count_of, request_of}
use Rattle.request.specs.declared.Request.{Request}
use Rattle.request.specs.declared.Request.TheVariants.{Misused, New, Find, FindBy, Count, CountBy, Check}

-- each word ends with a 0
line_of : List (List ℕ) → List ℕ
line_of [] = []
line_of (w ∷ ws) = w ++ (0 ∷ line_of ws)

abbrev asked : List (List ℕ) → Request
asked words = request_of (line_of (ascii "count" ∷ ascii "s" ∷ words))

-- the value --rows is a value
value : asked (ascii "k" ∷ ascii "hue" ∷ ascii "--rows" ∷ []) ≡ Count false
unfolding before from_word word_at word_count count_of request_of line_of
value = refl

last : asked (ascii "k" ∷ ascii "hue" ∷ ascii "--rows" ∷ ascii "--rows" ∷ []) ≡ Count true
unfolding before from_word word_at word_count count_of request_of line_of
last = refl

token : asked (ascii "--token" ∷ ascii "--rows" ∷ []) ≡ CountBy false
unfolding before from_word word_at word_count count_of request_of line_of
token = refl

after_token : asked (ascii "--token" ∷ ascii "0a" ∷ ascii "--rows" ∷ []) ≡ CountBy true
unfolding before from_word word_at word_count count_of request_of line_of
after_token = refl

another : asked (ascii "k" ∷ ascii "hue" ∷ ascii "red" ∷ ascii "--row" ∷ []) ≡ Misused Count₀
unfolding before from_word word_at word_count count_of request_of line_of
another = refl

too_many : asked (ascii "--token" ∷ ascii "0a" ∷ ascii "--rows" ∷ ascii "--rows" ∷ []) ≡ Misused Count₀
unfolding before from_word word_at word_count count_of request_of line_of
too_many = refl

-- a find by n fields, with a last word or none [02:W4.18]
pairs : ℕ → List (List ℕ) → List (List ℕ)
pairs zero last = last
pairs (suc n) last = ascii "hue" ∷ ascii "red" ∷ pairs n last

abbrev found : List (List ℕ) → Request
found words = request_of (line_of (ascii "find" ∷ ascii "s" ∷ words))

one : found (ascii "k" ∷ pairs 1 []) ≡ Find 1
unfolding before from_word word_at word_count find_of request_of line_of pairs
one = refl

eight : found (ascii "k" ∷ pairs 8 []) ≡ Find 8
unfolding before from_word word_at word_count find_of request_of line_of pairs
eight = refl

nine : found (ascii "k" ∷ pairs 9 []) ≡ Misused Find₀
unfolding before from_word word_at word_count find_of request_of line_of pairs
nine = refl

odd : found (ascii "k" ∷ pairs 2 (ascii "month" ∷ [])) ≡ Misused Find₀
unfolding before from_word word_at word_count find_of request_of line_of pairs
odd = refl

by_token : found (ascii "--token" ∷ ascii "0a" ∷ []) ≡ FindBy
unfolding before from_word word_at word_count find_of request_of line_of
by_token = refl

token_and_field : found (ascii "--token" ∷ ascii "0a" ∷ ascii "hue" ∷ ascii "red" ∷ []) ≡ Misused Find₀
unfolding before from_word word_at word_count find_of request_of line_of
token_and_field = refl

-- p, m, c, s, r, and no fewer [02:W4.2]
sizes : request_of (line_of (ascii "new" ∷ ascii "s" ∷ ascii "0" ∷ ascii "1" ∷ ascii "2" ∷ ascii "3" ∷ ascii "4" ∷ [])) ≡ New 0 1 2 3 4
unfolding before from_word word_at word_count further decimal_of new_of request_of line_of
sizes = refl

no_labels : request_of (line_of (ascii "new" ∷ ascii "s" ∷ ascii "0" ∷ ascii "1" ∷ ascii "2" ∷ ascii "3" ∷ [])) ≡ Misused New₀
unfolding before from_word word_at word_count new_of request_of line_of
no_labels = refl

-- a store and nothing else [check:12]
check : request_of (line_of (ascii "check" ∷ ascii "s" ∷ [])) ≡ Check
unfolding before from_word word_at word_count request_of line_of
check = refl

check_with_key : request_of (line_of (ascii "check" ∷ ascii "s" ∷ ascii "k" ∷ [])) ≡ Misused Check₀
unfolding before from_word word_at word_count request_of line_of
check_with_key = refl
