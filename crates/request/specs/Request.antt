-- What a command line asks for, by its words: word 0 is the command's own.
use Rattle.std.specs.Prelude.{ℕ, zero, suc, ◌+◌, ◌-◌, ◌/◌, ◌%◌, ◌≤◌, min, Bool, true, false, cond, List, Option, Some, None, Result, Ok, Err, ltb, eqb}
use Rattle.octets.specs.Compare.{same}
use Rattle.text.specs.Ascii.{ascii}
use Rattle.text.specs.Hex.{is_id_of}
use Rattle.words.specs.Decimal.{decimal_of}
use Rattle.words.specs.Words.{command_of, words_fit}
use Rattle.words.specs.Line.{word_at, word_count}
use Rattle.words.specs.declared.Command.{Command}
use Rattle.words.specs.declared.Command.TheVariants.{New as New₀, Key as Key₀, Insert as Insert₀, Find as Find₀, Count as Count₀, Erase as Erase₀, Compact as Compact₀, Order as Order₀, Token as Token₀, Show as Show₀, Check as Check₀, Help as Help₀, Unknown}
use Rattle.request.specs.declared.Wrong.{Wrong}
use Rattle.request.specs.declared.Wrong.TheVariants.{Misused as Misused₁, NotNumber as NotNumber₁, NotId as NotId₁}
use Rattle.request.specs.declared.Request.{Request}
use Rattle.request.specs.declared.Request.TheVariants.{Help, Misused, NotNumber, NotId, New, Key, Insert, Find, Count, Erase, Compact, Order, Show, Check, InsertToken, FindToken, CountToken, CompactionToken, InsertBy, FindBy, CountBy, CompactBy}

-- what a line asks for that is wrong
abbrev pub wrong_of : Wrong → Request
wrong_of (Misused₁ c) = Misused c
wrong_of (NotNumber₁ i) = NotNumber i
wrong_of (NotId₁ i) = NotId i

-- what is told of a line, right or wrong
abbrev pub told : Result Request Wrong → Request
told (Ok r) = r
told (Err w) = wrong_of w

-- what is made of word i as a number
abbrev pub with_number : Option ℕ → ℕ → (ℕ → Request) → Request
with_number (Some n) i f = f n
with_number None i f = NotNumber i

abbrev pub number_at : ℕ → List ℕ → (ℕ → Request) → Request
number_at i line f = with_number (decimal_of (word_at i line)) i f

-- new STORE P M C S R
unfoldable pub new_of : List ℕ → Request
new_of line =
    number_at 2 line (λ p. number_at 3 line (λ m. number_at 4 line (λ c. number_at 5 line (λ s. number_at 6 line (λ r. New p m c s r)))))

-- the first word that is no id, of n words from word i on; the word after them where all are
unfoldable pub first_bad : ℕ → ℕ → List ℕ → ℕ
first_bad zero i line = i
first_bad (suc n) i line = cond (is_id_of (word_at i line)) (first_bad n (i + 1) line) i

-- so many ids: a 65th is enough to be refused by their number
abbrev pub ids_given : ℕ → List ℕ → ℕ
ids_given first line = min (word_count line - first) 65

-- n words from a word on, of which this is the first that is no id
abbrev pub with_ids : ℕ → ℕ → ℕ → Request → Request
with_ids first n bad q = cond (ltb bad (first + n)) (NotId bad) q

abbrev pub ids_from : ℕ → List ℕ → (ℕ → Request) → Request
ids_from first line f = with_ids first (ids_given first line) (first_bad (ids_given first line) first line) (f (ids_given first line))

-- insert STORE KEYFILE FIELD VALUE SHARE ID...
unfoldable pub insert_of : List ℕ → Request
insert_of line = number_at 5 line (λ u. ids_from 6 line (Insert u))

-- insert STORE --token TOKEN ID...
unfoldable pub insert_by_of : List ℕ → Request
insert_by_of line = ids_from 4 line InsertBy

-- find STORE KEYFILE, then 1 to 8 times FIELD VALUE: by so many words after KEYFILE [02:W4.18]
abbrev pub pairs_of : ℕ → Request
pairs_of n = cond (eqb (n % 2) 0) (cond (ltb 8 (n / 2)) (Misused Find₀) (Find (n / 2))) (Misused Find₀)

unfoldable pub find_of : List ℕ → Request
find_of line = pairs_of (word_count line - 3)

-- a count takes so many words; --rows after them, and nothing else, asks for the rows looked at too [02:W3.8]
unfoldable pub count_of : ℕ → Request → Request → List ℕ → Request
count_of n plain rows line =
    cond (eqb (word_count line) n) plain
    (cond (eqb (word_count line) (n + 1)) (cond (same (word_at n line) (ascii "--rows")) rows (Misused Count₀)) (Misused Count₀))

-- whether a count of so many words asks for the rows looked at
abbrev pub rows_of : ℕ → List ℕ → Result Bool Wrong
rows_of n line =
    cond (eqb (word_count line) n) (Ok false)
    (cond (eqb (word_count line) (n + 1)) (cond (same (word_at n line) (ascii "--rows")) (Ok true) (Err (Misused₁ Count₀))) (Err (Misused₁ Count₀)))

-- erase STORE ID
unfoldable pub erase_of : List ℕ → Request
erase_of line = cond (is_id_of (word_at 2 line)) Erase (NotId 2)

-- token insert KEYFILE FIELD VALUE P SHARE
unfoldable pub insert_token_of : List ℕ → Request
insert_token_of line = number_at 5 line (λ p. number_at 6 line (λ u. InsertToken p u))

-- token COMMAND KEYFILE, then for find and count FIELD VALUE
abbrev pub making_by : Command → ℕ → List ℕ → Request
making_by New₀ n line = Misused Token₀
making_by Key₀ n line = Misused Token₀
making_by Insert₀ n line = cond (eqb n 7) (insert_token_of line) (Misused Token₀)
making_by Find₀ n line = cond (eqb n 5) FindToken (Misused Token₀)
making_by Count₀ n line = cond (eqb n 5) CountToken (Misused Token₀)
making_by Erase₀ n line = Misused Token₀
making_by Compact₀ n line = cond (eqb n 3) CompactionToken (Misused Token₀)
making_by Order₀ n line = Misused Token₀
making_by Token₀ n line = Misused Token₀
making_by Show₀ n line = Misused Token₀
making_by Check₀ n line = Misused Token₀
making_by Help₀ n line = Misused Token₀
making_by Unknown n line = Misused Token₀

unfoldable pub making_of : List ℕ → Request
making_of line = making_by (command_of (word_at 1 line)) (word_count line) line

-- by the command, and whether a token stands in place of a key; each has as many words as it takes
abbrev pub request_by : Command → Bool → List ℕ → Request
request_by New₀ b line = new_of line
request_by Key₀ b line = Key
request_by Insert₀ b line = cond b (insert_by_of line) (insert_of line)
request_by Find₀ b line = cond b FindBy (find_of line)
request_by Count₀ b line = cond b (count_of 4 (CountBy false) (CountBy true) line) (count_of 5 (Count false) (Count true) line)
request_by Erase₀ b line = erase_of line
request_by Compact₀ b line = cond b CompactBy Compact
request_by Order₀ b line = Order
request_by Token₀ b line = making_of line
request_by Show₀ b line = Show
request_by Check₀ b line = Check
request_by Help₀ b line = Help (command_of (word_at 1 line))
request_by Unknown b line = Misused Unknown

-- whether word 2 is the one that a token follows
abbrev pub has_token : List ℕ → Bool
has_token line = same (word_at 2 line) (ascii "--token")

abbrev pub request_with : Command → Bool → List ℕ → Request
request_with c b line = cond (words_fit c b (word_count line)) (request_by c b line) (Misused c)

unfoldable pub request_of : List ℕ → Request
request_of line = request_with (command_of (word_at 0 line)) (has_token line) line

-- a request brings at most 65 ids, and a find at most 8 fields
abbrev pub Bounded : Request → Type 0
Bounded (Help c) = Unit {0}
Bounded (Misused c) = Unit {0}
Bounded (NotNumber i) = Unit {0}
Bounded (NotId i) = Unit {0}
Bounded (New p m c s r) = Unit {0}
Bounded Key = Unit {0}
Bounded (Insert u n) = n ≤ 65
Bounded (Find n) = n ≤ 8
Bounded (Count rows) = Unit {0}
Bounded Erase = Unit {0}
Bounded Compact = Unit {0}
Bounded Order = Unit {0}
Bounded Show = Unit {0}
Bounded Check = Unit {0}
Bounded (InsertToken p u) = Unit {0}
Bounded FindToken = Unit {0}
Bounded CountToken = Unit {0}
Bounded CompactionToken = Unit {0}
Bounded (InsertBy n) = n ≤ 65
Bounded FindBy = Unit {0}
Bounded (CountBy rows) = Unit {0}
Bounded CompactBy = Unit {0}
