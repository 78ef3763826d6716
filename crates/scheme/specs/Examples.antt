-- The worked examples, as one list: L1 to L6 of document 01's "Labels" and G1 to G8 of "A day in the ledger", ids that come more than once,
-- finds by several fields, checks. And what pins the definitions: bytes, readings and refusals.
use Rattle.std.specs.Prelude.{ℕ, List, [], ◌∷◌, ◌++◌, map, take, replicate}
use Rattle.answer.specs.Answer.{Answer, done, refused}
use Rattle.table.specs.Lists.{flat}
use Rattle.scheme.specs.Suite.{Suite}
use Rattle.scheme.specs.Labels.{Field, label}
use Rattle.scheme.specs.Example.{Example, ◌yields◌, ◌tells◌, bytes, every, cases, field_of}
use Rattle.scheme.specs.ByteExamples.{byte_equations, insert_bytes, erase_cases}
use Rattle.scheme.specs.RefusalExamples.{making_cases, store_making_cases, input_cases, many_rows, state_cases, form_cases, order_cases, insert_cases, query_cases, tally_cases, bound_bytes, query_bytes}
use Rattle.scheme.specs.ReadingExamples.{reading_bytes, rows_bytes, later_bytes, blind_bytes, blind_cases, compaction_cases, compaction_bytes}
use Rattle.scheme.specs.JointExamples.{least_bytes, test_cases, joint_bytes, joint_cases}
use Rattle.scheme.specs.CheckExamples.{check_cases, check_bytes}
use Rattle.scheme.specs.Store.{Sizes, fresh}
use Rattle.scheme.specs.Call.{Call, Part, Told}
use Rattle.scheme.specs.Ledger.{empty, ledger_tells}
use Rattle.scheme.specs.Run.{store_tells}
use Rattle.scheme.specs.Claim.{bounds_of}

-- ---- labels

-- the first n bytes of the label of a name of n bytes
abbrev pub start_of_label : ℕ → ℕ → List ℕ
start_of_label n k = take k (label (field_of (replicate n 0x61) []))

-- [01:LB3 LB4 LB5 LB6 LB7 LB8]
abbrev pub label_examples : List Example
label_examples =
    (label (field_of (0x61 ∷ []) []) yields (0x01 ∷ 0x61 ∷ []))
    ∷ (label (field_of (0x61 ∷ 0x62 ∷ []) (0x63 ∷ [])) yields (0x02 ∷ 0x61 ∷ 0x62 ∷ 0x63 ∷ []))
    ∷ (label (field_of (0x61 ∷ []) (0x62 ∷ 0x63 ∷ [])) yields (0x01 ∷ 0x61 ∷ 0x62 ∷ 0x63 ∷ []))
    ∷ (start_of_label 127 1 yields (0x7f ∷ []))
    ∷ (start_of_label 128 2 yields (0x80 ∷ 0x01 ∷ []))
    ∷ (start_of_label 255 2 yields (0xff ∷ 0x01 ∷ []))
    ∷ []

-- ---- the worked list of calls

-- p = 1, m = c = s = r = 4 [01:DY1] [02:W4.31]
abbrev pub worked_sizes : Sizes
worked_sizes = record { p = 1; m = 4; c = 4; s = 4; r = 4 }

abbrev pub key : List ℕ
key = replicate 32 0x4b

-- hue=red, size=L
abbrev pub hue_red : Field
hue_red = field_of (0x68 ∷ 0x75 ∷ 0x65 ∷ []) (0x72 ∷ 0x65 ∷ 0x64 ∷ [])

abbrev pub size_l : Field
size_l = field_of (0x73 ∷ 0x69 ∷ 0x7a ∷ 0x65 ∷ []) (0x4c ∷ [])

-- ids A to G: 16 times the letter
abbrev pub id_bytes : List ℕ → List ℕ
id_bytes letters = flat (map (replicate 16) letters)

-- the calls, with nonces of their own, and a find with an output of so many bytes, or of 64
abbrev pub inserts : Field → ℕ → List ℕ → ℕ → Call
inserts f u letters n = Call.insert key f 1 u (replicate 12 0x4e) (id_bytes letters) (replicate n 0x6e)

abbrev pub finds_in : ℕ → Call
finds_in room = Call.find key hue_red (replicate room 0x2e)

abbrev pub finds : Call
finds = finds_in 64

abbrev pub counts : Call
counts = Call.count key hue_red

abbrev pub erases : ℕ → Call
erases letter = Call.erase (id_bytes (letter ∷ []))

abbrev pub compacts : Call
compacts = Call.compact key (replicate 48 0x63)

-- what they tell
abbrev pub says : Answer → Told
says a = record { answer = a; output = [] }

abbrev pub number : ℕ → Told
number n = says (done (n ∷ []))

abbrev pub found : ℕ → List ℕ → ℕ → Told
found n letters left = record { answer = done (n ∷ []); output = id_bytes letters ++ replicate left 0x2e }

-- 18 with how many, and an output of so many bytes that is as it was
abbrev pub needs : ℕ → ℕ → Told
needs n room = record { answer = refused 18 (n ∷ []); output = replicate room 0x2e }

-- calls, and what they are to tell
pub record Block : Type 0 where
  pub calls : List Call
  pub told : List Told

abbrev pub worked : List Block
worked =
    -- G1 [01:DY2]
    record {
      calls = inserts hue_red 0 (65 ∷ 66 ∷ []) 60 ∷ inserts hue_red 1 (67 ∷ []) 36 ∷ finds ∷ counts ∷ [];
      told = number 2 ∷ number 1 ∷ found 3 (65 ∷ 66 ∷ 67 ∷ []) 16 ∷ number 3 ∷ [];
    }
    -- G2 [01:DY3]
    ∷ record { calls = erases 66 ∷ finds ∷ counts ∷ []; told = number 1 ∷ found 2 (65 ∷ 67 ∷ []) 32 ∷ number 3 ∷ [] }
    -- G3 [01:DY4]
    ∷ record { calls = compacts ∷ finds ∷ []; told = says (done (2 ∷ 2 ∷ [])) ∷ found 2 (65 ∷ 67 ∷ []) 32 ∷ [] }
    -- G4 [01:DY5]
    ∷ record { calls = inserts hue_red 0 (68 ∷ []) 36 ∷ finds ∷ []; told = number 3 ∷ found 3 (65 ∷ 68 ∷ 67 ∷ []) 16 ∷ [] }
    -- G5 [01:DY6]
    ∷ record { calls = inserts hue_red 0 (69 ∷ 70 ∷ []) 60 ∷ []; told = says (refused 15 []) ∷ [] }
    -- G6 [01:DY7]
    ∷ record {
      calls = erases 65 ∷ inserts hue_red 0 (69 ∷ 70 ∷ []) 60 ∷ finds ∷ [];
      told = number 1 ∷ number 5 ∷ found 4 (68 ∷ 69 ∷ 70 ∷ 67 ∷ []) 0 ∷ [];
    }
    -- G7 [01:DY8]
    ∷ record { calls = erases 67 ∷ inserts size_l 0 (71 ∷ []) 36 ∷ []; told = number 1 ∷ says (refused 16 []) ∷ [] }
    -- G8 [01:DY9]
    ∷ record { calls = compacts ∷ inserts size_l 0 (71 ∷ []) 36 ∷ []; told = says (done (1 ∷ 2 ∷ [])) ∷ number 1 ∷ [] }
    ∷ []

abbrev pub calls_of : List Block → List Call
calls_of bs = flat (map (λ (b : Block). b.calls) bs)

abbrev pub told_of : List Block → List Told
told_of bs = flat (map (λ (b : Block). b.told) bs)

-- ---- ids that are inserted more than once: found once, counted and erased as often as they were inserted

abbrev pub repeated_sizes : Sizes
repeated_sizes = record { p = 1; m = 7; c = 5; s = 5; r = 7 }

abbrev pub repeated : List Block
repeated =
    -- twice in a share, another id between: at the first place [02:W1.1 W1.2], and counted twice [02:W1.4]
    record { calls = inserts hue_red 0 (65 ∷ 66 ∷ 65 ∷ []) 84 ∷ finds ∷ counts ∷ []; told = number 3 ∷ found 2 (65 ∷ 66 ∷ []) 32 ∷ number 3 ∷ [] }
    -- in two shares, and the same insert again, as after a lost connection: room for the 3 different ids and not for all 7 entries is enough,
    -- a byte less is not [02:W1.3]
    ∷ record {
      calls = inserts hue_red 1 (67 ∷ 66 ∷ []) 60 ∷ inserts hue_red 1 (67 ∷ 66 ∷ []) 60 ∷ finds_in 48 ∷ finds_in 47 ∷ counts ∷ [];
      told = number 2 ∷ number 4 ∷ found 3 (65 ∷ 66 ∷ 67 ∷ []) 0 ∷ needs 3 47 ∷ number 7 ∷ [];
    }
    -- erase: every entry of the id [02:W1.6]; inserted again it stands at its new place
    ∷ record {
      calls = erases 65 ∷ finds ∷ inserts hue_red 0 (65 ∷ []) 36 ∷ finds ∷ [];
      told = number 2 ∷ found 2 (66 ∷ 67 ∷ []) 32 ∷ number 4 ∷ found 3 (66 ∷ 65 ∷ 67 ∷ []) 16 ∷ [];
    }
    -- in every share, and under another field too
    ∷ record {
      calls = inserts size_l 0 (66 ∷ []) 36 ∷ erases 66 ∷ finds ∷ counts ∷ [];
      told = number 1 ∷ number 4 ∷ found 2 (65 ∷ 67 ∷ []) 32 ∷ number 8 ∷ [];
    }
    ∷ []

-- ---- a store put in form between other calls: how many rows are used, and nothing changes [02:W2.8 W2.10]

abbrev pub orders : Call
orders = Call.order

abbrev pub ordered : List Block
ordered =
    record { calls = orders ∷ inserts hue_red 0 (65 ∷ 66 ∷ []) 60 ∷ orders ∷ []; told = number 0 ∷ number 2 ∷ number 8 ∷ [] }
    ∷ record { calls = inserts hue_red 1 (67 ∷ []) 36 ∷ orders ∷ finds ∷ []; told = number 1 ∷ number 13 ∷ found 3 (65 ∷ 66 ∷ 67 ∷ []) 16 ∷ [] }
    ∷ record { calls = erases 66 ∷ orders ∷ finds ∷ counts ∷ []; told = number 1 ∷ number 10 ∷ found 2 (65 ∷ 67 ∷ []) 32 ∷ number 3 ∷ [] }
    ∷ record { calls = compacts ∷ orders ∷ finds ∷ []; told = says (done (2 ∷ 2 ∷ [])) ∷ number 8 ∷ found 2 (65 ∷ 67 ∷ []) 32 ∷ [] }
    ∷ []

-- ---- a check between other calls, and one after the worked list: seven zeros [check:10]

abbrev pub checks : Block
checks = record { calls = Call.check ∷ []; told = says (done (0 ∷ 0 ∷ 0 ∷ 0 ∷ 0 ∷ 0 ∷ 0 ∷ [])) ∷ [] }

abbrev pub checked : List Block
checked =
    checks
    -- an id under two fields, and twice under one
    ∷ record { calls = inserts hue_red 0 (65 ∷ 66 ∷ 65 ∷ []) 84 ∷ inserts size_l 0 (65 ∷ []) 36 ∷ []; told = number 3 ∷ number 1 ∷ [] }
    ∷ checks
    ∷ record { calls = erases 66 ∷ []; told = number 1 ∷ [] }
    ∷ checks
    ∷ record { calls = compacts ∷ inserts hue_red 1 (67 ∷ []) 36 ∷ []; told = says (done (2 ∷ 2 ∷ [])) ∷ number 1 ∷ [] }
    ∷ checks
    ∷ []

-- ---- finds by several fields, and tests

-- room for 8 entries, and in R for 7
abbrev pub joint_sizes : Sizes
joint_sizes = record { p = 1; m = 8; c = 6; s = 6; r = 7 }

-- a part of a joint find, with the key or with one of 31 bytes; a field that no insert names
abbrev pub part : Field → Part
part f = record { key = key; field = f }

abbrev pub bad_part : Part
bad_part = record { key = replicate 31 0x4b; field = hue_red }

abbrev pub blue : Field
blue = field_of (0x68 ∷ 0x75 ∷ 0x65 ∷ []) (0x62 ∷ [])

abbrev pub joins_in : ℕ → List Part → Call
joins_in room parts = Call.joint_find parts (replicate room 0x2e)

abbrev pub red_and_l : List Part
red_and_l = part hue_red ∷ part size_l ∷ []

abbrev pub l_and_red : List Part
l_and_red = part size_l ∷ part hue_red ∷ []

abbrev pub tests : Field → ℕ → Call
tests f letter = Call.test key f (id_bytes (letter ∷ []))

-- a refusal that leaves an output of so many bytes
abbrev pub refuses : ℕ → ℕ → Told
refuses n room = record { answer = refused n []; output = replicate room 0x2e }

abbrev pub jointly : List Block
jointly =
    -- in the order of the field with the fewer made, whichever part it is [02:W4.19 W4.21]; one part alone is the find
    record {
      calls = inserts hue_red 0 (65 ∷ 66 ∷ 67 ∷ []) 84 ∷ inserts size_l 1 (67 ∷ 65 ∷ []) 60 ∷ joins_in 40 red_and_l ∷ joins_in 40 l_and_red ∷ joins_in 64 (part hue_red ∷ []) ∷ [];
      told = number 3 ∷ number 2 ∷ found 2 (67 ∷ 65 ∷ []) 8 ∷ found 2 (67 ∷ 65 ∷ []) 8 ∷ found 3 (65 ∷ 66 ∷ 67 ∷ []) 16 ∷ [];
    }
    -- a test says whether the id is in a list of the field and value, of any share [02:W4.17]
    ∷ record {
      calls = tests hue_red 65 ∷ tests size_l 65 ∷ tests size_l 66 ∷ tests blue 65 ∷ joins_in 16 (part hue_red ∷ part blue ∷ []) ∷ [];
      told = number 1 ∷ number 1 ∷ number 0 ∷ number 0 ∷ found 0 [] 16 ∷ [];
    }
    -- the earlier on a tie of 3 made [02:W4.20]
    ∷ record {
      calls = inserts size_l 0 (68 ∷ []) 36 ∷ joins_in 32 red_and_l ∷ joins_in 32 l_and_red ∷ [];
      told = number 1 ∷ found 2 (65 ∷ 67 ∷ []) 0 ∷ found 2 (67 ∷ 65 ∷ []) 0 ∷ [];
    }
    -- an erased id is in no joint find and tests no [02:W4.14]; 18 by the ids kept [02:W4.23]
    ∷ record {
      calls = erases 67 ∷ joins_in 16 red_and_l ∷ joins_in 15 red_and_l ∷ tests hue_red 67 ∷ tests hue_red 66 ∷ [];
      told = number 2 ∷ found 1 (65 ∷ []) 0 ∷ needs 1 15 ∷ number 0 ∷ number 1 ∷ [];
    }
    -- a compaction changes nothing of it; the least is by the number made, and not by the ids still listed: both have 3 made
    ∷ record {
      calls = compacts ∷ erases 66 ∷ joins_in 16 l_and_red ∷ [];
      told = says (done (3 ∷ 3 ∷ [])) ∷ number 1 ∷ found 1 (65 ∷ []) 0 ∷ [];
    }
    -- 3 entries are listed: 5 more have room in M and not in R, 4 have in both [02:W4.28 W4.29 W4.30]
    ∷ record {
      calls = inserts hue_red 0 (69 ∷ 70 ∷ 71 ∷ 72 ∷ 73 ∷ []) 132 ∷ inserts hue_red 0 (69 ∷ 70 ∷ 71 ∷ 72 ∷ []) 108 ∷ [];
      told = says (refused 21 []) ∷ number 7 ∷ [];
    }
    -- the parts are made in order, and the first refused ends the call; then 6 by their number [02:W4.18 W4.24 W4.25]
    ∷ record {
      calls = joins_in 8 [] ∷ joins_in 8 (replicate 8 (part blue)) ∷ joins_in 8 (replicate 9 (part blue)) ∷ joins_in 8 (replicate 9 (part blue) ++ (bad_part ∷ [])) ∷ [];
      told = refuses 6 8 ∷ found 0 [] 8 ∷ refuses 6 8 ∷ refuses 1 8 ∷ [];
    }
    ∷ []

-- ---- the lists

-- calls from the start on: what the ledger is to tell of them, and what the store is
abbrev pub on_ledger : Sizes → List Block → Example
on_ledger z blocks = ledger_tells (bounds_of z) empty (calls_of blocks) tells told_of blocks

abbrev pub on_store : Suite → Sizes → List Block → Example
on_store suite z blocks = store_tells suite (calls_of blocks) (fresh z) tells told_of blocks

abbrev pub ledger_examples : List Example
ledger_examples =
    on_ledger worked_sizes (worked ++ (checks ∷ []))
    ∷ on_ledger repeated_sizes repeated
    ∷ on_ledger worked_sizes ordered
    ∷ on_ledger worked_sizes checked
    ∷ on_ledger joint_sizes jointly
    ∷ []

abbrev pub store_examples : Suite → List Example
store_examples suite =
    on_store suite worked_sizes (worked ++ (checks ∷ []))
    ∷ on_store suite repeated_sizes repeated
    ∷ on_store suite worked_sizes ordered
    ∷ on_store suite worked_sizes checked
    ∷ on_store suite joint_sizes jointly
    ∷ []

-- the worked examples: the labels, and the lists of calls on the ledger and on the store [01:DY10] [02:W1.5]; and a store with too many rows
abbrev pub examples : Suite → List Example
examples suite = label_examples ++ (ledger_examples ++ (store_examples suite ++ (cases (many_rows suite) ∷ [])))

-- what pins the definitions where the claim does not see them: the labels, the lists on the ledger, bytes, readings and refusals
abbrev pub pinned : Suite → List Example
pinned suite =
    label_examples ++
    (ledger_examples ++
    (every byte_equations
    ∷ bytes (least_bytes ++ joint_bytes suite)
    ∷ cases (test_cases suite ++ joint_cases suite)
    ∷ bytes check_bytes
    ∷ cases check_cases
    ∷ bytes (insert_bytes suite ++ (reading_bytes suite ++ (rows_bytes suite ++ (later_bytes suite ++ (blind_bytes ++ (compaction_bytes suite ++ (bound_bytes suite ++ query_bytes suite)))))))
    ∷ cases (making_cases ++ store_making_cases)
    ∷ cases (input_cases suite)
    ∷ cases (state_cases suite ++ (form_cases suite ++ order_cases suite))
    ∷ cases (insert_cases suite ++ (erase_cases ++ (query_cases suite ++ (tally_cases suite ++ blind_cases))))
    ∷ cases (compaction_cases suite)
    ∷ []))
