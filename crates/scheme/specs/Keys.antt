-- Document 01, "Keys and tokens".
use Rattle.std.specs.Prelude.{ℕ, List, ◌∷◌, ◌++◌, get_or, take, drop}
use Rattle.scheme.specs.Suite.{Suite, number8}
use Rattle.scheme.specs.Labels.{Field, label}

module _ (suite : Suite) where
  open suite use {F, E}

  -- KM, KC, KS from the master key K of 32 bytes; KS is the same for all compactions [01:KT1 KT2 KT11]
  unfoldable pub KM : List ℕ → List ℕ
  KM K = F K (number8 1)

  unfoldable pub KC : List ℕ → List ℕ
  KC K = F K (number8 2)

  unfoldable pub KS : List ℕ → List ℕ
  KS K = F K (number8 3)

  -- with label x, before the share: the parts of a find token [01:KT4 KT8]
  unfoldable pub field_mt : List ℕ → Field → List ℕ
  field_mt K f = F (F (KM K) (number8 1)) (label f)

  unfoldable pub field_me : List ℕ → Field → List ℕ
  field_me K f = F (F (KM K) (number8 2)) (label f)

  unfoldable pub field_cl : List ℕ → Field → List ℕ
  field_cl K f = F (KC K) (label f)

  -- one of those for share u [01:KT3 KT5 KT6]
  unfoldable pub share : List ℕ → ℕ → List ℕ
  share key u = F key (number8 u)

  unfoldable pub MT : List ℕ → Field → ℕ → List ℕ
  MT K f u = share (field_mt K f) u

  unfoldable pub ME : List ℕ → Field → ℕ → List ℕ
  ME K f u = share (field_me K f) u

  unfoldable pub CL : List ℕ → Field → ℕ → List ℕ
  CL K f u = share (field_cl K f) u

  -- from CL [01:KT6]
  unfoldable pub CT : List ℕ → List ℕ
  CT cl = F cl (number8 1)

  unfoldable pub CE : List ℕ → List ℕ
  CE cl = F cl (number8 2)

  -- RL: the key of a label's R marks, the same in every share [02:W4.4]
  unfoldable pub RL : List ℕ → Field → List ℕ
  RL K f = F (F K (number8 4)) (label f)

  -- the tokens [01:KT7 KT8 KT9 KT10]; an insert token ends with RL [02:W4.9]
  unfoldable pub insert_token : List ℕ → Field → ℕ → ℕ → List ℕ → List ℕ
  insert_token K f p u nonce = p ∷ MT K f u ++ (ME K f u ++ (CL K f u ++ (nonce ++ (E (KS K) nonce (CL K f u) ++ RL K f))))

  unfoldable pub find_token : List ℕ → Field → List ℕ
  find_token K f = field_mt K f ++ (field_me K f ++ field_cl K f)

  unfoldable pub count_token : List ℕ → Field → List ℕ
  count_token K f = field_cl K f

  unfoldable pub compaction_token : List ℕ → List ℕ
  compaction_token K = KS K

  -- what a test takes, and a part of a joint find: a find token, then RL [02:W4.16 W4.18]
  unfoldable pub mark_token : List ℕ → Field → List ℕ
  mark_token K f = RL K f

  unfoldable pub part_token : List ℕ → Field → List ℕ
  part_token K f = find_token K f ++ RL K f

-- how many bytes a token has [01:KT7 KT8 KT9 KT10] [02:W4.9 W4.16 W4.18]
abbrev pub insert_token_length : ℕ
insert_token_length = 173

abbrev pub find_token_length : ℕ
find_token_length = 96

abbrev pub count_token_length : ℕ
count_token_length = 32

abbrev pub compaction_token_length : ℕ
compaction_token_length = 32

abbrev pub mark_token_length : ℕ
mark_token_length = 32

abbrev pub part_token_length : ℕ
part_token_length = 128

-- the parts of an insert token; the 44 bytes before RL are an S row's [01:KT7 OP1] [02:W4.9 W4.10]
unfoldable pub token_p : List ℕ → ℕ
token_p token = get_or token 0 0

unfoldable pub token_mt : List ℕ → List ℕ
token_mt token = take 32 (drop 1 token)

unfoldable pub token_me : List ℕ → List ℕ
token_me token = take 32 (drop 33 token)

unfoldable pub token_cl : List ℕ → List ℕ
token_cl token = take 32 (drop 65 token)

unfoldable pub token_log : List ℕ → List ℕ
token_log token = take 44 (drop 97 token)

unfoldable pub token_rl : List ℕ → List ℕ
token_rl token = drop 141 token

-- the parts of a find token [01:KT8]
unfoldable pub find_mt : List ℕ → List ℕ
find_mt token = take 32 token

unfoldable pub find_me : List ℕ → List ℕ
find_me token = take 32 (drop 32 token)

unfoldable pub find_cl : List ℕ → List ℕ
find_cl token = drop 64 token

-- the find token and the RL of a part [02:W4.18]
unfoldable pub part_find : List ℕ → List ℕ
part_find part = take 96 part

unfoldable pub part_rl : List ℕ → List ℕ
part_rl part = drop 96 part
