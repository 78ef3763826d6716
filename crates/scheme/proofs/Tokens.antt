-- The parts of an insert token are those it was made of; its log part decrypts to the CL. So are the parts of a joint find's part.
use Prim.Native.Nat.{ℕ}
use mathlib.Core.Path.{◌≡◌, refl, sym, ap, ◌∙◌}
use mathlib.Core.List.{List, ◌++◌, append_assoc}
use native.Mathlib.Omega.{arith}
use lib.ListN.{length, take, drop, length-append}
use lib.Seq.{take_at, drop_at, drop-drop}
use Rattle.scheme.specs.Labels.{Field, label}
use Rattle.scheme.specs.Keys.{MT, ME, CL, KS, field_mt, field_me, field_cl, RL, share, insert_token, token_p, token_mt, token_me, token_cl, token_log, token_rl, KM, KC, find_token, part_token, part_find, part_rl}
use Rattle.scheme.specs.Suite.{Suite, number8}
use Rattle.scheme.specs.Store.{cl_in}

module _ (suite : Suite) where
  share-length : (key : List ℕ) (u : ℕ) → length (share suite key u) ≡ 32
  unfolding share
  share-length key u = suite.f_length key (number8 u)

  pub MT-length : (K : List ℕ) (f : Field) (u : ℕ) → length (MT suite K f u) ≡ 32
  unfolding MT
  MT-length K f u = share-length (field_mt suite K f) u

  pub ME-length : (K : List ℕ) (f : Field) (u : ℕ) → length (ME suite K f u) ≡ 32
  unfolding ME
  ME-length K f u = share-length (field_me suite K f) u

  pub CL-length : (K : List ℕ) (f : Field) (u : ℕ) → length (CL suite K f u) ≡ 32
  unfolding CL
  CL-length K f u = share-length (field_cl suite K f) u

  pub RL-length : (K : List ℕ) (f : Field) → length (RL suite K f) ≡ 32
  unfolding RL
  RL-length K f = suite.f_length (suite.F K (number8 4)) (label f)

-- four lists one after the other, the first three of 32
module _ (a b c d : List ℕ) (ha : length a ≡ 32) (hb : length b ≡ 32) (hc : length c ≡ 32) where
  second : drop 32 (a ++ (b ++ (c ++ d))) ≡ b ++ (c ++ d)
  second = drop_at a (b ++ (c ++ d)) 32 ha

  third : drop 64 (a ++ (b ++ (c ++ d))) ≡ c ++ d
  third = sym (drop-drop 32 32 (a ++ (b ++ (c ++ d)))) ∙ ap (drop 32) second ∙ drop_at b (c ++ d) 32 hb

  fourth : drop 96 (a ++ (b ++ (c ++ d))) ≡ d
  fourth = sym (drop-drop 32 64 (a ++ (b ++ (c ++ d)))) ∙ ap (drop 32) third ∙ drop_at c d 32 hc

module _ (suite : Suite) (K : List ℕ) (f : Field) (p u : ℕ) (nonce : List ℕ) where
  abbrev pub token : List ℕ
  token = insert_token suite K f p u nonce

  abbrev pub log : List ℕ
  log = nonce ++ suite.E (KS suite K) nonce (CL suite K f u)

  -- what follows CL
  abbrev tail : List ℕ
  tail = nonce ++ (suite.E (KS suite K) nonce (CL suite K f u) ++ RL suite K f)

  tail_is : tail ≡ log ++ RL suite K f
  tail_is = sym (append_assoc nonce (suite.E (KS suite K) nonce (CL suite K f u)) (RL suite K f))

  pub token_p_lem : token_p token ≡ p
  unfolding token_p insert_token
  token_p_lem = refl

  pub token-MT : token_mt token ≡ MT suite K f u
  unfolding token_mt insert_token
  token-MT = take_at (MT suite K f u) (ME suite K f u ++ (CL suite K f u ++ tail)) 32 (MT-length suite K f u)

  pub token-ME : token_me token ≡ ME suite K f u
  unfolding token_me insert_token
  token-ME =
      ap (take 32) (second (MT suite K f u) (ME suite K f u) (CL suite K f u) tail (MT-length suite K f u) (ME-length suite K f u) (CL-length suite K f u))
      ∙ take_at (ME suite K f u) (CL suite K f u ++ tail) 32 (ME-length suite K f u)

  pub token-CL : token_cl token ≡ CL suite K f u
  unfolding token_cl insert_token
  token-CL =
      ap (take 32) (third (MT suite K f u) (ME suite K f u) (CL suite K f u) tail (MT-length suite K f u) (ME-length suite K f u) (CL-length suite K f u))
      ∙ take_at (CL suite K f u) tail 32 (CL-length suite K f u)

  pub log-length : length nonce ≡ 12 → length log ≡ 44
  log-length h =
      let a = length-append nonce (suite.E (KS suite K) nonce (CL suite K f u)) in
      let b = suite.e_length (KS suite K) nonce (CL suite K f u) in
      let c = CL-length suite K f u in
      omega arith

  after_cl : drop 97 token ≡ log ++ RL suite K f
  unfolding insert_token
  after_cl = fourth (MT suite K f u) (ME suite K f u) (CL suite K f u) tail (MT-length suite K f u) (ME-length suite K f u) (CL-length suite K f u) ∙ tail_is

  pub token-log : length nonce ≡ 12 → token_log token ≡ log
  unfolding token_log
  token-log h = ap (take 44) after_cl ∙ take_at log (RL suite K f) 44 (log-length h)

  pub token-RL : length nonce ≡ 12 → token_rl token ≡ RL suite K f
  unfolding token_rl
  token-RL h = sym (drop-drop 44 97 token) ∙ ap (drop 44) after_cl ∙ drop_at log (RL suite K f) 44 (log-length h)

  pub token-length : length nonce ≡ 12 → length token ≡ 173
  unfolding insert_token
  token-length h =
      let a = log-length h in
      let b = length-append (CL suite K f u) tail in
      let c = length-append (ME suite K f u) (CL suite K f u ++ tail) in
      let d = length-append (MT suite K f u) (ME suite K f u ++ (CL suite K f u ++ tail)) in
      let e = CL-length suite K f u in
      let g = ME-length suite K f u in
      let i = MT-length suite K f u in
      let j = RL-length suite K f in
      let k = length-append log (RL suite K f) in
      let m = ap length tail_is in
      omega arith

  pub log-CL : length nonce ≡ 12 → cl_in suite (KS suite K) log ≡ CL suite K f u
  unfolding cl_in
  log-CL h =
      let t : List ℕ = suite.E (KS suite K) nonce (CL suite K f u) in
      ap (λ (n : List ℕ). suite.E (KS suite K) n (drop 12 log)) (take_at nonce t 12 h)
      ∙ ap (λ (w : List ℕ). suite.E (KS suite K) nonce w) (drop_at nonce t 12 h)
      ∙ suite.e_undoes (KS suite K) nonce (CL suite K f u)

-- of a part of a joint find
module _ (suite : Suite) (K : List ℕ) (f : Field) where
  find_length : length (find_token suite K f) ≡ 96
  unfolding find_token field_mt field_me field_cl
  find_length =
      let a = length-append (field_mt suite K f) (field_me suite K f ++ field_cl suite K f) in
      let b = length-append (field_me suite K f) (field_cl suite K f) in
      let c = suite.f_length (suite.F (KM suite K) (number8 1)) (label f) in
      let d = suite.f_length (suite.F (KM suite K) (number8 2)) (label f) in
      let e = suite.f_length (KC suite K) (label f) in
      omega arith

  pub part_find_lem : part_find (part_token suite K f) ≡ find_token suite K f
  unfolding part_find part_token
  part_find_lem = take_at (find_token suite K f) (RL suite K f) 96 find_length

  pub part_rl_lem : part_rl (part_token suite K f) ≡ RL suite K f
  unfolding part_rl part_token
  part_rl_lem = drop_at (find_token suite K f) (RL suite K f) 96 find_length

  pub part_length : length (part_token suite K f) ≡ 128
  unfolding part_token
  part_length = let a = length-append (find_token suite K f) (RL suite K f) in let b = find_length in let c = RL-length suite K f in omega arith
