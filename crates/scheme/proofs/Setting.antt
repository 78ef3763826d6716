-- What the proof of the claim works under, and what the premise gives: tags tell pairs, kinds and numbers apart.
use Prim.Native.Nat.{ℕ, ◌+◌, ◌*◌, ◌≤◌}
use mathlib.Core.Path.{◌≡◌, refl, sym, ap, ◌∙◌}
use mathlib.Core.Bool.{Bool, true, false, true≢false}
use mathlib.Core.Option.{Option}
use mathlib.Core.List.{List, ◌∷◌, ◌++◌}
use native.Mathlib.Omega.{arith}
use lib.Dec.{eqb, ltb}
use lib.ListN.{length, take, drop, length-append}
use lib.Seq.{take_at, drop_at, drop-drop}
use borrow.Author.Tests.{eqb-true, eq-eqb}
use Rattle.table.specs.Lists.{same}
use Rattle.table.specs.Table.{is_free, body, mark_of}
use Rattle.table.proofs.Counting.{both, same_true, same_refl}
use Rattle.scheme.specs.Suite.{Suite, number8, value_of}
use Rattle.scheme.specs.Labels.{Field, same_field}
use Rattle.scheme.specs.Keys.{MT, CL, CT, CE}
use Rattle.scheme.specs.Store.{table_c, width_of, Sizes, sizes_bad, entry_tag, counter_tag, anchor_tag, counted_row, plain_in}
use Rattle.scheme.specs.Reading.{numbers_at}
use Rattle.scheme.specs.Call.{Call}
use Rattle.scheme.specs.Ledger.{Pair, same_pair}
use Rattle.scheme.specs.Premise.{Named, Kind, counter, anchor, tag_of, Premise}
use Rattle.scheme.proofs.Numbers.{number_length, number_value}

pub record Setting : Type 0 where
  pub suite : Suite
  pub K : List ℕ
  pub z : Sizes
  pub calls : List Call
  pub key_length : length K ≡ 32
  pub sizes_good : sizes_bad z ≡ false
  pub premise : Premise suite K z.p calls

-- ---- pairs

pub same_field-true : (f g : Field) → same_field f g ≡ true → f ≡ g
unfolding same_field
same_field-true f g e =
    let h = both (same f.name g.name) (same f.value g.value) e in
    let n = same_true f.name g.name h.0 in
    let v = same_true f.value g.value h.1 in
    λ i. record { name = n i; value = v i }

pub same_field_refl : (f : Field) → same_field f f ≡ true
unfolding same_field
same_field_refl f = rw (same_refl f.name, same_refl f.value) refl

pub same_pair-true : (a b : Pair) → same_pair a b ≡ true → a ≡ b
unfolding same_pair
same_pair-true a b e =
    let h = both (same_field a.field b.field) (eqb a.u b.u) e in
    let f = same_field-true a.field b.field h.0 in
    let w = eqb-true a.u b.u h.1 in
    λ i. record { field = f i; u = w i }

pub same_pair_refl : (a : Pair) → same_pair a a ≡ true
unfolding same_pair
same_pair_refl a = rw (same_field_refl a.field, eq-eqb a.u a.u refl) refl

pub same_pair_ne : (a b : Pair) → (a ≡ b → ⊥) → same_pair a b ≡ false
same_pair_ne a b h = go (same_pair a b) refl
  where
    go : (t : Bool) → same_pair a b ≡ t → t ≡ false
    go true e = absurd (h (same_pair-true a b e))
    go false e = refl

pub same_pair_sym : (a b : Pair) → same_pair a b ≡ same_pair b a
same_pair_sym a b = go (same_pair a b) refl
  where
    go : (t : Bool) → same_pair a b ≡ t → t ≡ same_pair b a
    go true e = let h = same_pair-true a b e in sym (rw h (same_pair_refl b))
    go false e = sym (same_pair_ne b a (λ h. true≢false (sym (rw (← h) (same_pair_refl b)) ∙ e)))

-- what holds of a pair and of every other holds of all
pub by_pair : (pr : Pair) (P : Pair → Type 0) → P pr → ((q : Pair) → (q ≡ pr → ⊥) → P q) → (q : Pair) → P q
by_pair pr P own other q = go (same_pair q pr) refl
  where
    go : (b : Bool) → same_pair q pr ≡ b → P q
    go true e = rw (same_pair-true q pr e) own
    go false e = other q (λ w. true≢false (sym (same_pair_refl pr) ∙ (rw w at e)))

-- ---- rows of C

module _ (suite : Suite) where
  -- after a tag of 32 bytes and a nonce of 12, the text decrypts
  pub text_of : (key tag nonce text : List ℕ) → length tag ≡ 32 → length nonce ≡ 12
      → suite.E key (take 12 (drop 32 (tag ++ (nonce ++ suite.E key nonce text)))) (drop 44 (tag ++ (nonce ++ suite.E key nonce text))) ≡ text
  text_of key tag nonce text h k =
      let s : List ℕ = suite.E key nonce text in
      let d : drop 32 (tag ++ (nonce ++ s)) ≡ nonce ++ s = drop_at tag (nonce ++ s) 32 h in
      let e : take 12 (drop 32 (tag ++ (nonce ++ s))) ≡ nonce = ap (take 12) d ∙ take_at nonce s 12 k in
      let f : drop 44 (tag ++ (nonce ++ s)) ≡ s = sym (drop-drop 12 32 (tag ++ (nonce ++ s))) ∙ ap (drop 12) d ∙ drop_at nonce s 12 k in
      ap (λ (n : List ℕ). suite.E key n (drop 44 (tag ++ (nonce ++ s)))) e ∙ ap (λ (t : List ℕ). suite.E key nonce t) f ∙ suite.e_undoes key nonce text

  pub tag_length : (cl : List ℕ) (h : Kind) (i : ℕ) → length (tag_of suite cl h i) ≡ 32
  unfolding counter_tag anchor_tag
  tag_length cl counter i = suite.f_length (CT suite cl) (1 ∷ number8 i)
  tag_length cl anchor i = suite.f_length (CT suite cl) (2 ∷ number8 i)

  pub counted_used : (cl tag nonce : List ℕ) (a n : ℕ) → is_free (counted_row suite cl tag nonce a n) ≡ false
  unfolding counted_row
  counted_used cl tag nonce a n = refl

  pub counted_mark : (cl tag nonce : List ℕ) (a n : ℕ) → ltb 1 (mark_of (counted_row suite cl tag nonce a n)) ≡ false
  unfolding counted_row
  counted_mark cl tag nonce a n = refl

  pub counted_tag : (cl tag nonce : List ℕ) (a n : ℕ) → length tag ≡ 32 → take 32 (body (counted_row suite cl tag nonce a n)) ≡ tag
  unfolding counted_row
  counted_tag cl tag nonce a n h = take_at tag _ 32 h

  pub counted_length : (cl tag nonce : List ℕ) (a n : ℕ) → length tag ≡ 32 → length nonce ≡ 12 → length (counted_row suite cl tag nonce a n) ≡ width_of table_c
  unfolding counted_row
  counted_length cl tag nonce a n h k =
      let e = suite.e_length (CE suite cl) nonce (number8 a ++ number8 n) in
      let f = number_length a in
      let g = number_length n in
      let i = length-append (number8 a) (number8 n) in
      let j = length-append nonce (suite.E (CE suite cl) nonce (number8 a ++ number8 n)) in
      let l = length-append tag (nonce ++ suite.E (CE suite cl) nonce (number8 a ++ number8 n)) in
      omega arith

  -- decrypting a C row gives the numbers back
  pub counted_numbers : (cl tag nonce : List ℕ) (a n : ℕ) → length tag ≡ 32 → length nonce ≡ 12 → a ≤ 4294967295 → n ≤ 4294967295
      → plain_in suite cl (body (counted_row suite cl tag nonce a n)) ≡ number8 a ++ number8 n
  unfolding counted_row plain_in
  counted_numbers cl tag nonce a n h k ha hn = text_of (CE suite cl) tag nonce (number8 a ++ number8 n) h k

  pub numbers_found : (cl tag nonce : List ℕ) (a n : ℕ) → length tag ≡ 32 → length nonce ≡ 12 → a ≤ 4294967295 → n ≤ 4294967295
      → numbers_at suite cl (Option.some (body (counted_row suite cl tag nonce a n))) ≡ record { a = a; n = n }
  unfolding numbers_at
  numbers_found cl tag nonce a n h k ha hn =
      let e = counted_numbers cl tag nonce a n h k ha hn in
      let p : value_of (take 8 (plain_in suite cl (body (counted_row suite cl tag nonce a n)))) ≡ a =
      rw (e, take_at (number8 a) (number8 n) 8 (number_length a)) (number_value a (omega arith)) in
      let q : value_of (drop 8 (plain_in suite cl (body (counted_row suite cl tag nonce a n)))) ≡ n =
      rw (e, drop_at (number8 a) (number8 n) 8 (number_length a)) (number_value n (omega arith)) in
      λ i. record { a = p i; n = q i }

-- ---- what the premise gives

module _ (x : Setting) where
  open x use {suite, K, z, calls, premise}

  -- a pair that the list can meet
  abbrev pub PairOk : Pair → Type 0
  PairOk pr = Named z.p calls pr.field pr.u

  abbrev pub cl_of : Pair → List ℕ
  cl_of pr = CL suite K pr.field pr.u

  abbrev pub ctag : Pair → Kind → ℕ → List ℕ
  ctag pr h i = tag_of suite (cl_of pr) h i

  pair_eq : (a b : Pair) → a.field ≡ b.field → a.u ≡ b.u → a ≡ b
  pair_eq a b e f = λ i. record { field = e i; u = f i }

  -- the tags of C
  pub record CTags (a b : Pair) (h k : Kind) (i j : ℕ) : Type 0 where
    pub pair : a ≡ b
    pub kind : h ≡ k
    pub number : i ≡ j

  pub ctags : (a b : Pair) (h k : Kind) (i j : ℕ) → PairOk a → PairOk b → 1 ≤ i → i ≤ length calls + 1 → 1 ≤ j → j ≤ length calls + 1
      → ctag a h i ≡ ctag b k j → CTags a b h k i j
  ctags a b h k i j oa ob li hi lj hj e =
      let r = premise.counters a.field b.field a.u b.u h k i j oa ob (record { low = li; high = hi }) (record { low = lj; high = hj }) e in
      record { pair = pair_eq a b r.0 r.1; kind = r.2; number = r.3 }

  pub cl_differ : (a b : Pair) → PairOk a → PairOk b → cl_of a ≡ cl_of b → a ≡ b
  cl_differ a b oa ob e =
      (ctags a b counter counter 1 1 oa ob (omega arith) (omega arith) (omega arith) (omega arith) (ap (λ (c : List ℕ). counter_tag suite c 1) e)).pair

  -- the tags of M
  abbrev pub mtag : Pair → ℕ → List ℕ
  mtag pr a = entry_tag suite (MT suite K pr.field pr.u) a

  pub mtags : (a b : Pair) (i j : ℕ) → PairOk a → PairOk b → 1 ≤ i → i ≤ 64 * length calls → 1 ≤ j → j ≤ 64 * length calls
      → mtag a i ≡ mtag b j → (a ≡ b) × (i ≡ j)
  mtags a b i j oa ob li hi lj hj e =
      let r = premise.entries a.field b.field a.u b.u i j oa ob (record { low = li; high = omega arith }) (record { low = lj; high = omega arith }) e in
      (pair_eq a b r.0 r.1, r.2)

pub counter≢anchor : counter ≡ anchor → ⊥
counter≢anchor e = let z : ◌≡◌ {A = ℕ} 0 1 = cc in omega arith
