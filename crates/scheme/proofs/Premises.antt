-- The premise asks for no more than document 01 says. And it can be met, for every list of calls, so that the claim does not hold for
-- want of lists under its premise: by a suite that is made for the fields of the list. Its F gives the message's index among the fields'
-- labels, the last 9 bytes of the message and the first 22 of the key; bytes all of them, where a list names fields up to 255 times.
use Prim.Native.Nat.{ℕ, zero, suc, ◌+◌, ◌*◌, ◌≤◌, ◌<◌}
use mathlib.Core.Path.{◌≡◌, refl, sym, ap, ◌∙◌}
use mathlib.Core.Logic.{⊎_elim}
use mathlib.Core.Bool.{Bool, true, false, cond}
use mathlib.Core.List.Memᴰ
use mathlib.Core.List.{List, [], ◌∷◌, ◌++◌, map, reverse, reverse-reverse, head-eq_of_cons-eq, tail-eq_of_cons-eq, Memᴰ}
use native.Mathlib.Omega.{arith}
use lib.ListN.{length, take, drop, replicate, length-append, length-reverse}
use lib.Seq.{take_at, drop_at, take-take, drop-drop, take-append-le, length-take-le}
use Rattle.table.specs.Lists.{same, flat}
use Rattle.table.proofs.Counting.{same_true, same_ne}
use Rattle.scheme.specs.Suite.{Suite, number8, value_of}
use Rattle.scheme.specs.Labels.{Field, label, field_lengths_bad}
use Rattle.scheme.specs.Keys.{MT, CL, RL, field_mt, field_cl, KM, KC, share, CT}
use Rattle.scheme.specs.Store.{entry_tag, counter_tag, anchor_tag, r_mark}
use Rattle.scheme.specs.Call.{Call}
use Rattle.scheme.specs.Premise.{fields_of, Labelling, labellings_of, Named, From1, Kind, counter, anchor, tag_of, Premise}
use Rattle.scheme.proofs.Numbers.{number_length, number_value}
use Rattle.scheme.proofs.Labels.{labels_differ}

-- the fields that a list of calls names
abbrev pub named_in : List Call → List Field
named_in calls = flat (map fields_of calls)

-- ---- the premise from what document 01 says: fields named in the list, of valid lengths; shares 0 to p; addresses 1 to 64 × n; positions
-- and anchor numbers 1 to n + 1 [01:LG13]; each nonce with its id in the list [02:W4.27]

module _ (suite : Suite) (K : List ℕ) (p : ℕ) (calls : List Call)
    (entries : (f g : Field) (u v a b : ℕ) → Memᴰ f (named_in calls) → Memᴰ g (named_in calls) → field_lengths_bad f ≡ false → field_lengths_bad g ≡ false → u ≤ p → v ≤ p
    → 1 ≤ a → a ≤ 64 * length calls → 1 ≤ b → b ≤ 64 * length calls
    → entry_tag suite (MT suite K f u) a ≡ entry_tag suite (MT suite K g v) b → (f ≡ g) × (u ≡ v) × (a ≡ b))
    (counters : (f g : Field) (u v : ℕ) (h k : Kind) (i j : ℕ) → Memᴰ f (named_in calls) → Memᴰ g (named_in calls) → field_lengths_bad f ≡ false → field_lengths_bad g ≡ false → u ≤ p → v ≤ p
    → 1 ≤ i → i ≤ length calls + 1 → 1 ≤ j → j ≤ length calls + 1
    → tag_of suite (CL suite K f u) h i ≡ tag_of suite (CL suite K g v) k j → (f ≡ g) × (u ≡ v) × (h ≡ k) × (i ≡ j))
    (marks : (f g : Field) (y : Labelling) → Memᴰ f (named_in calls) → Memᴰ g (named_in calls) → field_lengths_bad f ≡ false → field_lengths_bad g ≡ false
    → Memᴰ y (flat (map labellings_of calls))
    → r_mark suite (RL suite K f) y.nonce y.id ≡ r_mark suite (RL suite K g) y.nonce y.id → f ≡ g) where
  pub premise_from : Premise suite K p calls
  premise_from = record {
    entries = λ f g u v a b nf ng ia ib e.
        entries f g u v a b nf.named ng.named nf.valid ng.valid nf.shared ng.shared ia.low ia.high ib.low ib.high e;
    counters = λ f g u v h k i j nf ng ii ij e.
        counters f g u v h k i j nf.named ng.named nf.valid ng.valid nf.shared ng.shared ii.low ii.high ij.low ij.high e;
    marks = λ f g y nf ng m e. marks f g y nf.named ng.named nf.valid ng.valid m e;
  }

-- ---- the index of a label among those of some fields; their number for any other message

abbrev index_in : List Field → List ℕ → ℕ
index_in [] x = 0
index_in (f ∷ fs) x = cond (same x (label f)) 0 (suc (index_in fs x))

index_tells : (fs : List Field) (f g : Field) → Memᴰ f fs → Memᴰ g fs → index_in fs (label f) ≡ index_in fs (label g) → label f ≡ label g
index_tells [] f g mf mg e = absurd (Memᴰ.not-nil mf)
index_tells (h ∷ fs) f g mf mg e = go (same (label f) (label h)) (same (label g) (label h)) refl refl e (index_tells fs f g)
  where
    in_tail : (f : Field) → Memᴰ f (h ∷ fs) → same (label f) (label h) ≡ false → Memᴰ f fs
    in_tail f m n = ⊎_elim (λ e. absurd (same_ne (label f) (label h) n (ap label e))) (λ t. t) (Memᴰ.cases_cons m)

    go : (b c : Bool) → same (label f) (label h) ≡ b → same (label g) (label h) ≡ c
        → cond b 0 (suc (index_in fs (label f))) ≡ cond c 0 (suc (index_in fs (label g)))
        → (Memᴰ f fs → Memᴰ g fs → index_in fs (label f) ≡ index_in fs (label g) → label f ≡ label g)
        → label f ≡ label g
    go true true p q e r = same_true (label f) (label h) p ∙ sym (same_true (label g) (label h) q)
    go true false p q e r = absurd (omega arith)
    go false true p q e r = absurd (omega arith)
    go false false p q e r = r (in_tail f mf p) (in_tail g mg q) (omega arith)

-- ---- the suite

-- the last 9 bytes of a message, from the end, and the first 22 of a key
abbrev front : List ℕ → List ℕ
front x = take 9 (reverse x ++ replicate 9 0)

abbrev back : List ℕ → List ℕ
back k = take 22 (k ++ replicate 22 0)

abbrev code : List Field → List ℕ → List ℕ
code fs x = index_in fs x ∷ front x

pub spell : List Field → List ℕ → List ℕ → List ℕ
spell fs k x = code fs x ++ back k

code-length : (fs : List Field) (x : List ℕ) → length (code fs x) ≡ 10
code-length fs x = let e = length-append (reverse x) (replicate 9 0) in ap suc (length-take-le 9 (reverse x ++ replicate 9 0) (omega arith))

back-length : (k : List ℕ) → length (back k) ≡ 22
back-length k = let e = length-append k (replicate 22 0) in length-take-le 22 (k ++ replicate 22 0) (omega arith)

pub spell-length : (fs : List Field) (k x : List ℕ) → length (spell fs k x) ≡ 32
unfolding spell
spell-length fs k x = let a = code-length fs x in let b = back-length k in length-append (code fs x) (back k) ∙ omega arith

abbrev pub spelling : List Field → Suite
spelling fs = record {
  F = spell fs;
  E = λ k n t. reverse t;
  f_length = spell-length fs;
  e_length = λ k n t. length-reverse t;
  e_undoes = λ k n t. reverse-reverse t;
}

-- ---- what a tag spells

window : (i n m : ℕ) (l : List ℕ) → i + n ≤ m → take n (drop i (take m l)) ≡ take n (drop i l)
window zero n m l h = take-take n m l (omega arith)
window (suc i) n zero l h = absurd (omega arith)
window (suc i) n (suc m) [] h = refl
window (suc i) n (suc m) (x ∷ l) h = window i n m l (omega arith)

-- a row of C is told apart by its first byte
abbrev kind_byte : Kind → ℕ
kind_byte counter = 1
kind_byte anchor = 2

kind_eq : (h k : Kind) → kind_byte h ≡ kind_byte k → h ≡ k
kind_eq counter counter e = refl
kind_eq counter anchor e = absurd (omega arith)
kind_eq anchor counter e = absurd (omega arith)
kind_eq anchor anchor e = refl

module _ (fs : List Field) where
  first : (k x : List ℕ) → take 10 (spell fs k x) ≡ code fs x
  unfolding spell
  first k x = take_at (code fs x) (back k) 10 (code-length fs x)

  -- after its first 10 numbers a result of F has its key's first 22
  deeper : (i n : ℕ) (k x : List ℕ) → i + n ≤ 22 → length k ≡ 32 → take n (drop (10 + i) (spell fs k x)) ≡ take n (drop i k)
  unfolding spell
  deeper i n k x h e =
      ap (take n) (sym (drop-drop i 10 (spell fs k x)) ∙ ap (drop i) (drop_at (code fs x) (back k) 10 (code-length fs x) ∙ take-append-le 22 k (replicate 22 0) (omega arith)))
      ∙ window i n 22 k h

  second : (k y x : List ℕ) → take 10 (drop 10 (spell fs (spell fs k y) x)) ≡ code fs y
  second k y x = deeper 0 10 (spell fs k y) x (omega arith) (spell-length fs k y) ∙ first k y

  third : (k w y x : List ℕ) → take 10 (drop 20 (spell fs (spell fs (spell fs k w) y) x)) ≡ code fs w
  third k w y x = deeper 10 10 (spell fs (spell fs k w) y) x (omega arith) (spell-length fs (spell fs k w) y) ∙ second k w y

  fourth : (k v w y x : List ℕ) → take 1 (drop 30 (spell fs (spell fs (spell fs (spell fs k v) w) y) x)) ≡ (index_in fs v ∷ [])
  fourth k v w y x =
      let l : List ℕ = drop 20 (spell fs (spell fs (spell fs k v) w) y) in
      deeper 20 1 (spell fs (spell fs (spell fs k v) w) y) x (omega arith) (spell-length fs (spell fs (spell fs k v) w) y)
      ∙ sym (take-take 1 10 l (omega arith))
      ∙ ap (take 1) (third k v w y)

  -- an entry's tag and a counter's
  entry_is : (K : List ℕ) (f : Field) (u a : ℕ)
      → entry_tag (spelling fs) (MT (spelling fs) K f u) a ≡ spell fs (spell fs (spell fs (spell fs (KM (spelling fs) K) (number8 1)) (label f)) (number8 u)) (number8 a)
  unfolding entry_tag MT share field_mt
  entry_is K f u a = refl

  counter_is : (K : List ℕ) (f : Field) (u : ℕ) (h : Kind) (i : ℕ)
      → tag_of (spelling fs) (CL (spelling fs) K f u) h i ≡ spell fs (spell fs (spell fs (spell fs (KC (spelling fs) K) (label f)) (number8 u)) (number8 1)) (kind_byte h ∷ number8 i)
  unfolding counter_tag anchor_tag CT CL share field_cl
  counter_is K f u counter i = refl
  counter_is K f u anchor i = refl

  mark_is : (K : List ℕ) (f : Field) (n id : List ℕ) → r_mark (spelling fs) (RL (spelling fs) K f) n id ≡ spell fs (spell fs (spell fs K (number8 4)) (label f)) (n ++ id)
  unfolding r_mark RL
  mark_is K f n id = refl

-- ---- numbers and kinds

front_nine : (x : List ℕ) → length x ≡ 9 → front x ≡ reverse x
front_nine x h = take_at (reverse x) (replicate 9 0) 9 (length-reverse x ∙ h)

front_eight : (x : List ℕ) → length x ≡ 8 → take 8 (front x) ≡ reverse x
front_eight x h = take-take 8 9 (reverse x ++ replicate 9 0) (omega arith) ∙ take_at (reverse x) (replicate 9 0) 8 (length-reverse x ∙ h)

reverse_same : (x y : List ℕ) → reverse x ≡ reverse y → x ≡ y
reverse_same x y e = sym (reverse-reverse x) ∙ ap reverse e ∙ reverse-reverse y

numbers : (a b : ℕ) → a < 18446744073709551616 → b < 18446744073709551616 → number8 a ≡ number8 b → a ≡ b
numbers a b ha hb e = sym (number_value a ha) ∙ ap value_of e ∙ number_value b hb

code_number : (fs : List Field) (a b : ℕ) → a < 18446744073709551616 → b < 18446744073709551616 → code fs (number8 a) ≡ code fs (number8 b) → a ≡ b
code_number fs a b ha hb e =
    numbers a b ha hb
    (reverse_same (number8 a) (number8 b) (sym (front_eight (number8 a) (number_length a)) ∙ ap (take 8) (tail-eq_of_cons-eq e) ∙ front_eight (number8 b) (number_length b)))

code_kind : (fs : List Field) (h k a b : ℕ) → code fs (h ∷ number8 a) ≡ code fs (k ∷ number8 b) → (h ∷ number8 a) ≡ (k ∷ number8 b)
code_kind fs h k a b e =
    reverse_same (h ∷ number8 a) (k ∷ number8 b)
    (sym (front_nine (h ∷ number8 a) (ap suc (number_length a))) ∙ tail-eq_of_cons-eq e ∙ front_nine (k ∷ number8 b) (ap suc (number_length b)))

-- ---- the premise is met

module _ (K : List ℕ) (p : ℕ) (calls : List Call) (few : 64 * length calls + 1 < 18446744073709551616) (shares : p < 18446744073709551616) where
  abbrev suite : Suite
  suite = spelling (named_in calls)

  same_field : (f g : Field) (u v : ℕ) → Named p calls f u → Named p calls g v → index_in (named_in calls) (label f) ≡ index_in (named_in calls) (label g) → f ≡ g
  same_field f g u v nf ng e = labels_differ f g (index_tells (named_in calls) f g nf.named ng.named e)

  entry_tags : (f g : Field) (u v a b : ℕ) → Named p calls f u → Named p calls g v → From1 (64 * length calls) a → From1 (64 * length calls) b
      → entry_tag suite (MT suite K f u) a ≡ entry_tag suite (MT suite K g v) b
      → (f ≡ g) × (u ≡ v) × (a ≡ b)
  entry_tags f g u v a b nf ng ia ib q =
      let fs = named_in calls in
      let x = spell fs (KM (spelling fs) K) (number8 1) in
      let e = sym (entry_is fs K f u a) ∙ q ∙ entry_is fs K g v b in
      let ha = ia.high in
      let hb = ib.high in
      let hu = nf.shared in
      let hv = ng.shared in
      let s : code fs (number8 a) ≡ code fs (number8 b) =
      sym (first fs (spell fs (spell fs x (label f)) (number8 u)) (number8 a)) ∙ ap (take 10) e ∙ first fs (spell fs (spell fs x (label g)) (number8 v)) (number8 b) in
      let t : code fs (number8 u) ≡ code fs (number8 v) =
      sym (second fs (spell fs x (label f)) (number8 u) (number8 a)) ∙ ap (λ (l : List ℕ). take 10 (drop 10 l)) e ∙ second fs (spell fs x (label g)) (number8 v) (number8 b) in
      let r : code fs (label f) ≡ code fs (label g) =
      sym (third fs x (label f) (number8 u) (number8 a)) ∙ ap (λ (l : List ℕ). take 10 (drop 20 l)) e ∙ third fs x (label g) (number8 v) (number8 b) in (
        same_field f g u v nf ng (head-eq_of_cons-eq r),
        code_number fs u v (omega arith) (omega arith) t,
        code_number fs a b (omega arith) (omega arith) s,
      )

  counter_tags_lem : (f g : Field) (u v : ℕ) (h k : Kind) (i j : ℕ) → Named p calls f u → Named p calls g v → From1 (length calls + 1) i → From1 (length calls + 1) j
      → tag_of suite (CL suite K f u) h i ≡ tag_of suite (CL suite K g v) k j
      → (f ≡ g) × (u ≡ v) × (h ≡ k) × (i ≡ j)
  counter_tags_lem f g u v h k i j nf ng ii ij q =
      let fs = named_in calls in
      let x = KC (spelling fs) K in
      let e = sym (counter_is fs K f u h i) ∙ q ∙ counter_is fs K g v k j in
      let hi = ii.high in
      let hj = ij.high in
      let hu = nf.shared in
      let hv = ng.shared in
      let y = spell fs x (label f) in
      let z = spell fs x (label g) in
      let s : code fs (kind_byte h ∷ number8 i) ≡ code fs (kind_byte k ∷ number8 j) =
      sym (first fs (spell fs (spell fs y (number8 u)) (number8 1)) (kind_byte h ∷ number8 i)) ∙ ap (take 10) e ∙ first fs (spell fs (spell fs z (number8 v)) (number8 1)) (kind_byte k ∷ number8 j) in
      let t : code fs (number8 u) ≡ code fs (number8 v) =
      sym (third fs y (number8 u) (number8 1) (kind_byte h ∷ number8 i)) ∙ ap (λ (l : List ℕ). take 10 (drop 20 l)) e ∙ third fs z (number8 v) (number8 1) (kind_byte k ∷ number8 j) in
      let r : (index_in fs (label f) ∷ []) ≡ (index_in fs (label g) ∷ []) =
      sym (fourth fs x (label f) (number8 u) (number8 1) (kind_byte h ∷ number8 i)) ∙ ap (λ (l : List ℕ). take 1 (drop 30 l)) e ∙ fourth fs x (label g) (number8 v) (number8 1) (kind_byte k ∷ number8 j) in
      let w = code_kind fs (kind_byte h) (kind_byte k) i j s in (
        same_field f g u v nf ng (head-eq_of_cons-eq r),
        code_number fs u v (omega arith) (omega arith) t,
        kind_eq h k (head-eq_of_cons-eq w),
        numbers i j (omega arith) (omega arith) (tail-eq_of_cons-eq w),
      )

  label_marks : (f g : Field) (y : Labelling) → Named p calls f 0 → Named p calls g 0 → Memᴰ y (flat (map labellings_of calls))
      → r_mark suite (RL suite K f) y.nonce y.id ≡ r_mark suite (RL suite K g) y.nonce y.id
      → f ≡ g
  label_marks f g y nf ng m q =
      let fs = named_in calls in
      let x = spell fs K (number8 4) in
      let e = sym (mark_is fs K f y.nonce y.id) ∙ q ∙ mark_is fs K g y.nonce y.id in
      let r : code fs (label f) ≡ code fs (label g) =
      sym (second fs x (label f) (y.nonce ++ y.id)) ∙ ap (λ (l : List ℕ). take 10 (drop 10 l)) e ∙ second fs x (label g) (y.nonce ++ y.id) in
      same_field f g 0 0 nf ng (head-eq_of_cons-eq r)

  pub premise_met : Premise (spelling (named_in calls)) K p calls
  premise_met = record { entries = entry_tags; counters = counter_tags_lem; marks = label_marks }
