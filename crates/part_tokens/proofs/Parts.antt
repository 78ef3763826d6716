-- Pieces of a text are parts of it; and parts that are made one after the other pass their tests and stand behind each other.
use Prim.Native.Nat.{ℕ, zero, suc, ◌+◌, ◌*◌, ◌-◌, ◌≤◌, ◌<◌, min}
use mathlib.Core.Path.{◌≡◌, refl, sym, ap, ap₂, ◌∙◌}
use mathlib.Core.Bool.{Bool, true, false, cond}
use mathlib.Core.Option.{Option, none, some}
use mathlib.Core.List.{List, [], ◌∷◌, ◌++◌, map, map-append, append-nil}
use native.Mathlib.Nat.{min-eq_left, min-eq_right}
use native.Mathlib.Numerals.{add-one}
use native.Mathlib.Omega.{arith}
use lib.Dec.{ltb}
use lib.ListN.{length, take, drop, replicate, length-append, length-drop, drop_of_length-le}
use lib.Seq.{take_all, take-append-le, take_at}
use borrow.Author.Tests.{ltb-true, ltb-false}
use Rattle.answer.specs.Answer.{Answer}
use Rattle.answer.specs.Verdict.{Test, verdict, unless_refused}
use Rattle.octets.specs.Part.{written}
use Rattle.octets.proofs.Parts.{written_none, written_more, written_next}
use Rattle.table.specs.Lists.{flat}
use Rattle.table.proofs.Below.{flat_append}
use Rattle.scheme.specs.Call.{Part}
use Rattle.scheme.specs.Run.{part_of, part_token_tests}
use Rattle.scheme.proofs.Verdicts.{or_else, verdict-append}
use Rattle.suite.specs.Program.{program}
use Rattle.client.specs.Making.{field_of}
use Rattle.part_tokens.specs.Parts.{edge, piece, part_at, parts_to, parts_tests, parts_bytes, placed, kept_parts}
use Rattle.client.proofs.Making.{part_length}

-- ---- pieces

take_least : (k : ℕ) (l : List ℕ) → take (min k (length l)) l ≡ take k l
take_least k l = go (ltb k (length l)) refl
  where
    go : (b : Bool) → ltb k (length l) ≡ b → take (min k (length l)) l ≡ take k l
    go true e = let h : k ≤ length l = omega (arith, ltb-true k (length l) e) in ap (λ (j : ℕ). take j l) (min-eq_left h)
    go false e = let h = ltb-false k (length l) e in ap (λ (j : ℕ). take j l) (min-eq_right h) ∙ take_all (length l) l (omega arith) ∙ sym (take_all k l h)

drop_least : (a : ℕ) (l : List ℕ) → drop (min a (length l)) l ≡ drop a l
drop_least a l = go (ltb a (length l)) refl
  where
    go : (b : Bool) → ltb a (length l) ≡ b → drop (min a (length l)) l ≡ drop a l
    go true e = let h : a ≤ length l = omega (arith, ltb-true a (length l) e) in ap (λ (j : ℕ). drop j l) (min-eq_left h)
    go false e =
        let h = ltb-false a (length l) e in
        ap (λ (j : ℕ). drop j l) (min-eq_right h) ∙ drop_of_length-le l {i = length l} (omega arith) ∙ sym (drop_of_length-le l {i = a} h)

pub piece_is : (text : List ℕ) (a e s w : ℕ) → s ≡ min a (length text) → w ≡ min (e - a) (length text - s) → take (s + w - s) (drop s text) ≡ piece text a e
unfolding piece
piece_is text a e s w es ew =
    ap (λ (k : ℕ). take k (drop s text)) (let q : s + w - s ≡ w = omega arith in q)
    ∙ ap (λ (k : ℕ). take k (drop s text)) (ew ∙ ap (min (e - a)) (sym (length-drop s text)))
    ∙ take_least (e - a) (drop s text) ∙ ap (λ (k : ℕ). take (e - a) (drop k text)) es ∙ ap (take (e - a)) (drop_least a text)

-- a part of three pieces
pub part_is : (text ends : List ℕ) (i a k n v : ℕ) (x y z : List ℕ) → a ≡ edge ends (3 * i) → k ≡ edge ends (3 * i + 1) → n ≡ edge ends (3 * i + 2) → v ≡ edge ends (3 * i + 3)
    → x ≡ piece text a k → y ≡ piece text k n → z ≡ piece text n v → ◌≡◌ {A = Part} (record { key = x; field = field_of y z }) (part_at text ends i)
part_is text ends i a k n v x y z ea ek en ev ex ey ez =
    let p = ex ∙ ap₂ (piece text) ea ek in
    let q = ey ∙ ap₂ (piece text) ek en in
    let r = ez ∙ ap₂ (piece text) en ev in
    λ j. record { key = p j; field = field_of (q j) (r j) }

-- ---- parts one after the other

module _ (text ends : List ℕ) where
  abbrev parts_up : ℕ → List Part
  parts_up i = parts_to text ends i

  next : (i : ℕ) → parts_up (suc i) ≡ parts_up i ++ (part_at text ends i ∷ [])
  unfolding parts_to
  next i = refl

  tests_next : (i : ℕ) → parts_tests (parts_up (suc i)) ≡ parts_tests (parts_up i) ++ part_token_tests (part_at text ends i)
  tests_next i =
      ap parts_tests (next i) ∙ ap flat (map-append part_token_tests (parts_up i) (part_at text ends i ∷ []))
      ∙ flat_append (map part_token_tests (parts_up i)) (part_token_tests (part_at text ends i) ∷ []) ∙ ap (λ (l : List Test). parts_tests (parts_up i) ++ l) (append-nil (part_token_tests (part_at text ends i)))

  bytes_next : (i : ℕ) → parts_bytes (parts_up (suc i)) ≡ parts_bytes (parts_up i) ++ part_of program (part_at text ends i)
  bytes_next i =
      ap parts_bytes (next i) ∙ ap flat (map-append (part_of program) (parts_up i) (part_at text ends i ∷ []))
      ∙ flat_append (map (part_of program) (parts_up i)) (part_of program (part_at text ends i) ∷ []) ∙ ap (λ (l : List ℕ). parts_bytes (parts_up i) ++ l) (append-nil (part_of program (part_at text ends i)))

  pub bytes_length : (i : ℕ) → length (parts_bytes (parts_up i)) ≡ 128 * i
  unfolding parts_to
  bytes_length zero = refl
  bytes_length (suc i) =
      let p = part_at text ends i in
      ap length (bytes_next i) ∙ length-append (parts_bytes (parts_up i)) (part_of program p) ∙ omega (arith, bytes_length i, part_length p.key p.field)

  -- a making that is refused ends the call, whatever parts come after it
  later : (r : Answer) (m n : ℕ) → m ≤ n → verdict (parts_tests (parts_up m)) ≡ some r → verdict (parts_tests (parts_up n)) ≡ some r
  later r m zero h e = ap (λ (k : ℕ). verdict (parts_tests (parts_up k))) (let q : zero ≡ m = omega arith in q) ∙ e
  later r m (suc n) h e = go (ltb n m) refl (later r m n)
    where
      go : (b : Bool) → ltb n m ≡ b → (m ≤ n → verdict (parts_tests (parts_up m)) ≡ some r → verdict (parts_tests (parts_up n)) ≡ some r) → verdict (parts_tests (parts_up (suc n))) ≡ some r
      go true q k = let l = ltb-true n m q in ap (λ (j : ℕ). verdict (parts_tests (parts_up j))) (let w : suc n ≡ m = omega arith in w) ∙ e
      go false q k =
          ap verdict (tests_next n) ∙ verdict-append (parts_tests (parts_up n)) (part_token_tests (part_at text ends n))
          ∙ ap (λ (o : Option Answer). or_else o (verdict (part_token_tests (part_at text ends n)))) (k (ltb-false n m q) e)

  -- i parts of n are made
  pub record Going (n : ℕ) (to₀ : List ℕ) (i : ℕ) (to : List ℕ) : Type 0 where
    pub inside : i ≤ n
    pub size : length to ≡ 1024
    pub tests : verdict (parts_tests (parts_up i)) ≡ none
    pub bytes : to ≡ written to₀ 0 (take 1024 (parts_bytes (parts_up i)))

  pub going_none : (n : ℕ) (to : List ℕ) → length to ≡ 1024 → Going n to 0 to
  unfolding parts_to
  going_none n to l = record { inside = omega arith; size = l; tests = refl; bytes = sym (written_none to 0) }

  module _ (n : ℕ) (to₀ : List ℕ) (i : ℕ) (to : List ℕ) (g : Going n to₀ i to) where
    abbrev front : List ℕ
    front = parts_bytes (parts_up i)

    judged : verdict (parts_tests (parts_up (suc i))) ≡ verdict (part_token_tests (part_at text ends i))
    judged =
        ap verdict (tests_next i) ∙ verdict-append (parts_tests (parts_up i)) (part_token_tests (part_at text ends i)) ∙ ap (λ (o : Option Answer). or_else o (verdict (part_token_tests (part_at text ends i)))) g.tests

    pub going_stops : i < n → (r : Answer) → verdict (part_token_tests (part_at text ends i)) ≡ some r → verdict (parts_tests (parts_up n)) ≡ some r
    going_stops h r e = later r (suc i) n h (judged ∙ e)

    pub going_on : i < n → (part to' : List ℕ) → length to₀ ≡ 1024 → verdict (part_token_tests (part_at text ends i)) ≡ none → part ≡ part_of program (part_at text ends i) → to' ≡ placed to i part → length to' ≡ length to
        → Going n to₀ (i + 1) to'
    unfolding placed
    going_on h part to' l₀ v y e l = record { inside = omega arith; size = l ∙ g.size; tests = ap (λ (k : ℕ). verdict (parts_tests (parts_up k))) (add-one i) ∙ judged ∙ v; bytes = go (ltb i 8) refl e }
      where
        more : take 1024 (parts_bytes (parts_up (i + 1))) ≡ take 1024 (front ++ part)
        more = ap (take 1024) (ap (λ (k : ℕ). parts_bytes (parts_up k)) (add-one i) ∙ bytes_next i ∙ ap (λ (x : List ℕ). front ++ x) (sym y))

        wide : length part ≡ 128
        wide = ap length y ∙ part_length (part_at text ends i).key (part_at text ends i).field

        go : (b : Bool) → ltb i 8 ≡ b → to' ≡ cond b (written to (128 * i) part) to → to' ≡ written to₀ 0 (take 1024 (parts_bytes (parts_up (i + 1))))
        go true q f =
            let k = ltb-true i 8 q in
            let n = bytes_length i in
            f ∙ ap₂ (λ (x : List ℕ) (j : ℕ). written x j part) (g.bytes ∙ ap (written to₀ 0) (take_all 1024 front (omega arith))) (let w : 128 * i ≡ 0 + length front = omega arith in w)
            ∙ written_more to₀ front part 0 (omega arith) ∙ ap (written to₀ 0) (sym (take_all 1024 (front ++ part) (omega (arith, length-append front part, wide)))) ∙ ap (written to₀ 0) (sym more)
        go false q f =
            let k = ltb-false i 8 q in
            let n = bytes_length i in
            f ∙ g.bytes ∙ ap (written to₀ 0) (sym (take-append-le 1024 front part (omega arith))) ∙ ap (written to₀ 0) (sym more)

    -- all parts are made
    pub going_passed : n ≤ i → verdict (parts_tests (parts_up n)) ≡ none
    going_passed h = ap (λ (k : ℕ). verdict (parts_tests (parts_up k))) (let e : n ≡ i = omega (arith, g.inside) in e) ∙ g.tests

    pub going_all : n ≤ i → to ≡ written to₀ 0 (take 1024 (parts_bytes (parts_up n)))
    going_all h = g.bytes ∙ ap (λ (k : ℕ). written to₀ 0 (take 1024 (parts_bytes (parts_up k)))) (let e : i ≡ n = omega (arith, g.inside) in e)

-- what is kept of parts that are made, and of parts that are not
pub kept_made : (parts : List Part) (lent to : List ℕ) → verdict (parts_tests parts) ≡ none → to ≡ written lent 0 (take 1024 (parts_bytes parts)) → to ≡ kept_parts parts lent
unfolding kept_parts
kept_made parts lent to v e = e ∙ sym (ap (λ (o : Option Answer). unless_refused o (written lent 0 (take 1024 (parts_bytes parts))) (replicate 1024 0)) v)

pub kept_refused : (parts : List Part) (lent to : List ℕ) (r : Answer) → verdict (parts_tests parts) ≡ some r → to ≡ replicate 1024 0 → to ≡ kept_parts parts lent
unfolding kept_parts
kept_refused parts lent to r v e = e ∙ sym (ap (λ (o : Option Answer). unless_refused o (written lent 0 (take 1024 (parts_bytes parts))) (replicate 1024 0)) v)

-- at most 8 parts are all kept
pub all_kept : (text ends lent to : List ℕ) (n : ℕ) → length lent ≡ 1024 → n ≤ 8 → verdict (parts_tests (parts_to text ends n)) ≡ none → to ≡ kept_parts (parts_to text ends n) lent
    → take (128 * n) to ≡ parts_bytes (parts_to text ends n)
unfolding kept_parts
all_kept text ends lent to n l h v e =
    let b = parts_bytes (parts_to text ends n) in
    let k = bytes_length text ends n in
    ap (take (128 * n)) (e ∙ ap (λ (o : Option Answer). unless_refused o (written lent 0 (take 1024 b)) (replicate 1024 0)) v ∙ ap (written lent 0) (take_all 1024 b (omega arith)) ∙ written_next [] lent b 0 refl)
    ∙ take_at b (drop (length b) lent) (128 * n) k
