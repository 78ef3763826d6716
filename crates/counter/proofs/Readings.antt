-- What the walks and the two decrypted rows tell is the scheme's reading.
use Prim.Native.Nat.{ℕ, zero, suc, ◌+◌, ◌≤◌, min}
use mathlib.Core.Path.{◌≡◌, refl, sym, ap, ap₂, ◌∙◌}
use mathlib.Core.Bool.{Bool, true, false, cond, not, ◌||◌, true≢false}
use mathlib.Core.Option.{some}
use mathlib.Core.List.{List, [], ◌∷◌, ◌++◌}
use native.Mathlib.Nat.{zero-add}
use native.Mathlib.Omega.{arith}
use borrow.Author.Tests.{lt-ltb, le-ltb, ne_eqb, ltb-false}
use lib.Dec.{ltb, eqb}
use lib.ListN.{length, get_or, drop}
use Rattle.hmac.specs.declared.Keyed.{Keyed}
use Rattle.table.specs.Table.{Table, body, lookup, place_of}
use Rattle.table.proofs.Counting.{neither}
use Rattle.table.proofs.Rows.{place_held}
use Rattle.table.proofs.Walk.{place_found}
use Rattle.scheme.specs.Keys.{CT, CE}
use Rattle.scheme.specs.Store.{counter_tag, anchor_tag, plain_in}
use Rattle.scheme.specs.Reading.{limit, walk, Numbers, Reading, numbers_at, anchors_held, anchor_numbers, start_of, counters_held, counter_numbers, is_damage, reading}
use Rattle.scheme.specs.Reading.Reading.{counter, damage}
use Rattle.scheme.specs.RowsRead.{looked_over, anchor_rows, counter_rows, reading_rows}
use Rattle.scheme.specs.Compaction.{held_places}
use Rattle.suite.specs.Program.{program}
use Rattle.format.specs.declared.Keys.{Keys}
use Rattle.format.specs.Tags.{Prepared, KeysOf}
use Rattle.format.specs.Rows.{text_in}
use Rattle.format.proofs.Tags.{counter_tag_is, anchor_tag_is}
use Rattle.lookups.specs.Walks.{counter_tags, anchor_tags, held_in, last_place, places_of, noted, tallied_by}
use Rattle.numbers.specs.Numbers.{numbers_in, numbers_or, anchor_bad, counter_bad}
use Rattle.counter.specs.Outcome.{places_noted, rows_told}
use Rattle.lookups.specs.declared.Lookup.{Lookup}
use Rattle.lookups.proofs.Walks.{walk_held, walk-le, tallied_sum}

-- the tags of all numbers
counter_tags_lem : (k : Keyed) (cl : List ℕ) → Prepared k (CT program cl) → counter_tags k ≡ counter_tag program cl
counter_tags_lem k cl p = λ j a. counter_tag_is k cl (record { 0 = a }) p j

anchor_tags_lem : (k : Keyed) (cl : List ℕ) → Prepared k (CT program cl) → anchor_tags k ≡ anchor_tag program cl
anchor_tags_lem k cl p = λ j b. anchor_tag_is k cl (record { 0 = b }) p j

numbers_in_lem : (cl b : List ℕ) → numbers_in (CE program cl) b ≡ numbers_at program cl (some b)
unfolding numbers_in text_in numbers_at plain_in program
numbers_in_lem cl b = refl

-- the numbers in the last row that a walk held
numbers_last : (tag : ℕ → List ℕ) (t : Table) (cl : List ℕ) (c i k at : ℕ) (other : Numbers) → k ≡ walk (held_in tag t) c i → at ≡ last_place tag t i k
    → numbers_or (CE program cl) t at other ≡ cond (eqb k 0) other (numbers_at program cl (lookup (tag (i + k)) t))
unfolding numbers_or last_place
numbers_last tag t cl c i zero at other h e = rw (le-ltb at (length t) (omega arith))
numbers_last tag t cl c i (suc k) at other h e =
    let p = (place_held (tag (i + suc k)) t (walk_held (held_in tag t) c i k (sym h))).inside in
    rw (lt-ltb at (length t) (omega arith), ne_eqb (suc k) 0 (λ z. absurd (omega arith)))
    (ap (λ (n : ℕ). numbers_in (CE program cl) (body (get_or t n []))) e ∙ numbers_in_lem cl (body (get_or t (place_of (tag (i + suc k)) t) []))
    ∙ ap (numbers_at program cl) (sym (place_found (tag (i + suc k)) t p)))

either : (a b r : Bool) → (a || b) ≡ true → (a || (b || r)) ≡ true
either true b r e = refl
either false true r e = refl
either false false r e = absurd (true≢false (sym e))

neither_of : (a b r : Bool) → (a || b) ≡ false → (a || (b || r)) ≡ r
neither_of true b r e = absurd (true≢false e)
neither_of false true r e = absurd (true≢false e)
neither_of false false r e = refl

-- how large the numbers of a counter are
pub record Bounds (c b start k n : ℕ) : Type 0 where
  pub anchors : b ≤ c
  pub start_limit : start ≤ limit
  pub counters : k ≤ c
  pub count_limit : n ≤ limit

module _ (c : ℕ) (cl : List ℕ) (t : Table) where
  -- the three answers of a reading: damage of anchor B comes first, whatever the counters are [01:RS6]
  abbrev answer : Bool → Reading
  answer b =
      cond b damage (counter (anchors_held program c cl t) (start_of program c cl t) (counters_held program c cl t) (counter_numbers program c cl t).n)

  module _ (x : Numbers) (e : x ≡ anchor_numbers program c cl t) where
    start_is : x.a ≡ start_of program c cl t
    unfolding start_of
    start_is = ap (λ (y : Numbers). y.a) e

    pub damaged_anchor : anchor_bad x ≡ true → damage ≡ reading program c cl t
    unfolding reading is_damage
    damaged_anchor h =
        ap answer (sym (either (ltb limit (anchor_numbers program c cl t).a) (ltb limit (anchor_numbers program c cl t).n) (counter_bad (counter_numbers program c cl t)) (sym (ap anchor_bad e) ∙ h)))

    module _ (h : anchor_bad x ≡ false) (y : Numbers) (f : y ≡ counter_numbers program c cl t) where
      sound : answer (counter_bad y) ≡ reading program c cl t
      unfolding reading is_damage
      sound =
          ap answer (ap counter_bad f
          ∙ sym (neither_of (ltb limit (anchor_numbers program c cl t).a) (ltb limit (anchor_numbers program c cl t).n) (counter_bad (counter_numbers program c cl t)) (sym (ap anchor_bad e) ∙ h)))

      pub damaged_counter : counter_bad y ≡ true → damage ≡ reading program c cl t
      damaged_counter g = ap answer (sym g) ∙ sound

      pub counted : (b k : ℕ) → b ≡ anchors_held program c cl t → k ≡ counters_held program c cl t → counter_bad y ≡ false
          → counter b x.a k y.n ≡ reading program c cl t
      counted b k p r g =
          let s = start_is in
          let n = ap (λ (z : Numbers). z.n) f in
          let a : counter b x.a k y.n ≡ answer false = cc in
          a ∙ ap answer (sym g) ∙ sound

  module _ (keys : Keys) (p : KeysOf keys cl) where
    module _ (b at : ℕ) (h : b ≡ walk (held_in (anchor_tags keys.ct) t) c 0) (e : at ≡ last_place (anchor_tags keys.ct) t 0 b) where
      pub anchors_are : b ≡ anchors_held program c cl t
      unfolding anchors_held
      anchors_are = h ∙ ap (λ (g : ℕ → List ℕ). walk (held_in g t) c 0) (anchor_tags_lem keys.ct cl p.ct)

      pub anchor_numbers_are : numbers_or keys.ce t at (record { a = 0; n = 0 }) ≡ anchor_numbers program c cl t
      unfolding anchor_numbers
      anchor_numbers_are =
          ap (λ (k : List ℕ). numbers_or k t at (record { a = 0; n = 0 })) p.ce ∙ numbers_last (anchor_tags keys.ct) t cl c 0 b at (record { a = 0; n = 0 }) h e
          ∙ ap₂ (λ (g : ℕ → List ℕ) (k : ℕ). cond (eqb b 0) (record { a = 0; n = 0 }) (numbers_at program cl (lookup (g k) t))) (anchor_tags_lem keys.ct cl p.ct) (zero-add b)
          ∙ ap (λ (k : ℕ). cond (eqb k 0) (record { a = 0; n = 0 }) (numbers_at program cl (lookup (anchor_tag program cl k) t))) anchors_are

    module _ (x : Numbers) (o : x ≡ anchor_numbers program c cl t) (k at : ℕ) (h : k ≡ walk (held_in (counter_tags keys.ct) t) c x.a) (e : at ≡ last_place (counter_tags keys.ct) t x.a k) where
      pub counters_are : k ≡ counters_held program c cl t
      unfolding counters_held
      counters_are =
          h ∙ ap₂ (λ (g : ℕ → List ℕ) (i : ℕ). walk (held_in g t) c i) (counter_tags_lem keys.ct cl p.ct) (start_is x o)

      pub counter_numbers_are : numbers_or keys.ce t at (record { a = 0; n = x.n }) ≡ counter_numbers program c cl t
      unfolding counter_numbers
      counter_numbers_are =
          ap (λ (l : List ℕ). numbers_or l t at (record { a = 0; n = x.n })) p.ce ∙ numbers_last (counter_tags keys.ct) t cl c x.a k at (record { a = 0; n = x.n }) h e
          ∙ ap₂ (λ (g : ℕ → List ℕ) (i : ℕ). cond (eqb k 0) (record { a = 0; n = x.n }) (numbers_at program cl (lookup (g (i + k)) t))) (counter_tags_lem keys.ct cl p.ct) (start_is x o)
          ∙ ap₂ (λ (j i : ℕ). cond (eqb j 0) (record { a = 0; n = i }) (numbers_at program cl (lookup (counter_tag program cl (start_of program c cl t + j)) t))) counters_are (ap (λ (y : Numbers). y.n) o)

  -- the places that a reading notes
  module _ (x : Numbers) (e : x ≡ anchor_numbers program c cl t) (old : List ℕ) where
    pub places_kept : anchor_bad x ≡ true → old ≡ places_noted c cl t old
    unfolding places_noted
    places_kept h =
        ap (λ (b : Bool). cond b old (noted (counter_tag program cl) t (start_of program c cl t) (counters_held program c cl t) old)) (sym h ∙ ap anchor_bad e)

    pub places_are : (keys : Keys) → KeysOf keys cl → anchor_bad x ≡ false → (k : ℕ) → k ≡ counters_held program c cl t
        → (list : List ℕ) → list ≡ noted (counter_tags keys.ct) t x.a k old → list ≡ places_noted c cl t old
    unfolding places_noted
    places_are keys p h k f list g =
        g ∙ ap₂ (λ (tag : ℕ → List ℕ) (i : ℕ). noted tag t i k old) (counter_tags_lem keys.ct cl p.ct) (start_is x e)
        ∙ ap (λ (j : ℕ). noted (counter_tag program cl) t (start_of program c cl t) j old) f
        ∙ ap (λ (b : Bool). cond b old (noted (counter_tag program cl) t (start_of program c cl t) (counters_held program c cl t) old)) (sym h ∙ ap anchor_bad e)

  -- the rows that a reading says it looked at: none where it is damage
  module _ (by : Lookup) where
    pub rows_damage : damage ≡ reading program c cl t → 0 ≡ rows_told by c cl t
    unfolding reading rows_told
    rows_damage e = go (is_damage program c cl t) e
      where
        go : (d : Bool) → damage ≡ answer d → 0 ≡ cond d 0 (tallied_by by (reading_rows program c cl t))
        go true f = refl
        go false f = absurd (let z : ◌≡◌ {A = ℕ} 0 1 = cc in omega arith)

    pub rows_counter : (b start k n rows : ℕ) → counter b start k n ≡ reading program c cl t → rows ≡ tallied_by by (reading_rows program c cl t) → rows ≡ rows_told by c cl t
    unfolding reading rows_told
    rows_counter b start k n rows e r = go (is_damage program c cl t) e
      where
        go : (d : Bool) → counter b start k n ≡ answer d → rows ≡ cond d 0 (tallied_by by (reading_rows program c cl t))
        go true f = absurd (let z : ◌≡◌ {A = ℕ} 0 1 = cc in omega arith)
        go false f = r

    -- the tallies of both walks make the reading's
    pub rows_are : (keys : Keys) → KeysOf keys cl → (x : Numbers) → x ≡ anchor_numbers program c cl t → (b k m n : ℕ) → b ≡ anchors_held program c cl t → k ≡ counters_held program c cl t
        → m ≡ tallied_by by (looked_over (anchor_tags keys.ct) t 0 (min (suc b) c)) → n ≡ tallied_by by (looked_over (counter_tags keys.ct) t x.a (min (suc k) c))
        → m + n ≡ tallied_by by (reading_rows program c cl t)
    unfolding reading_rows anchor_rows counter_rows
    rows_are keys p x e b k m n f g h i =
        ap₂ (λ (y z : ℕ). y + z)
        (h ∙ ap₂ (λ (tag : ℕ → List ℕ) (j : ℕ). tallied_by by (looked_over tag t 0 (min (suc j) c))) (anchor_tags_lem keys.ct cl p.ct) f)
        (i ∙ ap₂ (λ (tag : ℕ → List ℕ) (j : ℕ). tallied_by by (looked_over tag t j (min (suc k) c))) (counter_tags_lem keys.ct cl p.ct) (start_is x e)
        ∙ ap (λ (j : ℕ). tallied_by by (looked_over (counter_tag program cl) t (start_of program c cl t) (min (suc j) c))) g)
        ∙ tallied_sum by (looked_over (anchor_tag program cl) t 0 (min (suc (anchors_held program c cl t)) c)) (looked_over (counter_tag program cl) t (start_of program c cl t) (min (suc (counters_held program c cl t)) c))

  -- where the reading is a counter: the rows that a compaction frees
  pub places_held : (b start k n : ℕ) (old : List ℕ) → counter b start k n ≡ reading program c cl t → places_noted c cl t old ≡ held_places program cl t start k ++ drop k old
  unfolding places_noted reading is_damage
  places_held b start k n old e = go (anchor_bad (anchor_numbers program c cl t)) (is_damage program c cl t) refl refl e
    where
      same-places : (i j : ℕ) → places_of (counter_tag program cl) t i j ≡ held_places program cl t i j
      same-places i zero = refl
      same-places i (suc j) = ap (λ (l : List ℕ). place_of (counter_tag program cl (suc i)) t ∷ l) (same-places (suc i) j)

      go : (a d : Bool) → anchor_bad (anchor_numbers program c cl t) ≡ a → (ltb limit (anchor_numbers program c cl t).a || (ltb limit (anchor_numbers program c cl t).n || counter_bad (counter_numbers program c cl t))) ≡ d
          → counter b start k n ≡ answer d
          → cond a old (noted (counter_tag program cl) t (start_of program c cl t) (counters_held program c cl t) old) ≡ held_places program cl t start k ++ drop k old
      go a true f g h = absurd (let z : ◌≡◌ {A = ℕ} 0 1 = cc in omega arith)
      go true false f g h =
          absurd (true≢false (sym (either (ltb limit (anchor_numbers program c cl t).a) (ltb limit (anchor_numbers program c cl t).n) (counter_bad (counter_numbers program c cl t)) f) ∙ g))
      go false false f g h =
          let es : start_of program c cl t ≡ start = cc in
          let ek : counters_held program c cl t ≡ k = cc in
          ap₂ (λ (i j : ℕ). noted (counter_tag program cl) t i j old) es ek ∙ ap (λ (l : List ℕ). l ++ drop k old) (same-places start k)

  -- a reading that is no damage
  pub reading_bounds : (b start k n : ℕ) → counter b start k n ≡ reading program c cl t → Bounds c b start k n
  unfolding reading is_damage anchors_held counters_held
  reading_bounds b start k n e =
      go (is_damage program c cl t) refl e (walk-le (held_in (anchor_tag program cl) t) c 0) (walk-le (held_in (counter_tag program cl) t) c (start_of program c cl t)) (start_is (anchor_numbers program c cl t) refl)
    where
      go : (d : Bool) → (ltb limit (anchor_numbers program c cl t).a || (ltb limit (anchor_numbers program c cl t).n || counter_bad (counter_numbers program c cl t))) ≡ d → counter b start k n ≡ answer d
          → anchors_held program c cl t ≤ c → counters_held program c cl t ≤ c → (anchor_numbers program c cl t).a ≡ start_of program c cl t → Bounds c b start k n
      go true d f p q s = absurd (let z : ◌≡◌ {A = ℕ} 0 1 = cc in omega arith)
      go false d f p q s =
          let x = anchor_numbers program c cl t in
          let y = counter_numbers program c cl t in
          let h = neither (ltb limit x.a) (ltb limit x.n || counter_bad y) d in
          let m = neither (not (eqb y.a 0)) (ltb limit y.n) (neither (ltb limit x.n) (counter_bad y) h.1).1 in
          let eb : b ≡ anchors_held program c cl t = cc in
          let es : start ≡ start_of program c cl t = cc in
          let ek : k ≡ counters_held program c cl t = cc in
          let en : n ≡ y.n = cc in
          record { anchors = omega arith; start_limit = omega (arith, ltb-false limit x.a h.0); counters = omega arith; count_limit = omega (arith, ltb-false limit y.n m.1) }
