-- The part that a joint find takes: the place of the least number is where the ledger's least field stands, and the parts beside it are the
-- others.
use Prim.Native.Nat.{ℕ, ◌≤◌}
use mathlib.Core.Path.{◌≡◌, refl, sym, ap, ◌∙◌}
use mathlib.Core.Bool.{Bool, true, false, cond, ◌&&◌, ◌||◌, true≢false, or-true}
use mathlib.Core.List.{List, [], ◌∷◌, map, Memᴰ}
use native.Mathlib.Omega.{arith}
use lib.Dec.{ltb}
use lib.ListN.{get_or}
use borrow.Author.Tests.{ltb-true, ltb-false, lt-ltb}
use Rattle.table.specs.Lists.{any_of, all_of, All}
use Rattle.scheme.specs.Labels.{Field}
use Rattle.scheme.specs.Call.{Part}
use Rattle.scheme.specs.Ledger.{Bounds, Ledger, ledger_sum, least_made}
use Rattle.scheme.specs.JointFind.{least_at, without}

abbrev pub fields : List Part → List Field
fields parts = map (λ (q : Part). q.field) parts

module _ (z : Bounds) (l : Ledger) where
  abbrev sum_of : Field → ℕ
  sum_of f = ledger_sum z l f

  abbrev pub sums : List Part → List ℕ
  sums parts = map (λ (q : Part). sum_of q.field) parts

  -- one of the parts has a number below n
  abbrev less : ℕ → List Part → Bool
  less n parts = any_of (λ k. ltb k n) (sums parts)

  less_more : (a b : ℕ) (parts : List Part) → a ≤ b → less a parts ≡ true → less b parts ≡ true
  less_more a b [] h e = e
  less_more a b (q ∷ qs) h e = go (ltb (sum_of q.field) a) refl e (less_more a b qs h)
    where
      go : (c : Bool) → ltb (sum_of q.field) a ≡ c → (c || less a qs) ≡ true → (less a qs ≡ true → less b qs ≡ true) → (ltb (sum_of q.field) b || less b qs) ≡ true
      go true p e k = let w = ltb-true (sum_of q.field) a p in rw (lt-ltb (sum_of q.field) b (omega arith)) refl
      go false p e k = rw (k e) (or-true (ltb (sum_of q.field) b))

  abbrev least : Field → List Part → Field
  least f parts = least_made z l f (fields parts)

  -- none below: the first stays
  stays : (f : Field) (parts : List Part) → less (sum_of f) parts ≡ false → least f parts ≡ f
  stays f [] e = refl
  stays f (q ∷ qs) e = go (ltb (sum_of q.field) (sum_of f)) e (stays f qs)
    where
      go : (c : Bool) → (c || less (sum_of f) qs) ≡ false → (less (sum_of f) qs ≡ false → least f qs ≡ f) → least (cond c q.field f) qs ≡ f
      go true e k = absurd (true≢false e)
      go false e k = k e

  -- one below both: it does not matter which of the two comes first
  either : (f g : Field) (parts : List Part) → less (sum_of f) parts ≡ true → less (sum_of g) parts ≡ true → least f parts ≡ least g parts
  either f g [] e h = absurd (true≢false (sym e))
  either f g (q ∷ qs) e h = go (ltb (sum_of q.field) (sum_of f)) (ltb (sum_of q.field) (sum_of g)) refl refl e h (either f g qs) (either q.field g qs) (either f q.field qs)
    where
      go : (a b : Bool) → ltb (sum_of q.field) (sum_of f) ≡ a → ltb (sum_of q.field) (sum_of g) ≡ b → (a || less (sum_of f) qs) ≡ true → (b || less (sum_of g) qs) ≡ true
          → (less (sum_of f) qs ≡ true → less (sum_of g) qs ≡ true → least f qs ≡ least g qs)
          → (less (sum_of q.field) qs ≡ true → less (sum_of g) qs ≡ true → least q.field qs ≡ least g qs)
          → (less (sum_of f) qs ≡ true → less (sum_of q.field) qs ≡ true → least f qs ≡ least q.field qs)
          → least (cond a q.field f) qs ≡ least (cond b q.field g) qs
      go true true p r e h i j k = refl
      go true false p r e h i j k = let w = ltb-false (sum_of q.field) (sum_of g) r in j (less_more (sum_of g) (sum_of q.field) qs w h) h
      go false true p r e h i j k = let w = ltb-false (sum_of q.field) (sum_of f) p in k e (less_more (sum_of f) (sum_of q.field) qs w e)
      go false false p r e h i j k = i e h

  -- one below the first: the first does not matter
  moves : (f : Field) (q : Part) (qs : List Part) → less (sum_of f) (q ∷ qs) ≡ true → least f (q ∷ qs) ≡ least q.field qs
  moves f q qs e = go (ltb (sum_of q.field) (sum_of f)) refl e
    where
      go : (c : Bool) → ltb (sum_of q.field) (sum_of f) ≡ c → (c || less (sum_of f) qs) ≡ true → least (cond c q.field f) qs ≡ least q.field qs
      go true p e = refl
      go false p e = let w = ltb-false (sum_of q.field) (sum_of f) p in either f q.field qs e (less_more (sum_of f) (sum_of q.field) qs w e)

  -- the part at the place of the least number
  module _ (T : Part → List ℕ) where
    all_agree : (P : List ℕ → Bool) (Q : Field → Bool) (parts : List Part) → All (λ q. P (T q) ≡ Q q.field) parts → all_of P (map T parts) ≡ all_of Q (fields parts)
    all_agree P Q [] h = refl
    all_agree P Q (q ∷ qs) h = rw (h.0, all_agree P Q qs h.1) refl

    pub record Chosen (parts : List Part) (f : Field) : Type 0 where
      pub part : Part
      pub among : Memᴰ part parts
      pub at : get_or (map T parts) (least_at (sums parts)) [] ≡ T part
      pub field_is : part.field ≡ f
      pub others : (P : List ℕ → Bool) (Q : Field → Bool) → All (λ q. P (T q) ≡ Q q.field) parts → Q part.field ≡ true
          → all_of P (without (least_at (sums parts)) (map T parts)) ≡ all_of Q (fields parts)

    first_is : (q : Part) (qs : List Part) → less (sum_of q.field) qs ≡ false → Chosen (q ∷ qs) (least q.field qs)
    first_is q qs e = record {
      part = q;
      among = Memᴰ.head refl;
      at = rw e refl;
      field_is = sym (stays q.field qs e);
      others = λ P Q h t. rw (e, t) (all_agree P Q qs h.1);
    }

    later_is : (q r : Part) (rs : List Part) → less (sum_of q.field) (r ∷ rs) ≡ true → Chosen (r ∷ rs) (least r.field rs) → Chosen (q ∷ r ∷ rs) (least q.field (r ∷ rs))
    later_is q r rs e c = record {
      part = c.part;
      among = Memᴰ.tail c.among;
      at = rw e c.at;
      field_is = c.field_is ∙ sym (moves q.field r rs e);
      others = λ P Q h t. rw (e, h.0) (ap (λ (b : Bool). Q q.field && b) (c.others P Q h.1 t));
    }

    pub chosen : (q : Part) (qs : List Part) → Chosen (q ∷ qs) (least q.field qs)
    chosen q [] = first_is q [] refl
    chosen q (r ∷ rs) = go (less (sum_of q.field) (r ∷ rs)) refl (chosen r rs)
      where
        go : (b : Bool) → less (sum_of q.field) (r ∷ rs) ≡ b → Chosen (r ∷ rs) (least r.field rs) → Chosen (q ∷ r ∷ rs) (least q.field (r ∷ rs))
        go true e c = later_is q r rs e c
        go false e c = first_is q (r ∷ rs) e
