-- Numbers looked for in what is left of a list, and starts of tags written one after the other.
use Prim.Native.Nat.{ℕ, zero, suc, ◌+◌, ◌-◌, ◌≤◌, ◌<◌}
use mathlib.Core.Path.{◌≡◌, refl, sym, ap, ap₂, subst, ◌∙◌}
use mathlib.Core.Bool.{Bool, true, false, ◌||◌}
use mathlib.Core.List.{List, [], ◌∷◌, ◌++◌, append_assoc, append-nil}
use native.Mathlib.Numerals.{add-one}
use native.Mathlib.Omega.{arith}
use borrow.Author.Tests.{eq-eqb, ne_eqb}
use lib.Dec.{eqb}
use lib.ListN.{length, length-append, length-drop, get_or, take, drop, set, drop_of_length-le, replicate, length-replicate}
use lib.Seq.{drop-cons, set_at, take_all}
use Rattle.octets.specs.Number.{number}
use Rattle.octets.specs.Part.{back}
use Rattle.octets.proofs.Parts.{length_part, length_back, halves}
use Rattle.hmac.specs.declared.Keyed.{Keyed}
use Rattle.scheme.specs.Keys.{share, CT, find_mt, find_cl}
use Rattle.suite.specs.Program.{program}
use Rattle.format.specs.declared.Keys.{Keys}
use Rattle.format.specs.Tags.{numbered_by, Prepared, KeysOf}
use Rattle.format.proofs.Tags.{share_is}
use Rattle.scenario.specs.declared.premise.PairKeys.{PairKeys}
use Rattle.scenario.specs.declared.premise.Kind.{Kind}
use Rattle.scenario.specs.declared.premise.Kind.TheVariants.{Entry, Counter, Anchor}
use Rattle.scenario.specs.Premise.{tag_of, starts_of, occurs_in, repeating, token_of, PairTags, Twice}

module _ (x : ℕ) (l : List ℕ) (i : ℕ) (h : i < length l) where
  next : occurs_in x (drop i l) ≡ (eqb (get_or l i 0) x || occurs_in x (drop (i + 1) l))
  next = rw (add-one i, drop-cons l i 0 h)

  pub occurs_here : occurs_in x (drop i l) ≡ occurs_in x l → get_or l i 0 ≡ x → true ≡ occurs_in x l
  occurs_here e f = sym (next ∙ rw (eq-eqb (get_or l i 0) x f)) ∙ e

  pub occurs_later : occurs_in x (drop i l) ≡ occurs_in x l → (get_or l i 0 ≡ x → ⊥) → occurs_in x (drop (i + 1) l) ≡ occurs_in x l
  occurs_later e f = sym (next ∙ rw (ne_eqb (get_or l i 0) x f)) ∙ e

pub occurs_none : (x : ℕ) (l : List ℕ) (i : ℕ) → length l ≤ i → occurs_in x (drop i l) ≡ occurs_in x l → false ≡ occurs_in x l
occurs_none x l i h e = ap (occurs_in x) (sym (drop_of_length-le l h)) ∙ e

-- the rest of a list, lent as a part
module _ (l : List ℕ) (i : ℕ) (h : i < length l) (e : repeating (drop i l) ≡ repeating l) (b : Bool) (f : b ≡ occurs_in (get_or l i 0) (take (length l - (i + 1)) (drop (i + 1) l))) where
  again : repeating (drop i l) ≡ (b || repeating (drop (i + 1) l))
  again =
      let part : take (length l - (i + 1)) (drop (i + 1) l) ≡ drop (i + 1) l = take_all (length l - (i + 1)) (drop (i + 1) l) (omega (arith, length-drop (i + 1) l)) in
      ap repeating (drop-cons l i 0 h) ∙ ap (λ (k : ℕ). occurs_in (get_or l i 0) (drop k l) || repeating (drop k l)) (sym (add-one i))
      ∙ ap (λ (z : Bool). z || repeating (drop (i + 1) l)) (sym (f ∙ ap (occurs_in (get_or l i 0)) part))

  pub repeats_here : b ≡ true → true ≡ repeating l
  repeats_here g = sym (again ∙ ap (λ (z : Bool). z || repeating (drop (i + 1) l)) g) ∙ e

  pub repeats_later : b ≡ false → repeating (drop (i + 1) l) ≡ repeating l
  repeats_later g = sym (again ∙ ap (λ (z : Bool). z || repeating (drop (i + 1) l)) g) ∙ e

pub repeats_none : (l : List ℕ) (i : ℕ) → length l ≤ i → repeating (drop i l) ≡ repeating l → false ≡ repeating l
repeats_none l i h e = ap repeating (sym (drop_of_length-le l h)) ∙ e

-- a list of zeros, by its number; the number is a variable here, so that nothing computes on the list
pub zeros_length : (n : ℕ) (l : List ℕ) → l ≡ replicate n 0 → n ≡ length l
zeros_length n l e = sym (ap length e ∙ length-replicate n 0)

-- ---- keys of a pair

-- from the prepared parts of a find token to MT and CT of a share
module _ (token : List ℕ) (u : ℕ) (h : length token ≡ 96) where
  pub prepared_mt : (mtx mt : Keyed) (key : List ℕ) → Prepared mtx (take 32 token) → key ≡ numbered_by mtx u → Prepared mt key → Prepared mt (share program (find_mt token) u)
  unfolding find_mt
  prepared_mt mtx mt key p e q = subst (Prepared mt) (e ∙ share_is mtx (take 32 token) u p) q

  pub prepared_ct : (clx : Keyed) (keys : Keys) (cl : List ℕ) → Prepared clx (take 32 (drop 64 token)) → cl ≡ numbered_by clx u → KeysOf keys cl
      → Prepared keys.ct (CT program (share program (find_cl token) u))
  unfolding find_cl
  prepared_ct clx keys cl p e q =
      let all : take 32 (drop 64 token) ≡ drop 64 token = take_all 32 (drop 64 token) (omega (arith, length-drop 64 token)) in
      subst (λ (k : List ℕ). Prepared keys.ct (CT program k)) (e ∙ share_is clx (take 32 (drop 64 token)) u p ∙ ap (λ (k : List ℕ). share program k u) all) q.ct

-- ---- starts of tags

module _ (kind : Kind) (key : Keyed) where
  pub starts_length : (i n : ℕ) → length (starts_of kind key i n) ≡ n
  starts_length i zero = refl
  starts_length i (suc n) = ap suc (starts_length (i + 1) n)

  starts_next : (i n : ℕ) → starts_of kind key i (suc n) ≡ starts_of kind key i n ++ (number (take 8 (tag_of kind key (i + n + 1))) ∷ [])
  starts_next i zero = ap (λ (k : ℕ). number (take 8 (tag_of kind key k)) ∷ []) (let e : i + 1 ≡ i + 0 + 1 = omega arith in e)
  starts_next i (suc n) =
      ap (λ (l : List ℕ). number (take 8 (tag_of kind key (i + 1))) ∷ l)
      (starts_next (i + 1) n ∙ ap (λ (k : ℕ). starts_of kind key (i + 1) n ++ (number (take 8 (tag_of kind key k)) ∷ [])) (let e : i + 1 + n + 1 ≡ i + suc n + 1 = omega arith in e))

  -- i of them stand at the start of a list
  abbrev pub starts_over : ℕ → List ℕ → List ℕ
  starts_over i old = starts_of kind key 0 i ++ drop i old

  module _ (i : ℕ) (old list : List ℕ) (e : list ≡ starts_over i old) where
    pub over_length : i ≤ length old → length list ≡ length old
    over_length h = ap length e ∙ length-append (starts_of kind key 0 i) (drop i old) ∙ omega (arith, starts_length 0 i, length-drop i old)

    pub over_more : i < length old → (x : ℕ) → x ≡ number (take 8 (tag_of kind key (i + 1))) → set list i x ≡ starts_over (i + 1) old
    over_more h x f =
        let y = number (take 8 (tag_of kind key (i + 1))) in
        let y' = number (take 8 (tag_of kind key (0 + i + 1))) in
        let q : y ≡ y' = ap (λ (k : ℕ). number (take 8 (tag_of kind key k))) (let z : i + 1 ≡ 0 + i + 1 = omega arith in z) in
        ap₂ (λ (l : List ℕ) (z : ℕ). set l i z) (e ∙ ap (λ (l : List ℕ). starts_of kind key 0 i ++ l) (drop-cons old i 0 h)) (f ∙ q)
        ∙ set_at (starts_of kind key 0 i) (get_or old i 0) (drop (suc i) old) y' i (starts_length 0 i)
        ∙ sym (append_assoc (starts_of kind key 0 i) (y' ∷ []) (drop (suc i) old))
        ∙ ap (λ (l : List ℕ). l ++ drop (suc i) old) (sym (starts_next 0 i)) ∙ ap (λ (k : ℕ). starts_over k old) (sym (add-one i))

    pub over_all : i ≡ length old → list ≡ starts_of kind key 0 (length old)
    over_all h = e ∙ ap₂ (λ (x y : List ℕ). x ++ y) (ap (starts_of kind key 0) h) (drop_of_length-le old {i = i} (omega arith)) ∙ append-nil (starts_of kind key 0 (length old))

-- ---- pairs

-- the keys are those of the token that was made
pub pair_tags : (key name value token : List ℕ) (u w half : ℕ) (keys : PairKeys) (m c : List ℕ) → token ≡ token_of key name value
    → Prepared keys.mt (share program (find_mt token) u) × Prepared keys.ct (CT program (share program (find_cl token) u))
    → (m ≡ starts_of Entry keys.mt 0 w) × (c ≡ starts_of Counter keys.ct 0 half ++ starts_of Anchor keys.ct 0 half)
    → PairTags key w half m c
pair_tags key name value token u w half keys m c e k f = record {
  name = name;
  value = value;
  u = u;
  keys = keys;
  mt = subst (λ (t : List ℕ). Prepared keys.mt (share program (find_mt t) u)) e k.0;
  ct = subst (λ (t : List ℕ). Prepared keys.ct (CT program (share program (find_cl t) u))) e k.1;
  entries = f.0;
  counters = f.1;
}

-- two parts fill a list
module _ (xs : List ℕ) (a e : ℕ) (h : length xs ≡ e) (i : a ≤ e) where
  pub first_part : length (take (a - 0) (drop 0 xs)) ≡ a
  first_part = length_part xs 0 a (omega arith) ∙ omega arith

  pub second_part : (x : List ℕ) → length x ≡ a → length (take (e - a) (drop a (back xs 0 a x))) ≡ e - a
  second_part x k = length_part (back xs 0 a x) a e (omega (arith, length_back xs 0 a x (omega arith) (omega arith) (omega arith)))

pub twice : (P : List ℕ → List ℕ → Type 0) (m c m₁ m₂ c₁ c₂ : List ℕ) (a b d e : ℕ) → length m ≡ b → length m₁ ≡ a → length c ≡ e → length c₁ ≡ d → P m₁ c₁ → P m₂ c₂
    → Twice P (back (back m 0 a m₁) a b m₂) (back (back c 0 d c₁) d e c₂)
twice P m c m₁ m₂ c₁ c₂ a b d e h i j k f g = record { m₁ = m₁; m₂ = m₂; c₁ = c₁; c₂ = c₂; first = f; second = g; entries = halves m m₁ m₂ a b h i; counters = halves c c₁ c₂ d e j k }
