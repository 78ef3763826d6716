-- The rows of R. They are, in whatever order, the images of one list of items (field, nonce, id); an id has an item of a field exactly
-- where the ledger has it in a list of that field, so that a test tells what the ledger tells.
use Prim.Native.Nat.{ℕ, ◌+◌, ◌*◌, ◌≤◌}
use mathlib.Core.Path.{◌≡◌, refl, sym, ap, ap₂, subst, ◌∙◌}
use mathlib.Core.Bool.{Bool, true, false, cond, not, ◌&&◌, ◌||◌, true≢false, and-false}
use mathlib.Core.List.Memᴰ
use mathlib.Core.List.{List, [], ◌∷◌, ◌++◌, map, Memᴰ}
use native.Mathlib.Omega.{arith}
use lib.ListN.{length, take, drop, length-drop}
use lib.Seq.{take_at, drop_at, drop-drop, length-take-le}
use Rattle.table.specs.Lists.{same, select, count, any_of, flat, All, Same}
use Rattle.table.specs.Table.{Row, Table, used, body}
use Rattle.table.specs.Order.{used_rows, closed}
use Rattle.table.proofs.Counting.{same_true, same-eq, ne_same, same_sym, count-append, select-map, select_agree, all_append, all_select, any_append, Same-select}
use Rattle.table.proofs.Distinct.{any_same}
use Rattle.table.proofs.Order.{used_is}
use Rattle.table.proofs.Arranging.{AddedAll, with_rows_lem, used_same, closed_same}
use Rattle.scheme.specs.Labels.{Field, same_field}
use Rattle.scheme.specs.Keys.{RL}
use Rattle.scheme.specs.Store.{table_r, width_of, r_mark, label_row, label_id, label_nonce, label_mark}
use Rattle.scheme.specs.Insert.{label_rows}
use Rattle.scheme.specs.Test.{carries, tests}
use Rattle.scheme.specs.Ledger.{same_pair, Entry, entry_of, with_entry, removed}
use Rattle.scheme.specs.Premise.{Named, Labelling, labellings, labellings_of}
use Rattle.scheme.proofs.Setting.{Setting, same_pair-true, same_field-true, same_field_refl}

pub record Item : Type 0 where
  pub field : Field
  pub nonce : List ℕ
  pub id : List ℕ

-- whether an item is of the id and the field
abbrev pub has : List ℕ → Field → Item → Bool
has id f g = same_field g.field f && same id g.id

-- whether the ledger has the id in a list of the field
abbrev pub has_in : List ℕ → Field → List Entry → Bool
has_in id f es = any_of (λ e. same_field e.pair.field f && any_of (same id) e.ids) es

-- ---- the ledger's lists after an insert and after an erase

or_one : (s a b : Bool) → ((s && a) || (s && b)) ≡ (s && (a || b))
or_one true a b = refl
or_one false a b = refl

or_swap : (a b c : Bool) → (a || (b || c)) ≡ (b || (a || c))
or_swap true true c = refl
or_swap true false c = refl
or_swap false b c = refl

or_next : (s a b c : Bool) → ((s && (a || b)) || c) ≡ ((s && b) || ((s && a) || c))
or_next true true true c = refl
or_next true true false c = refl
or_next true false b c = refl
or_next false a b c = refl

-- the ids appended to a pair's list are in a list of its field
pub has_more : (id : List ℕ) (f : Field) (new : List (List ℕ)) (e : Entry) (es : List Entry) → e.ids ≡ (entry_of e.pair es).ids ++ new
    → has_in id f (with_entry e es) ≡ ((same_field e.pair.field f && any_of (same id) new) || has_in id f es)
has_more id f new e [] h = ap (λ (l : List (List ℕ)). (same_field e.pair.field f && any_of (same id) l) || false) h
has_more id f new e (y ∷ ys) h = go (same_pair y.pair e.pair) refl h (has_more id f new e ys)
  where
    go : (b : Bool) → same_pair y.pair e.pair ≡ b → e.ids ≡ (cond b y (entry_of e.pair ys)).ids ++ new
        → (e.ids ≡ (entry_of e.pair ys).ids ++ new → has_in id f (with_entry e ys) ≡ ((same_field e.pair.field f && any_of (same id) new) || has_in id f ys))
        → has_in id f (cond b (e ∷ ys) (y ∷ with_entry e ys)) ≡ ((same_field e.pair.field f && any_of (same id) new) || has_in id f (y ∷ ys))
    go true b h k =
        let p : y.pair ≡ e.pair = same_pair-true y.pair e.pair b in
        rw (p, h, any_append (same id) y.ids new) (or_next (same_field e.pair.field f) (any_of (same id) y.ids) (any_of (same id) new) (has_in id f ys))
    go false b h k =
        rw (k h) (or_swap (same_field y.pair.field f && any_of (same id) y.ids) (same_field e.pair.field f && any_of (same id) new) (has_in id f ys))

-- without an erased id
any_rest : (id gone : List ℕ) (l : List (List ℕ)) → any_of (same id) (select (λ y. not (same y gone)) l) ≡ (not (same id gone) && any_of (same id) l)
any_rest id gone [] = sym (and-false (not (same id gone)))
any_rest id gone (y ∷ ys) = go (same id y) (same y gone) refl refl (any_rest id gone ys)
  where
    go : (a b : Bool) → same id y ≡ a → same y gone ≡ b → any_of (same id) (select (λ y. not (same y gone)) ys) ≡ (not (same id gone) && any_of (same id) ys)
        → any_of (same id) (cond (not b) (y ∷ select (λ y. not (same y gone)) ys) (select (λ y. not (same y gone)) ys)) ≡ (not (same id gone) && (a || any_of (same id) ys))
    go true true p q k =
        let e : same id gone ≡ true = ap (λ (i : List ℕ). same i gone) (same_true id y p) ∙ q in
        k ∙ rw e refl
    go true false p q k =
        let e : same id gone ≡ false = ap (λ (i : List ℕ). same i gone) (same_true id y p) ∙ q in
        rw (p, e) refl
    go false true p q k = k
    go false false p q k = rw p k

and_over : (n s a c : Bool) → ((s && (n && a)) || (n && c)) ≡ (n && ((s && a) || c))
and_over true s a c = refl
and_over false true a c = refl
and_over false false a c = refl

has_rest : (id gone : List ℕ) (f : Field) (es : List Entry) → has_in id f (map (removed gone) es) ≡ (not (same id gone) && has_in id f es)
unfolding removed
has_rest id gone f [] = sym (and-false (not (same id gone)))
has_rest id gone f (y ∷ ys) =
    rw (any_rest id gone y.ids, has_rest id gone f ys)
    (and_over (not (same id gone)) (same_field y.pair.field f) (any_of (same id) y.ids) (has_in id f ys))

-- ---- lists of items

any_map : {A : Type 0} (h : A → List ℕ) (p : List ℕ → Bool) (l : List A) → any_of p (map h l) ≡ any_of (λ g. p (h g)) l
any_map h p [] = refl
any_map h p (g ∷ gs) = ap (λ (b : Bool). p (h g) || b) (any_map h p gs)

any_agree : {A : Type 0} (P : A → Type 0) (p q : A → Bool) → ((g : A) → P g → p g ≡ q g) → (l : List A) → All P l → any_of p l ≡ any_of q l
any_agree P p q e [] a = refl
any_agree P p q e (g ∷ gs) a = rw (e g a.0, any_agree P p q e gs a.1) refl

items_rest : (id gone : List ℕ) (f : Field) (G : List Item) → any_of (has id f) (select (λ g. not (same g.id gone)) G) ≡ (not (same id gone) && any_of (has id f) G)
items_rest id gone f [] = sym (and-false (not (same id gone)))
items_rest id gone f (g ∷ gs) = go (same id g.id) (same g.id gone) refl refl (select (λ g. not (same g.id gone)) gs) (items_rest id gone f gs)
  where
    go : (a b : Bool) → same id g.id ≡ a → same g.id gone ≡ b → (rest : List Item) → any_of (has id f) rest ≡ (not (same id gone) && any_of (has id f) gs)
        → any_of (has id f) (cond (not b) (g ∷ rest) rest) ≡ (not (same id gone) && ((same_field g.field f && a) || any_of (has id f) gs))
    go true true p q rest k =
        let e : same id gone ≡ true = ap (λ (i : List ℕ). same i gone) (same_true id g.id p) ∙ q in
        k ∙ rw e refl
    go true false p q rest k =
        let e : same id gone ≡ false = ap (λ (i : List ℕ). same i gone) (same_true id g.id p) ∙ q in
        rw (p, k, e) refl
    go false true p q rest k = k ∙ rw (and-false (same_field g.field f)) refl
    go false false p q rest k = rw (p, k, and-false (same_field g.field f)) refl

-- an insert's items
abbrev pub items : Field → List (List ℕ) → List ℕ → List Item
items f [] nonces = []
items f (id ∷ ids) nonces = record { field = f; nonce = take 12 nonces; id = id } ∷ items f ids (drop 12 nonces)

items_have : (id : List ℕ) (f g : Field) (ids : List (List ℕ)) (nonces : List ℕ) → any_of (has id g) (items f ids nonces) ≡ (same_field f g && any_of (same id) ids)
items_have id f g [] nonces = sym (and-false (same_field f g))
items_have id f g (y ∷ ys) nonces = rw (items_have id f g ys (drop 12 nonces)) (or_one (same_field f g) (same id y) (any_of (same id) ys))

items_ids : (f : Field) (ids : List (List ℕ)) (nonces : List ℕ) → map (λ (g : Item). g.id) (items f ids nonces) ≡ ids
items_ids f [] nonces = refl
items_ids f (y ∷ ys) nonces = ap (λ (l : List (List ℕ)). y ∷ l) (items_ids f ys (drop 12 nonces))

map_join : {A B : Type 0} (h : A → B) (l r : List A) → map h (l ++ r) ≡ map h l ++ map h r
map_join h [] r = refl
map_join h (y ∷ ys) r = ap (λ k. h y ∷ k) (map_join h ys r)

both_counts : {a b c d : ℕ} → a ≡ b → c ≡ d → a + c ≡ b + d
both_counts e f = ap₂ (λ (m n : ℕ). m + n) e f

module _ (x : Setting) where
  open x use {suite, K, z, calls, premise}

  -- a field that the list names
  abbrev pub Filed : Field → Type 0
  Filed f = Named z.p calls f 0

  abbrev pub rl_of : Field → List ℕ
  rl_of f = RL suite K f

  abbrev pub item_r : Item → List ℕ
  item_r g = body (label_row suite (rl_of g.field) g.nonce g.id)

  abbrev pub Brought : Labelling → Type 0
  Brought y = Memᴰ y (flat (map labellings_of calls))

  pub record Good (g : Item) : Type 0 where
    pub filed : Filed g.field
    pub brought : Brought (record { nonce = g.nonce; id = g.id })
    pub id_length : length g.id ≡ 16
    pub nonce_length : length g.nonce ≡ 12

  pub record Marks (t_r : Table) (all : List (List ℕ)) (es : List Entry) : Type 0 where
    pub G : List Item
    pub good : All Good G
    pub rows_r : Same (used t_r) (map item_r G)
    pub listing : Same all (map (λ (g : Item). g.id) G)
    pub held : (id : List ℕ) (f : Field) → any_of (has id f) G ≡ has_in id f es

  -- ---- a row

  pub item_r-id : (g : Item) → Good g → label_id (item_r g) ≡ g.id
  unfolding label_row label_id
  item_r-id g h = take_at g.id _ 16 h.id_length

  after_id : (g : Item) → Good g → drop 16 (item_r g) ≡ g.nonce ++ r_mark suite (rl_of g.field) g.nonce g.id
  unfolding label_row
  after_id g h = drop_at g.id _ 16 h.id_length

  item_r-nonce : (g : Item) → Good g → label_nonce (item_r g) ≡ g.nonce
  unfolding label_nonce
  item_r-nonce g h = ap (take 12) (after_id g h) ∙ take_at g.nonce _ 12 h.nonce_length

  item_r_mark : (g : Item) → Good g → label_mark (item_r g) ≡ r_mark suite (rl_of g.field) g.nonce g.id
  unfolding label_mark
  item_r_mark g h = sym (drop-drop 12 16 (item_r g)) ∙ ap (drop 12) (after_id g h) ∙ drop_at g.nonce _ 12 h.nonce_length

  -- marks of one nonce and id tell the fields apart
  marks_tell : (f : Field) → Filed f → (g : Item) → Good g
      → same (r_mark suite (rl_of g.field) g.nonce g.id) (r_mark suite (rl_of f) g.nonce g.id) ≡ same_field g.field f
  marks_tell f n g h = go (same_field g.field f) refl
    where
      go : (b : Bool) → same_field g.field f ≡ b → same (r_mark suite (rl_of g.field) g.nonce g.id) (r_mark suite (rl_of f) g.nonce g.id) ≡ b
      go true e = same-eq _ _ (ap (λ (k : Field). r_mark suite (rl_of k) g.nonce g.id) (same_field-true g.field f e))
      go false e = ne_same _ _ (λ w.
          let p = premise.marks g.field f (record { nonce = g.nonce; id = g.id }) h.filed n h.brought w in
          true≢false (sym (same_field_refl f) ∙ ap (λ (k : Field). same_field k f) (sym p) ∙ e))

  carries_is : (f : Field) (id : List ℕ) → Filed f → (g : Item) → Good g → carries suite (rl_of f) id (item_r g) ≡ has id f g
  unfolding carries
  carries_is f id n g h = rw (item_r-id g h, item_r_mark g h, item_r-nonce g h) (go (same g.id id) refl)
    where
      go : (b : Bool) → same g.id id ≡ b → (b && same (r_mark suite (rl_of g.field) g.nonce g.id) (r_mark suite (rl_of f) g.nonce id)) ≡ has id f g
      go true e =
          let p : g.id ≡ id = same_true g.id id e in
          let q : same id g.id ≡ true = same_sym id g.id ∙ e in
          ap (λ (i : List ℕ). same (r_mark suite (rl_of g.field) g.nonce g.id) (r_mark suite (rl_of f) g.nonce i)) (sym p)
          ∙ marks_tell f n g h
          ∙ sym (rw q (and-true (same_field g.field f)))
        where
          and-true : (b : Bool) → (b && true) ≡ b
          and-true true = refl
          and-true false = refl
      go false e = sym (rw (same_sym id g.id ∙ e) (and-false (same_field g.field f)))

  -- a test tells whether the ledger has the id in a list of the field
  pub tests_is : (t_r : Table) (all : List (List ℕ)) (es : List Entry) → Marks t_r all es → (f : Field) → Filed f → (id : List ℕ) → tests suite t_r (rl_of f) id ≡ has_in id f es
  unfolding tests
  tests_is t_r all es X f n id =
      any_same (carries suite (rl_of f) id) (used t_r) (map item_r X.G) X.rows_r
      ∙ any_map item_r (carries suite (rl_of f) id) X.G
      ∙ any_agree Good (λ g. carries suite (rl_of f) id (item_r g)) (has id f) (carries_is f id n) X.G X.good
      ∙ X.held id f

  -- ---- insert

  rows_are : (f : Field) (ids : List (List ℕ)) (nonces : List ℕ) → map body (label_rows suite (rl_of f) ids nonces) ≡ map item_r (items f ids nonces)
  rows_are f [] nonces = refl
  rows_are f (y ∷ ys) nonces = ap (λ (l : List (List ℕ)). item_r (record { field = f; nonce = take 12 nonces; id = y }) ∷ l) (rows_are f ys (drop 12 nonces))

  items_good : (f : Field) → Filed f → (ids : List (List ℕ)) (nonces : List ℕ) → All (λ i. length i ≡ 16) ids → 12 * length ids ≤ length nonces
      → ((y : Labelling) → Memᴰ y (labellings ids nonces) → Brought y) → All Good (items f ids nonces)
  items_good f n [] nonces w h b = tt
  items_good f n (y ∷ ys) nonces w h b =
      let d = length-drop 12 nonces in (
        record { filed = n; brought = b _ (Memᴰ.head refl); id_length = w.0; nonce_length = length-take-le 12 nonces (omega arith) },
        items_good f n ys (drop 12 nonces) w.1 (omega arith) (λ v m. b v (Memᴰ.append_right (record { nonce = take 12 nonces; id = y } ∷ []) m)),
      )

  rows_more : (t_r t_r' : Table) (new : List Row) → AddedAll (width_of table_r) t_r new t_r' → Same (used t_r') (map body new ++ used t_r)
  rows_more t_r t_r' new a =
      subst (Same (used t_r')) (map_join body new (used_rows t_r) ∙ ap (λ (l : List (List ℕ)). map body new ++ l) (sym (used_is t_r)))
      (used_same t_r' (new ++ used_rows t_r) (rw a.is (with_rows_lem (width_of table_r) new t_r a.busy)))

  pub marks_insert : (t_r t_r' : Table) (all all' : List (List ℕ)) (es : List Entry) → Marks t_r all es
      → (f : Field) → Filed f → (ids : List (List ℕ)) (nonces : List ℕ) → All (λ i. length i ≡ 16) ids → 12 * length ids ≤ length nonces
      → ((y : Labelling) → Memᴰ y (labellings ids nonces) → Brought y)
      → AddedAll (width_of table_r) t_r (label_rows suite (rl_of f) ids nonces) t_r'
      → Same all' (ids ++ all)
      → (e : Entry) → e.pair.field ≡ f → e.ids ≡ (entry_of e.pair es).ids ++ ids
      → Marks t_r' all' (with_entry e es)
  marks_insert t_r t_r' all all' es X f n ids nonces w h b a s e ef ei = record {
    G = items f ids nonces ++ X.G;
    good = all_append Good (items f ids nonces) X.G (items_good f n ids nonces w h b) X.good;
    rows_r = record {
      counts = λ p.
          (rows_more t_r t_r' (label_rows suite (rl_of f) ids nonces) a).counts p
          ∙ count-append p (map body (label_rows suite (rl_of f) ids nonces)) (used t_r)
          ∙ both_counts (ap (count p) (rows_are f ids nonces)) (X.rows_r.counts p)
          ∙ sym (count-append p (map item_r (items f ids nonces)) (map item_r X.G))
          ∙ ap (count p) (sym (map_join item_r (items f ids nonces) X.G));
    };
    listing = record {
      counts = λ p.
          s.counts p
          ∙ count-append p ids all
          ∙ both_counts (ap (count p) (sym (items_ids f ids nonces))) (X.listing.counts p)
          ∙ sym (count-append p (map (λ (g : Item). g.id) (items f ids nonces)) (map (λ (g : Item). g.id) X.G))
          ∙ ap (count p) (sym (map_join (λ (g : Item). g.id) (items f ids nonces) X.G));
    };
    held = λ id g.
        any_append (has id g) (items f ids nonces) X.G
        ∙ ap₂ (λ (a b : Bool). a || b) (items_have id f g ids nonces) (X.held id g)
        ∙ sym (has_more id g ids e es ei ∙ ap (λ (k : Field). (same_field k g && any_of (same id) ids) || has_in id g es) ef);
  }

  -- ---- erase

  pub marks_erase : (t_r : Table) (all : List (List ℕ)) (es : List Entry) → Marks t_r all es → (id : List ℕ)
      → Marks (closed (width_of table_r) (λ b. same (label_id b) id) t_r) (select (λ y. not (same y id)) all) (map (removed id) es)
  marks_erase t_r all es X id = record {
    G = select (λ g. not (same g.id id)) X.G;
    good = all_select Good (λ g. not (same g.id id)) X.G X.good;
    rows_r = record {
      counts = λ p.
          (closed_same (width_of table_r) (λ b. same (label_id b) id) t_r).counts p
          ∙ (Same-select (λ b. not (same (label_id b) id)) (used t_r) (map item_r X.G) X.rows_r).counts p
          ∙ ap (count p) (select-map item_r (λ b. not (same (label_id b) id)) X.G
          ∙ ap (map item_r) (select_agree Good (λ g. not (same (label_id (item_r g)) id)) (λ g. not (same g.id id))
          (λ g h. ap (λ (i : List ℕ). not (same i id)) (item_r-id g h)) X.G X.good));
    };
    listing = record {
      counts = λ p.
          (Same-select (λ y. not (same y id)) all (map (λ (g : Item). g.id) X.G) X.listing).counts p
          ∙ ap (count p) (select-map (λ (g : Item). g.id) (λ y. not (same y id)) X.G);
    };
    held = λ i f. items_rest i id f X.G ∙ ap (λ (b : Bool). not (same i id) && b) (X.held i f) ∙ sym (has_rest i id f es);
  }
