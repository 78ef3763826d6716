use Prim.Native.Nat.{ℕ, ◌+◌, ◌*◌, ◌-◌, ◌≤◌}
use mathlib.Core.Path.{◌≡◌, sym, ap, subst, ◌∙◌}
use mathlib.Core.Bool.{Bool, true, false, not, cond}
use mathlib.Core.List.{List, [], map}
use native.Mathlib.Nat.{add-zero}
use native.Mathlib.Omega.{arith}
use lib.Dec.{ltb}
use lib.ListN.{length, get_or, drop, set}
use borrow.Author.Tests.{lt-ltb, le-ltb}
use Rattle.table.specs.Lists.{bit}
use Rattle.table.specs.Table.{Table, rows, used, place_of}
use Rattle.table.proofs.Rows.{rows-length}
use Rattle.repeats.proofs.Keys.{inside, tail_text, keys_length}
use Rattle.matching.proofs.Flags.{Reaching, reach_start, reach_turn, reach_end}
use Rattle.matching.proofs.reach.Goals as goal
use Rattle.matching.proofs.reach.Goals.{else-i-n, then-i-n}
use Rattle.matching.proofs.reach.Lts.View as view
use Rattle.matching.proofs.reach.Goals.{After-place-i, In-loop-j, Joined-i-n, Start}

module _ (s : Start) where
  abbrev xs : List (List ℕ)
  xs = map (drop (s.args.width - 33)) (used (rows s.args.width s.args.m s.args.v.now))

  abbrev in_t : Table
  in_t = rows s.args.w s.args.n s.args.t.now

  long : length xs ≡ s.args.used
  long = keys_length s.args.width s.args.used (rows s.args.width s.args.m s.args.v.now) s.requires.le_width.1 (drop (s.args.width - 33))

-- the row ends within its table
row : (c : In-loop-j) →
    let a = c.args in
    let j = c.loop-j.j in
    (a.width * j + a.width ≤ length a.v.now) × (33 ≤ a.width)
row c = let a = c.args in
    ((inside a.width a.m a.used a.v.now c.requires.le_width.1 c.requires.le_width.0.1 c.loop-j.j (omega (arith, c.loop-j-test.true))).1, c.requires.le_width.0.0)

-- the place that was found is that of the row's tag
found : (c : After-place-i) →
    let s = c.before.before.before.before.before.before.before.before.before in
    c.place-i.result ≡ place_of (get_or (xs s) c.loop-j.j []) (in_t s)
found c = let s = c.before.before.before.before.before.before.before.before.before in
    let a = s.args in
    c.place-i.ensures
    ∙ ap (λ (x : List ℕ). place_of x (in_t s)) (sym (tail_text a.width a.m a.used a.v.now s.requires.le_width.1 s.requires.le_width.0.1 c.loop-j.j s.requires.le_width.0.0 (omega (arith, c.loop-j-test.true))))

turn : (c : Joined-i-n) (b : Bool) →
    let s = c.before.before.before.before.before.before.before.before.before.before in
    let l = c.loop-j in
    ltb c.place-i.result s.args.n ≡ b → Reaching (in_t s) (xs s) s.args.flags.now (l.j + 1) (l.lost + bit (not b)) (cond b (set l.flags c.place-i.result 1) l.flags)
turn c b e = let s = c.before.before.before.before.before.before.before.before.before.before in
    let l = c.loop-j in
    let f = found (view.up-After-place-i _ _ _ _ _ _ c.before.before) in
    let n = rows-length s.args.w s.args.n s.args.t.now in
    subst (λ (p : ℕ). Reaching (in_t s) (xs s) s.args.flags.now (l.j + 1) (l.lost + bit (not b)) (cond b (set l.flags p 1) l.flags)) (sym f)
    (reach_turn (in_t s) (xs s) s.args.flags.now l.j l.lost l.flags l.invariant (omega (arith, long s, c.loop-j-test.true)) b
    (sym (ap (λ (p : ℕ). ltb p (length (in_t s))) f) ∙ ap (ltb c.place-i.result) n ∙ e))

alike : (t : Table) (l : List (List ℕ)) (f₀ : List ℕ) (j lost lost' : ℕ) (f f' : List ℕ) → lost ≡ lost' → f ≡ f' → Reaching t l f₀ j lost f → Reaching t l f₀ j lost' f'
alike t l f₀ j lost lost' f f' e g r = subst (λ (n : ℕ). Reaching t l f₀ j n f') e (subst (Reaching t l f₀ j lost) g r)

pub loop-j-preserved : goal.loop-j-preserved
loop-j-preserved c =
    let s = (goal.at.loop-j-preserved c).Start in
    let l = c.loop-j in
    elim c.if-i-n.branch [ then-i-n w ↦ alike (in_t s) (xs s) s.args.flags.now (l.j + 1) _ _ _ _ (add-zero l.lost ∙ sym w.lost-is) (sym w.flags-is) (turn c true (lt-ltb c.place-i.result s.args.n w.if-i-n.true)) | else-i-n w ↦ alike (in_t s) (xs s) s.args.flags.now (l.j + 1) _ _ _ _ (sym w.lost-is) (sym w.flags-is) (turn c false (le-ltb c.place-i.result s.args.n (omega (arith, w.if-i-n.false)))) ]

pub returns : goal.returns
returns c =
    let s = (goal.at.returns c).Start in
    let l = c.loop-j in
    let both = reach_end (in_t s) (xs s) s.args.flags.now l.j l.lost l.flags l.invariant (omega (arith, long s, c.loop-j-test.false)) in
    record { value = both.0; flags_after = both.1 }

pub loop-j-init : goal.loop-j-init
loop-j-init c = let s = (goal.at.loop-j-init c).Start in reach_start (in_t s) (xs s) s.args.flags.now

pub overflow_mul-e : goal.overflow_mul-e
overflow_mul-e c = omega (arith, row c)

pub overflow_add-e : goal.overflow_add-e
overflow_add-e c = omega (arith, row c)

pub slice_bounds-place-end : goal.slice_bounds-place-end
slice_bounds-place-end c = omega (arith, row c)
