-- A flag that is set keeps the output; else the id is written.
use Prim.Native.Nat.{ℕ, ◌+◌, ◌*◌}
use mathlib.Core.Path.{◌≡◌, refl, sym, ap, ◌∙◌}
use mathlib.Core.List.{List, [], ◌∷◌, append-nil}
use native.Mathlib.Omega.{arith}
use borrow.Author.Tests.{eq-eqb, ne_eqb}
use lib.ListN.{length}
use Rattle.octets.specs.Part.{written}
use Rattle.octets.proofs.Parts.{written_none}
use Rattle.table.specs.Lists.{flat}
use Rattle.table.specs.Table.{rows}
use Rattle.scheme.specs.Store.{table_m, width_of}
use Rattle.chains.specs.Chains.{id_by, row_at}
use Rattle.sifting.specs.Sifting.{stays}
use Rattle.sifting.proofs.put.Goals as goal
use Rattle.sifting.proofs.put.Goals.{Start}

abbrev id_at : Start → List ℕ
id_at s = id_by s.args.me (rows (width_of table_m) s.args.m s.args.t.now) (row_at s.args.index.now s.args.i)

gone : (s : Start) → (s.args.flag ≡ 0 → ⊥) → stays s.args.flag (id_at s) ≡ []
unfolding stays
gone s h = rw (ne_eqb s.args.flag 0 h) refl

here : (s : Start) → s.args.flag ≡ 0 → stays s.args.flag (id_at s) ≡ id_at s ∷ []
unfolding stays
here s h = rw (eq-eqb s.args.flag 0 h) refl

pub returns-then-flag-ne0 : goal.returns-then-flag-ne0
returns-then-flag-ne0 c =
    let s = (goal.at.returns-then-flag-ne0 c).Start in
    let g = gone s c.if-flag-ne0.true in record { value = sym (ap (λ (l : List (List ℕ)). s.args.k + length l) g ∙ omega arith); output_after = sym (ap (λ (l : List (List ℕ)). written s.args.output.now (16 * s.args.k) (flat l)) g ∙ written_none s.args.output.now (16 * s.args.k)) }

pub copy_at-requires : goal.copy_at-requires
copy_at-requires c =
    let s = (goal.at.copy_at-requires c).Start in
    omega (arith, s.requires.i_in_bounds, ap length (here s c.if-flag-ne0.false))

pub returns : goal.returns
returns c =
    let y = c in
    let s = (goal.at.returns c).Start in
    let h = here s y.if-flag-ne0.false in record { value = sym (ap (λ (l : List (List ℕ)). s.args.k + length l) h); output_after = y.copy_at.ensures ∙ ap (written s.args.output.now (16 * s.args.k)) (y.id_at-id.ensures ∙ sym (append-nil (id_at s))) ∙ sym (ap (λ (l : List (List ℕ)). written s.args.output.now (16 * s.args.k) (flat l)) h) }
