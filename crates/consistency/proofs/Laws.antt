-- The tables of a store that passed the checks, and each number as the definition has it.
use Prim.Native.Nat.{ℕ, ◌-◌}
use mathlib.Core.Path.{◌≡◌, sym, ap, ap₂, ◌∙◌}
use mathlib.Core.List.{List, [], ◌∷◌, map, append-nil}
use lib.ListN.{length, take}
use Rattle.table.specs.Lists.{repeats, lacking}
use Rattle.table.specs.Table.{Table, used}
use Rattle.table.proofs.Order.{used_rows-length}
use Rattle.answer.specs.Answer.{done, refusal, faults_of}
use Rattle.answer.specs.Verdict.{verdict, answer_or}
use Rattle.answer.specs.declared.Refusal.{Refusal}
use Rattle.answer.specs.declared.Faults.{Faults}
use Rattle.scheme.specs.Store.{Which, table_m, table_v, table_c, table_r, width_of, greatest_mark, cut, state_tests, reverse_id, label_id}
use Rattle.scheme.specs.Check
use Rattle.scheme.specs.Check.{tags_in, reverse_tags, repeated_entries, repeated_counters, reverses_without_entry, entries_without_reverse, reverses_without_label, labels_without_reverse, labels_in_excess, faults, check_verdict}
use Rattle.store.specs.declared.Shape.{Shape}
use Rattle.std.specs.Prelude.{Ok, Err}
use Rattle.store.specs.Check.{checked_of, part_in}
use Rattle.store.specs.Tables.{table_of}
use Rattle.store.proofs.Laws.{fits, free_le, part_searchable, used_rows_lem, unfit, fit_verdict}
use Rattle.consistency.specs.Ready.{Ready}

module _ (b : List ℕ) (z : Shape) (e : checked_of b ≡ Ok z) where
  pub ready : (k : Which) → greatest_mark k ≡ 1 → Ready b (part_in z k) (width_of k)
  ready k g = record {
    within = record { from = (fits b z e k).from; to = (fits b z e k).to; long = (fits b z e k).long };
    few = free_le b z e k;
    searchable = part_searchable b z e k g;
  }

  pub table_is : (k : Which) → table_of b (part_in z k) (width_of k) ≡ (cut b).table k
  table_is k = (fits b z e k).same

  -- how many rows of a table are used
  used_is : (k : Which) → (part_in z k).rows - (part_in z k).free ≡ length (used ((cut b).table k))
  used_is k = used_rows_lem b z e k ∙ used_rows-length ((cut b).table k)

  -- the seven numbers
  pub counted : (f : Faults)
      → f.mm ≡ repeats (tags_in (table_of b (part_in z table_m) (width_of table_m)))
      → f.cc ≡ repeats (tags_in (table_of b (part_in z table_c) (width_of table_c)))
      → f.vm ≡ lacking (reverse_tags (table_of b (part_in z table_v) (width_of table_v))) (tags_in (table_of b (part_in z table_m) (width_of table_m)))
      → f.mv ≡ lacking (tags_in (table_of b (part_in z table_m) (width_of table_m))) (reverse_tags (table_of b (part_in z table_v) (width_of table_v)))
      → f.vr ≡ lacking (map (take 16) (used (table_of b (part_in z table_v) (width_of table_v)))) (map (take 16) (used (table_of b (part_in z table_r) (width_of table_r))))
      → f.rv ≡ lacking (map (take 16) (used (table_of b (part_in z table_r) (width_of table_r)))) (map (take 16) (used (table_of b (part_in z table_v) (width_of table_v))))
      → f.excess ≡ (part_in z table_r).rows - (part_in z table_r).free - ((part_in z table_v).rows - (part_in z table_v).free)
      → faults_of f ≡ faults (cut b)
  unfolding faults repeated_entries repeated_counters reverses_without_entry entries_without_reverse reverses_without_label labels_without_reverse labels_in_excess reverse_id label_id
  counted f mm cc vm mv vr rv ex =
      let t_m = table_is table_m in
      let t_v = table_is table_v in
      let t_c = table_is table_c in
      let t_r = table_is table_r in
      λ i. (mm ∙ ap (λ (t : Table). repeats (tags_in t)) t_m) i
      ∷ (cc ∙ ap (λ (t : Table). repeats (tags_in t)) t_c) i
      ∷ (vm ∙ ap₂ (λ (s t : Table). lacking (reverse_tags s) (tags_in t)) t_v t_m) i
      ∷ (mv ∙ ap₂ (λ (s t : Table). lacking (tags_in s) (reverse_tags t)) t_m t_v) i
      ∷ (vr ∙ ap₂ (λ (s t : Table). lacking (map (take 16) (used s)) (map (take 16) (used t))) t_v t_r) i
      ∷ (rv ∙ ap₂ (λ (s t : Table). lacking (map (take 16) (used s)) (map (take 16) (used t))) t_r t_v) i
      ∷ (ex ∙ ap₂ (λ (m n : ℕ). m - n) (used_is table_r) (used_is table_v)) i
      ∷ []

  pub check_done : (f : Faults) → faults_of f ≡ faults (cut b) → done (faults_of f) ≡ (Check.check b).answer
  unfolding Check.check check_verdict
  check_done f h =
      let v = ap verdict (sym (append-nil (state_tests b))) ∙ fit_verdict b z [] e in
      ap done h ∙ sym (ap (λ (o : _). answer_or o (done (faults (cut b)))) v)

pub check_refused : (b : List ℕ) (r : Refusal) → checked_of b ≡ Err r → refusal r ≡ (Check.check b).answer
unfolding Check.check check_verdict
check_refused b r e =
    let v = ap verdict (sym (append-nil (state_tests b))) ∙ unfit b r [] e in
    sym (ap (λ (o : _). answer_or o (done (faults (cut b)))) v)
