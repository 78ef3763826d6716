-- A find by one pair is the find: with one part the joint find tests no id.
use Prim.Native.Nat.{ℕ, ◌*◌, ◌/◌, ◌%◌}
use mathlib.Core.Path.{◌≡◌, refl, sym, ap, ap₂, ◌∙◌}
use mathlib.Core.Bool.{Bool, true, false, cond, not, ◌||◌}
use mathlib.Core.Option.{Option, some}
use mathlib.Core.List.{List, [], ◌∷◌, ◌++◌, map, append-nil}
use native.Mathlib.Omega.{arith}
use lib.Dec.{eqb, ltb}
use lib.ListN.{length, get_or, drop}
use lib.Seq.{take_at, take_all}
use Rattle.answer.specs.Answer.{Answer, done, refused}
use Rattle.answer.specs.Verdict.{Test, ◌⇒◌, ◌⇒◌carrying◌, verdict, answer_or, unless_refused}
use Rattle.table.specs.Lists.{any_of, all_of, select, flat, up_to}
use Rattle.table.specs.Table.{rows}
use Rattle.scheme.specs.Keys.{RL, find_token, part_token, find_cl, part_find}
use Rattle.scheme.specs.Store.{sizes_of, state_tests}
use Rattle.scheme.specs.Reading.{damaged}
use Rattle.scheme.specs.Refusals.{Result, field_token_tests, token_tests, parts_in, part_tests}
use Rattle.scheme.specs.Find.{share_reading, ids_found, find_verdict, find}
use Rattle.scheme.specs.JointFind.{least_at, without, part_damaged, part_sum, part_ids, part_test, chosen_at, chosen_part, ids_kept, joint_verdict, joint_find}
use Rattle.scheme.specs.Run.{made_or, find_call, joint_call}
use Rattle.suite.specs.Program.{program}
use Rattle.parts.specs.Parts.{part_at, parts_from, parts_of}
use Rattle.client.proofs.Making.{find_length}
use Rattle.parts.proofs.Laws.{part_length}

select_all : (l : List (List ℕ)) → select (λ x. true) l ≡ l
select_all [] = refl
select_all (x ∷ xs) = ap (λ (r : List (List ℕ)). x ∷ r) (select_all xs)

or-false : (b : Bool) → b || false ≡ b
or-false true = refl
or-false false = refl

module _ (before part token output : List ℕ) (long : length part ≡ 128) (short : length token ≡ 96) (first : part_find part ≡ token) where
  alone : parts_in part ≡ part ∷ []
  alone = ap (λ (n : ℕ). rows 128 (n / 128) part) long ∙ ap (λ (p : List ℕ). p ∷ []) (take_all 128 part (omega arith))

  -- its ids, none of them tested; its damage
  abbrev kept_of : List (List ℕ) → List (List ℕ)
  kept_of ps =
      let i = least_at (map (part_sum program before) ps) in
      select (λ id. all_of (part_test program before id) (without i ps)) (part_ids program before (get_or ps i []))

  kept : ids_kept program before part ≡ ids_found program before token
  unfolding ids_kept chosen_part chosen_at part_ids
  kept = ap kept_of alone ∙ select_all (part_ids program before part) ∙ ap (ids_found program before) first

  damage : any_of (part_damaged program before) (parts_in part) ≡ any_of (λ u. damaged (share_reading program before (find_cl token) u)) (up_to (sizes_of before).p)
  unfolding part_damaged
  damage =
      ap (any_of (part_damaged program before)) alone
      ∙ or-false (part_damaged program before part)
      ∙ ap (λ (t : List ℕ). any_of (λ u. damaged (share_reading program before (find_cl t) u)) (up_to (sizes_of before).p)) first

  abbrev last : Bool → List (List ℕ) → List Test
  last d ids = (d ⇒ 13) ∷ (ltb (length output) (16 * length ids) ⇒ 18 carrying (length ids ∷ [])) ∷ []

  one_verdict : joint_verdict program before part output ≡ find_verdict program before token output
  unfolding joint_verdict find_verdict part_tests token_tests
  one_verdict =
      let six = ap (λ (n : ℕ). not (eqb (n % 128) 0) || (ltb (n / 128) 1 || ltb 8 (n / 128))) long ∙ sym (ap (λ (n : ℕ). not (eqb n 96)) short) in
      ap₂ (λ (b : Bool) (ts : List Test). cond b (some (refused 6 [])) (verdict (state_tests before ++ ts))) six (ap₂ last damage kept)

  one_part : joint_find program before part output ≡ find program before token output
  unfolding joint_find find
  one_part = ap₂ told one_verdict kept
    where
      told : Option Answer → List (List ℕ) → Result
      told v ids = record {
        answer = answer_or v (done (length ids ∷ []));
        store = before;
        output = unless_refused v (flat ids ++ drop (16 * length ids) output) output;
      }

-- the call of one pair is the find of its field and value
pub one_pair : (before line key output : List ℕ) → joint_call program before (parts_of line key 1) output ≡ find_call program before key (part_at line key 0).field output
unfolding joint_call find_call parts_from part_token part_find
one_pair before line key output =
    let f = (part_at line key 0).field in
    let token = find_token program key f in
    ap₂ (λ (ts : List Test) (part : List ℕ). made_or (verdict ts) (joint_find program before part output) before output) (append-nil (field_token_tests key f)) (append-nil (part_token program key f))
    ∙ ap (λ (r : Result). made_or (verdict (field_token_tests key f)) r before output) (one_part before (part_token program key f) token output (part_length key f) (find_length key f) (take_at token (RL program key f) 96 (find_length key f)))
