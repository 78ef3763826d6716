-- The claim: call after call, the store and the ledger tell the same and stay together.
use Prim.Native.Nat.{ℕ, suc, ◌+◌, ◌≤◌}
use mathlib.Core.Path.{◌≡◌, refl, subst}
use mathlib.Core.List.Memᴰ
use mathlib.Core.List.{List, [], ◌∷◌, map, Memᴰ}
use native.Mathlib.Nat.{add-zero}
use native.Mathlib.Omega.{arith}
use lib.ListN.{length}
use Rattle.table.specs.Lists.{All, flat}
use Rattle.scheme.specs.Suite.{Suite}
use Rattle.scheme.specs.Labels.{Field}
use Rattle.scheme.specs.Call.{Call}
use Rattle.scheme.specs.Ledger.{Ledger, empty, ledger_tells, ledger_step, ledger_after}
use Rattle.scheme.specs.Store.{fresh}
use Rattle.scheme.specs.Run.{perform, told_by, store_tells, store_after}
use Rattle.scheme.specs.Premise.{KeyFits, fields_of, Labelling, labellings_of}
use Rattle.scheme.specs.Claim
use Rattle.scheme.specs.Claim.{bounds_of}
use Rattle.scheme.proofs.Setting.{Setting}
use Rattle.scheme.proofs.Simulation.{Sim, begin}
use Rattle.scheme.proofs.Queries.{After, order_step, erase_step, find_step, count_step}
use Rattle.scheme.proofs.Inserting.{insert_step}
use Rattle.scheme.proofs.Joining.{test_step, joint_step}
use Rattle.scheme.proofs.Compactions.{compact_step}
use Rattle.scheme.proofs.Checking.{check_step}

module _ (x : Setting) where
  open x use {suite, K, z, calls}

  -- what these calls name and bring for R, the list does
  pub record InList (rest : List Call) : Type 0 where
    pub names : (f : Field) → Memᴰ f (flat (map fields_of rest)) → Memᴰ f (flat (map fields_of calls))
    pub brings : (y : Labelling) → Memᴰ y (flat (map labellings_of rest)) → Memᴰ y (flat (map labellings_of calls))

  in_rest : (call : Call) (rest : List Call) → InList (call ∷ rest) → InList rest
  in_rest call rest n = record {
    names = λ f m. n.names f (Memᴰ.append_right (fields_of call) m);
    brings = λ y m. n.brings y (Memᴰ.append_right (labellings_of call) m);
  }

  -- one call
  one : (i : ℕ) (before : List ℕ) (l : Ledger) → suc i ≤ length calls → Sim x i before l → (call : Call) → KeyFits K call → ((f : Field) → Memᴰ f (fields_of call) → Memᴰ f (flat (map fields_of calls)))
      → ((y : Labelling) → Memᴰ y (labellings_of call) → Memᴰ y (flat (map labellings_of calls)))
      → After x i call l (told_by call (perform suite call before)) (perform suite call before).store
  one i before l hi s (Call.insert key f p u nonce ids nonces) k n b = insert_step x i before l hi s key f p u nonce ids nonces k (n f (Memᴰ.head refl)) b
  one i before l hi s (Call.erase id) k n b = erase_step x i before l (omega arith) s id _ _ (record { answer = refl; output = refl; store = refl })
  one i before l hi s (Call.find key f output) k n b = find_step x i before l (omega arith) s key f k (n f (Memᴰ.head refl)) output _ _ (record { answer = refl; output = refl; store = refl })
  one i before l hi s (Call.count key f) k n b = count_step x i before l (omega arith) s key f k (n f (Memᴰ.head refl))
  one i before l hi s (Call.compact key nonces) k n b = compact_step x i before l hi s key nonces k
  one i before l hi s Call.order k n b = order_step x i before l (omega arith) s
  one i before l hi s Call.check k n b = check_step x i before l (omega arith) s
  one i before l hi s (Call.test key f id) k n b = test_step x i before l (omega arith) s key f id k (n f (Memᴰ.head refl))
  one i before l hi s (Call.joint_find parts output) k n b = joint_step x i before l (omega arith) s output parts k n

  -- call after call: the same is told, and store and ledger stay together
  pub record Followed (i : ℕ) (before : List ℕ) (l : Ledger) (rest : List Call) : Type 0 where
    pub told : store_tells suite rest before ≡ ledger_tells (bounds_of z) l rest
    pub sim : Sim x (i + length rest) (store_after suite rest before) (ledger_after (bounds_of z) l rest)

  abbrev Follows : List Call → Type 0
  Follows rest = (i : ℕ) (before : List ℕ) (l : Ledger) → i + length rest ≡ length calls → InList rest → All (KeyFits K) rest → Sim x i before l → Followed i before l rest

  -- one call, then the rest
  joins : (i : ℕ) (before : List ℕ) (l : Ledger) (call : Call) (rest : List Call) → After x i call l (told_by call (perform suite call before)) (perform suite call before).store
      → Followed (suc i) (perform suite call before).store (ledger_step (bounds_of z) l call).next rest → Followed i before l (call ∷ rest)
  joins i before l call rest a r =
      let e : suc i + length rest ≡ i + suc (length rest) = omega arith in
      record {
        told = λ j. a.told_is j ∷ r.told j;
        sim = subst (λ (n : ℕ). Sim x n (store_after suite rest (perform suite call before).store) (ledger_after (bounds_of z) (ledger_step (bounds_of z) l call).next rest)) e r.sim;
      }

  follows_more : (call : Call) (rest : List Call) → Follows rest → Follows (call ∷ rest)
  follows_more call rest more i before l e n k s =
      let a = one i before l (omega arith) s call k.0 (λ f m. n.names f (Memᴰ.append_left (flat (map fields_of rest)) m)) (λ y m. n.brings y (Memᴰ.append_left (flat (map labellings_of rest)) m)) in
      joins i before l call rest a
      (more (suc i) (perform suite call before).store (ledger_step (bounds_of z) l call).next (omega arith) (in_rest call rest n) k.1 a.sim)

  pub follows : (rest : List Call) → Follows rest
  follows [] = λ i before l e n k s. record { told = refl; sim = rw (add-zero i) s }
  follows (call ∷ rest) = follows_more call rest (follows rest)

-- for every suite
pub claim : (suite : Suite) → Claim.Claim suite
unfolding Claim.Claim
claim suite K z calls h_k hz keys premise =
    let x : Setting = record { suite = suite; K = K; z = z; calls = calls; key_length = h_k; sizes_good = hz; premise = premise } in
    (follows x calls 0 (fresh z) empty (omega arith) (record { names = λ f m. m; brings = λ y m. m }) keys (begin x)).told
