-- What a run of each request gives, put together from what its pieces give.
use Prim.Native.Nat.{ℕ}
use mathlib.Core.Path.{◌≡◌, refl, sym, subst}
use mathlib.Core.Bool.{Bool, true, false}
use mathlib.Core.List.{List, [], ◌∷◌, ◌++◌}
use lib.ListN.{length, replicate, length-replicate}
use Rattle.text.specs.Ascii.{ascii}
use Rattle.words.specs.Line.{word_at}
use Rattle.words.specs.declared.Command.{Command}
use Rattle.request.specs.declared.Request.{Request}
use Rattle.request.specs.declared.Request.TheVariants.{Help, Misused, NotNumber, NotId, Find, Count, Erase, Order, Show, Check, InsertToken, FindToken, CountToken, CompactionToken, FindBy, CountBy}
use Rattle.answer.specs.declared.Faults.{Faults}
use Rattle.outcome.specs.declared.Outcome.{Outcome}
use Rattle.outcome.specs.declared.Outcome.TheVariants.{Number, Counted, Inspected, Compacted, Damaged, WrongKey, Refused, Done, BadWords}
use Rattle.buffer.specs.Put.{Put}
use Rattle.buffer.proofs.Laws.{nothing}
use Rattle.lines.specs.Answer.{answer_line}
use Rattle.usage.specs.Usage.{usage_line, help_text}
use Rattle.report.specs.declared.Ran.{Ran}
use Rattle.report.specs.Run.{lent, Performed, found_text, count_text, check_text, bad_word, out_text, err_text, Ends}

-- the same outcome, where the result holds it
pub ended : (q : Request) (line before key random after : List ℕ) {out err out_after err_after : List ℕ} (o : Outcome) (r : Ran) → r.outcome ≡ o
    → Performed line before key random q o after → Put out 0 (out_text q line before key random o) out_after r.out → Put err 0 (err_text q line o) err_after r.err
    → Ends q line before key random out err r after out_after err_after
ended q line before key random after {out} {err} {out_after} {err_after} o r e p x y = record {
  performed = subst (λ (z : Outcome). Performed line before key random q z after) (sym e) p;
  output = subst (λ (z : Outcome). Put out 0 (out_text q line before key random z) out_after r.out) (sym e) x;
  errors = subst (λ (z : Outcome). Put err 0 (err_text q line z) err_after r.err) (sym e) y;
}

-- a text of so many bytes
pub sized : {a x b : List ℕ} {m n : ℕ} → n ≡ m → Put a 0 x b m → Put a 0 x b n
sized {a} {x} {b} e p = subst (λ (k : ℕ). Put a 0 x b k) (sym e) p

-- the arm of a request
pub arm : {q d : Request} {line before key random out err after out_after err_after : List ℕ} {r : Ran} → d ≡ q
    → Ends q line before key random out err r after out_after err_after → Ends d line before key random out err r after out_after err_after
arm {line = line} {before = before} {key = key} {random = random} {out = out} {err = err} {after = after} {out_after = out_after} {err_after = err_after} {r = r} e x =
    subst (λ (z : Request). Ends z line before key random out err r after out_after err_after) (sym e) x

-- what a request does not take may be anything
module _ {line before key out err after out_after err_after : List ℕ} {r : Ran} (random : List ℕ) where
  pub found_any : {n : ℕ} → Ends (Find n) line before key [] out err r after out_after err_after → Ends (Find n) line before key random out err r after out_after err_after
  found_any x = record { performed = x.performed; output = x.output; errors = x.errors }

  pub counted_any : {rows : Bool} → Ends (Count rows) line before key [] out err r after out_after err_after
      → Ends (Count rows) line before key random out err r after out_after err_after
  counted_any x = record { performed = x.performed; output = x.output; errors = x.errors }

  pub erased_any : Ends Erase line before [] [] out err r after out_after err_after → Ends Erase line before key random out err r after out_after err_after
  erased_any x = record { performed = x.performed; output = x.output; errors = x.errors }

  pub ordered_any : Ends Order [] before [] [] out err r after out_after err_after → Ends Order line before key random out err r after out_after err_after
  ordered_any x = record { performed = x.performed; output = x.output; errors = x.errors }

  pub found_by_any : Ends FindBy line before key [] out err r after out_after err_after → Ends FindBy line before key random out err r after out_after err_after
  found_by_any x = record { performed = x.performed; output = x.output; errors = x.errors }

  pub counted_by_any : {rows : Bool} → Ends (CountBy rows) line before key [] out err r after out_after err_after
      → Ends (CountBy rows) line before key random out err r after out_after err_after
  counted_by_any x = record { performed = x.performed; output = x.output; errors = x.errors }

  pub shown_any : Ends Show [] before [] [] out err r after out_after err_after → Ends Show line before key random out err r after out_after err_after
  shown_any x = record { performed = x.performed; output = x.output; errors = x.errors }

  pub checked_any : Ends Check [] before [] [] out err r after out_after err_after → Ends Check line before key random out err r after out_after err_after
  checked_any x = record { performed = x.performed; output = x.output; errors = x.errors }

-- a token's making has no store
module _ {line key out err out_after err_after : List ℕ} {r : Ran} (before : List ℕ) where
  pub insert_token_any : {p u : ℕ} {random : List ℕ} → Ends (InsertToken p u) line [] key random out err r [] out_after err_after
      → Ends (InsertToken p u) line before key random out err r before out_after err_after
  insert_token_any x = record { performed = (x.performed.0, (x.performed.1.0, refl)); output = x.output; errors = x.errors }

  module _ (random : List ℕ) where
    pub find_token_any : Ends FindToken line [] key [] out err r [] out_after err_after → Ends FindToken line before key random out err r before out_after err_after
    find_token_any x = record { performed = (x.performed.0, (x.performed.1.0, refl)); output = x.output; errors = x.errors }

    pub count_token_any : Ends CountToken line [] key [] out err r [] out_after err_after → Ends CountToken line before key random out err r before out_after err_after
    count_token_any x = record { performed = (x.performed.0, (x.performed.1.0, refl)); output = x.output; errors = x.errors }

    pub compaction_token_any : Ends CompactionToken line [] key [] out err r [] out_after err_after
        → Ends CompactionToken line before key random out err r before out_after err_after
    compaction_token_any x = record { performed = (x.performed.0, (x.performed.1.0, refl)); output = x.output; errors = x.errors }

-- words alone
pub helped : (line before key random : List ℕ) {out err out_after : List ℕ} (r : Ran) (c : Command) → r.outcome ≡ Done → r.err ≡ 0
    → Put out 0 (help_text c) out_after r.out → Ends (Help c) line before key random out err r before out_after err
helped line before key random {err = err} r c e z p = record { performed = (e, refl); output = p; errors = sized z (nothing err) }

module _ (line before key random : List ℕ) {out err out_after err_after : List ℕ} (r : Ran) where
  pub complained : (c : Command) → r.outcome ≡ BadWords → Put out 0 (answer_line BadWords) out_after r.out
      → Put err 0 (ascii "expected: " ++ usage_line c) err_after r.err → Ends (Misused c) line before key random out err r before out_after err_after
  complained c e x y = ended (Misused c) line before key random before BadWords r e (refl, refl) x y

  pub no_number : (i : ℕ) (word : List ℕ) → word ≡ word_at i line → r.outcome ≡ BadWords → Put out 0 (answer_line BadWords) out_after r.out
      → Put err 0 (bad_word (ascii "not a number below 1000000000: ") word) err_after r.err → Ends (NotNumber i) line before key random out err r before out_after err_after
  no_number i word w e x y =
      ended (NotNumber i) line before key random before BadWords r e (refl, refl) x
      (subst (λ (z : List ℕ). Put err 0 (bad_word (ascii "not a number below 1000000000: ") z) err_after r.err) w y)

  pub no_id : (i : ℕ) (word : List ℕ) → word ≡ word_at i line → r.outcome ≡ BadWords → Put out 0 (answer_line BadWords) out_after r.out
      → Put err 0 (bad_word (ascii "not an id, which is 32 hex digits: ") word) err_after r.err → Ends (NotId i) line before key random out err r before out_after err_after
  no_id i word w e x y =
      ended (NotId i) line before key random before BadWords r e (refl, refl) x
      (subst (λ (z : List ℕ). Put err 0 (bad_word (ascii "not an id, which is 32 hex digits: ") z) err_after r.err) w y)

pub lent_length : length lent ≡ 65536
unfolding lent
lent_length = of 65536
  where
    of : (n : ℕ) → length {A = ℕ} (replicate n 0) ≡ n
    of n = length-replicate n 0

-- every outcome of a find but a number is told by its line
pub unnumbered : (o : Outcome) (ids : List ℕ) → ((n : ℕ) → o ≡ Number n → ⊥) → answer_line o ≡ found_text o ids
unnumbered (Number n) ids h = absurd (h n refl)
unnumbered (Counted n rows) ids h = refl
unnumbered (Inspected f) ids h = refl
unnumbered (Compacted t) ids h = refl
unnumbered (Damaged t) ids h = refl
unnumbered (WrongKey t) ids h = refl
unnumbered (Refused r room) ids h = refl
unnumbered Done ids h = refl
unnumbered BadWords ids h = refl

-- every outcome of a count but one with rows is told by its line, whatever is asked for
pub unrowed : (rows : Bool) (o : Outcome) → ((n looked : ℕ) → o ≡ Counted n looked → ⊥) → answer_line o ≡ count_text rows o
unrowed false o h = refl
unrowed true (Number n) h = refl
unrowed true (Counted n rows) h = absurd (h n rows refl)
unrowed true (Inspected f) h = refl
unrowed true (Compacted t) h = refl
unrowed true (Damaged t) h = refl
unrowed true (WrongKey t) h = refl
unrowed true (Refused r room) h = refl
unrowed true Done h = refl
unrowed true BadWords h = refl

-- every outcome of a check but its numbers is told by its line
pub uncounted : (o : Outcome) → ((f : Faults) → o ≡ Inspected f → ⊥) → answer_line o ≡ check_text o
uncounted (Number n) h = refl
uncounted (Counted n rows) h = refl
uncounted (Inspected f) h = absurd (h f refl)
uncounted (Compacted t) h = refl
uncounted (Damaged t) h = refl
uncounted (WrongKey t) h = refl
uncounted (Refused r room) h = refl
uncounted Done h = refl
uncounted BadWords h = refl
