-- Every refusal but 18 carries nothing.
use mathlib.Core.Path.{◌≡◌, refl}
use mathlib.Core.List.{List, [], ◌∷◌}
use Prim.Native.Nat.{ℕ}
use denote.Enum.Declared.{tag_of}
use types.Run.{OneOf, miss}
use Rattle.answer.specs.contracts.Refusal.{the_type}
use Rattle.answer.specs.declared.Refusal.{Refusal}
use Rattle.answer.specs.declared.Refusal.TheVariants.{KeyLength, FieldLength, ShareRange, NonceLength, IdLength, TokenLength, SizeRange, SliceLength, TextLength, Header, Mark, TokenShares, Damage, CountRange, EntryRows, CounterRows, LogRows, OutputLength, NonceCount, Form, LabelRows}
use Rattle.answer.specs.Answer.{carried_by}
use Rattle.encoding.specs.Encoding.{packed}

abbrev others : List ℕ
others = 0 ∷ 1 ∷ 2 ∷ 3 ∷ 4 ∷ 5 ∷ 6 ∷ 7 ∷ 8 ∷ 9 ∷ 10 ∷ 11 ∷ 12 ∷ 13 ∷ 14 ∷ 15 ∷ 16 ∷ 18 ∷ 19 ∷ 20 ∷ []

pub none_carried : (r : Refusal) → OneOf others (tag_of the_type r) → 0 ≡ packed (carried_by r)
none_carried KeyLength h = refl
none_carried FieldLength h = refl
none_carried ShareRange h = refl
none_carried NonceLength h = refl
none_carried IdLength h = refl
none_carried TokenLength h = refl
none_carried SizeRange h = refl
none_carried SliceLength h = refl
none_carried TextLength h = refl
none_carried Header h = refl
none_carried Mark h = refl
none_carried TokenShares h = refl
none_carried Damage h = refl
none_carried CountRange h = refl
none_carried EntryRows h = refl
none_carried CounterRows h = refl
none_carried LogRows h = refl
none_carried (OutputLength n) h = absurd (miss others 17 tt h)
none_carried NonceCount h = refl
none_carried Form h = refl
none_carried LabelRows h = refl
