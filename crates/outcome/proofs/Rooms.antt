-- The room that an outcome tells is the store's.
use mathlib.Core.Path.{◌≡◌, refl, ap, ◌∙◌}
use mathlib.Core.Bool.{Bool, true, false}
use mathlib.Core.List.{List, [], ◌∷◌}
use Prim.Native.Nat.{ℕ}
use Rattle.answer.specs.Answer.{done}
use Rattle.advice.specs.Advise.{room_of}
use Rattle.advice.specs.declared.Room.{Room}
use Rattle.answer.specs.declared.Tally.{Tally}
use Rattle.outcome.specs.declared.Outcome.{Outcome}
use Rattle.outcome.specs.declared.Outcome.TheVariants.{Compacted, WrongKey}
use Rattle.outcome.specs.Told.{told, pick_outcome, is_wrong_key, compacted, with_room, Roomed}

pub roomed : (before : List ℕ) (o : Outcome) (x : Room) → o ≡ with_room x o → x ≡ room_of before → Roomed before o
roomed before o x e h = e ∙ ap (λ y. with_room y o) h

-- a compaction with another key is told by its own answer
pub told-compacted : (logged : ℕ) (t : Tally) → told (compacted logged t) ≡ done (t.anchors ∷ t.counters ∷ [])
told-compacted logged t = go (is_wrong_key logged t.anchors)
  where
    go : (b : Bool) → told (pick_outcome b (WrongKey t) (Compacted t)) ≡ done (t.anchors ∷ t.counters ∷ [])
    go true = refl
    go false = refl

pub room_compacted : (x : Room) (t : Tally) → compacted x.logged t ≡ with_room x (compacted x.logged t)
room_compacted x t = go (is_wrong_key x.logged t.anchors)
  where
    go : (b : Bool) → compacted x.logged t ≡ with_room x (pick_outcome b (WrongKey t) (Compacted t))
    go true = refl
    go false = refl
