-- A path read for its folder.
use Prim.Native.Nat.{ℕ, suc, ◌+◌, ◌≤◌, ◌<◌}
use mathlib.Core.Path.{◌≡◌, sym, ap, ◌∙◌}
use mathlib.Core.Bool.{Bool, true, false, cond}
use mathlib.Core.List.{List}
use native.Mathlib.Numerals.{add-one}
use borrow.Author.Tests.{eq-eqb, ne_eqb}
use lib.Dec.{eqb}
use lib.ListN.{length, get_or, drop, drop_of_length-le}
use lib.Seq.{drop-cons}
use Rattle.paths.specs.Folder.{folder_from}

-- a slash, another byte, and the end
module _ (w : List ℕ) (n i : ℕ) where
  turn : (b : Bool) → i < length w → eqb (get_or w i 0) 47 ≡ b → folder_from (cond b (i + 1) n) (i + 1) (drop (i + 1) w) ≡ folder_from n i (drop i w)
  unfolding folder_from
  turn b h e =
      ap (λ (k : ℕ). folder_from (cond b (i + 1) n) (i + 1) (drop k w)) (add-one i)
      ∙ sym (ap (folder_from n i) (drop-cons w i 0 h) ∙ ap (λ (t : Bool). folder_from (cond t (i + 1) n) (i + 1) (drop (suc i) w)) e)

  pub folder_slash : i < length w → get_or w i 0 ≡ 47 → folder_from (i + 1) (i + 1) (drop (i + 1) w) ≡ folder_from n i (drop i w)
  folder_slash h e = turn true h (eq-eqb (get_or w i 0) 47 e)

  pub folder_other : i < length w → (get_or w i 0 ≡ 47 → ⊥) → folder_from n (i + 1) (drop (i + 1) w) ≡ folder_from n i (drop i w)
  folder_other h e = turn false h (ne_eqb (get_or w i 0) 47 e)

  pub folder_end : length w ≤ i → folder_from n i (drop i w) ≡ n
  unfolding folder_from
  folder_end h = ap (folder_from n i) (drop_of_length-le w h)
