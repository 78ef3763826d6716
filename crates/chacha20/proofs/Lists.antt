-- Laws over plain lists that the loops ask for: a text XORed part by part.
use Prim.Native.Nat.{ℕ, suc, ◌+◌, ◌-◌, ◌≤◌, ◌<◌}
use mathlib.Core.Path.{◌≡◌, refl, ap, ◌∙◌}
use mathlib.Core.List.{List, [], ◌∷◌, ◌++◌, append_assoc, append-nil}
use native.Mathlib.Numerals.{add-one}
use native.Mathlib.Omega.{arith}
use lib.ListN.{length, get_or, take, drop, set, length-append, length-take, length-drop, drop_of_length-le}
use lib.Seq.{take_all, take_at, drop_at, drop-cons, take-suc-set, drop-set-lt, length-take-le}
use Rattle.chacha20_block.specs.Words.{◌⊕◌}
use Rattle.chacha20.specs.Cipher.{xored}

-- ---- a text, XORed byte by byte

-- a turn: the first i bytes are done
pub xored_more : (t ks : List ℕ) (i : ℕ) → i < length t → i < length ks
    → (let u = set t i (get_or t i 0 ⊕ get_or ks i 0) in take (i + 1) u ++ xored (drop (i + 1) u) (drop (i + 1) ks))
    ≡ take i t ++ xored (drop i t) (drop i ks)
unfolding xored
xored_more t ks i h k =
    let v : ℕ = get_or t i 0 ⊕ get_or ks i 0 in
    rw (add-one, take-suc-set t i v h, drop-set-lt (suc i) t i v (omega arith), drop-cons t i 0 h, drop-cons ks i 0 k)
    (append_assoc (take i t) (v ∷ []) (xored (drop (suc i) t) (drop (suc i) ks)))

-- the stream's first part ends where a list ends
pub xored-append : (t a b : List ℕ) → xored t (a ++ b) ≡ xored (take (length a) t) a ++ xored (drop (length a) t) b
unfolding xored
xored-append t [] b = refl
xored-append [] (x ∷ xs) b = refl
xored-append (t ∷ ts) (x ∷ xs) b = ap (λ (r : List ℕ). (t ⊕ x) ∷ r) (xored-append ts xs b)

-- a part of a text that came back, before what is left of it
pub part_done : (text ys ks : List ℕ) (at e : ℕ) → at ≤ e → e ≤ length text → length ys ≡ e - at
    → (let t = take at text ++ (ys ++ drop (e - at) (drop at text)) in take e t ++ xored (drop e t) ks)
    ≡ take at text ++ (ys ++ xored (drop (e - at) (drop at text)) ks)
part_done text ys ks at e h k l =
    let rest : List ℕ = drop (e - at) (drop at text) in
    let n : length (take at text ++ ys) ≡ e =
    length-append (take at text) ys ∙ rw (length-take-le at text (omega arith)) (omega arith) in
    rw (← append_assoc (take at text) ys rest, take_at (take at text ++ ys) rest e n, drop_at (take at text ++ ys) rest e n)
    (append_assoc (take at text) ys (xored rest ks))

pub part_length : (text ys : List ℕ) (at n : ℕ) → at + n ≤ length text → length ys ≡ length (take n (drop at text))
    → length (take at text ++ (ys ++ drop n (drop at text))) ≡ length text
part_length text ys at n h e =
    simp (length-append, length-take, length-drop) (let l = simp (length-take, length-drop) at e in omega arith)

-- nothing is left
pub all_done : (text ks : List ℕ) (i : ℕ) → length text ≤ i → take i text ++ xored (drop i text) ks ≡ text
unfolding xored
all_done text ks i h = rw (take_all i text h, drop_of_length-le text {i = i} h) (append-nil text)
