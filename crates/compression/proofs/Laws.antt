-- Laws of the definitions: sums and lists part by part, a block's words by quads, and the turns in groups of sixteen are the standard's.
use Rattle.std.proofs.Common.{◌≡◌, ℕ, zero, suc, ◌+◌, ◌-◌, ◌*◌, ◌<◌, ◌≤◌, List, [], ◌∷◌, ◌++◌, length, get_or, take, drop, sym, refl, ap, ◌∙◌, ap₂, append_assoc, append-nil, add-zero, add-suc, suc-add, zero-add, add-one, add_assoc, arith, length-append, length-drop, take-append-drop, get_or-drop, take_all, get_or-take, drop-drop, le-leb}
use borrow.Author.Tests.{lt-leb}
use lib.Seq.{take-append-le, drop-append-le}
use Rattle.compression.specs.Words.{◌⊞◌, σ0, σ1}
use Rattle.compression.specs.Schedule.{word, first_words, next, schedule}
use Rattle.compression.specs.Compression.{step, steps, added, compress, compress_at}
use Rattle.compression.specs.Groups.{slide, slides, due, turns, groups}
use Rattle.compression.specs.Constants.{K}

-- ---- sums and words, part by part

pub sum : {r x y a b : ℕ} → r ≡ x ⊞ y → x ≡ a → y ≡ b → r ≡ a ⊞ b
sum e f g = e ∙ ap₂ (λ (m n : ℕ). m ⊞ n) f g

-- ---- a block's words

word-drop : (n t : ℕ) (b : List ℕ) → word (drop (4 * n) b) t ≡ word b (n + t)
unfolding word
word-drop n t b =
    rw (
      get_or-drop (4 * n) b (4 * t) 0,
      get_or-drop (4 * n) b (4 * t + 1) 0,
      get_or-drop (4 * n) b (4 * t + 2) 0,
      get_or-drop (4 * n) b (4 * t + 3) 0,
    )
    (ap₂ (λ (x y : ℕ). x * 256 + y)
    (ap₂ (λ (x y : ℕ). x * 256 + y)
    (ap₂ (λ (x y : ℕ). x * 256 + y) (at (omega arith)) (at (omega arith))) (at (omega arith))) (at (omega arith)))
  where
    at : {i j : ℕ} → i ≡ j → get_or b i 0 ≡ get_or b j 0
    at e = ap (λ (i : ℕ). get_or b i 0) e

words_add : (a n : ℕ) (b : List ℕ) → first_words (a + n) b ≡ first_words a b ++ first_words n (drop (4 * a) b)
unfolding first_words
words_add a zero b = ap (λ (k : ℕ). first_words k b) (add-zero a) ∙ sym (append-nil (first_words a b))
words_add a (suc n) b =
    ap (λ (k : ℕ). first_words k b) (add-suc a n)
    ∙ ap₂ (λ (l : List ℕ) (x : ℕ). l ++ (x ∷ [])) (words_add a n b) (sym (word-drop a n b))
    ∙ append_assoc (first_words a b) (first_words n (drop (4 * a) b)) (word (drop (4 * a) b) n ∷ [])

-- words that a list holds do not depend on what follows it
words_front : (n l : ℕ) (b : List ℕ) → 4 * n ≤ l → first_words n (take l b) ≡ first_words n b
unfolding first_words word
words_front zero l b h = refl
words_front (suc n) l b h =
    ap₂ (λ (ws : List ℕ) (x : ℕ). ws ++ (x ∷ [])) (words_front n l b (omega arith))
    (rw (
      get_or-take l b (4 * n) 0 (omega arith),
      get_or-take l b (4 * n + 1) 0 (omega arith),
      get_or-take l b (4 * n + 2) 0 (omega arith),
      get_or-take l b (4 * n + 3) 0 (omega arith),
    ))

-- the word at a place, byte by byte
pub word_here : (at : ℕ) (m : List ℕ) →
    word (drop at m) 0 ≡ ((get_or m at 0 * 256 + get_or m (at + 1) 0) * 256 + get_or m (at + 2) 0) * 256 + get_or m (at + 3) 0
unfolding word
word_here at m = rw (get_or-drop at m 0 0, get_or-drop at m 1 0, get_or-drop at m 2 0, get_or-drop at m 3 0, add-zero at)

-- the word at a place is a word of the bytes from an earlier place on
word_at : (at t : ℕ) (m : List ℕ) → word (drop (at + 4 * t) m) 0 ≡ word (drop at m) t
word_at at t m =
    ap (λ (l : List ℕ). word l 0) (sym (drop-drop (4 * t) at m)) ∙ word-drop t 0 (drop at m) ∙ ap (word (drop at m)) (add-zero t)

-- sixteen words by fours
pub block_words : (at : ℕ) (m : List ℕ) →
    first_words 4 (drop at m) ++ (first_words 4 (drop (at + 16) m) ++ (first_words 4 (drop (at + 32) m) ++ first_words 4 (drop (at + 48) m))) ≡ first_words 16 (take 64 (drop at m))
block_words at m = sym (words_front 16 64 (drop at m) (omega arith) ∙ words_add 4 12 (drop at m) ∙ ap (λ (l : List ℕ). first_words 4 (drop at m) ++ l)
    (ap (first_words 12) (drop-drop 16 at m) ∙ words_add 4 8 (drop (at + 16) m) ∙ ap (λ (l : List ℕ). first_words 4 (drop (at + 16) m) ++ l)
    (ap (first_words 8) (place (at + 16) (at + 32) (omega arith)) ∙ words_add 4 4 (drop (at + 32) m)
    ∙ ap (λ (l : List ℕ). first_words 4 (drop (at + 32) m) ++ l) (ap (first_words 4) (place (at + 32) (at + 48) (omega arith))))))
  where
    place : (a e : ℕ) → a + 16 ≡ e → drop 16 (drop a m) ≡ drop e m
    place a e h = drop-drop 16 a m ∙ ap (λ (k : ℕ). drop k m) h

-- ---- the schedule, sixteen words of it at a time

length_words : (n : ℕ) (b : List ℕ) → length (first_words n b) ≡ n
unfolding first_words
length_words zero b = refl
length_words (suc n) b = length-append (first_words n b) (word b n ∷ []) ∙ omega (arith, length_words n b)

length-schedule : (n : ℕ) (b : List ℕ) → length (schedule n b) ≡ n + 16
unfolding schedule
length-schedule zero b = length_words 16 b
length-schedule (suc n) b = length-append (schedule n b) (next n (schedule n b) ∷ []) ∙ omega (arith, length-schedule n b)

next_last : (n : ℕ) (w : List ℕ) → next 0 (drop n w) ≡ next n w
unfolding next
next_last n w = rw (get_or-drop n w 14 0, get_or-drop n w 9 0, get_or-drop n w 1 0, get_or-drop n w 0 0, add-zero n)

-- the last sixteen words of one word more
slide_is : (n : ℕ) (b : List ℕ) → slide (drop n (schedule n b)) ≡ drop (suc n) (schedule (suc n) b)
unfolding slide schedule
slide_is n b =
    ap₂ (λ (l : List ℕ) (x : ℕ). l ++ (x ∷ [])) (drop-drop 1 n (schedule n b) ∙ ap (λ (k : ℕ). drop k (schedule n b)) (add-one n)) (next_last n (schedule n b))
    ∙ sym (drop-append-le (suc n) (schedule n b) (next n (schedule n b) ∷ []) (omega (arith, length-schedule n b)))

slides_are : (j n : ℕ) (b : List ℕ) → slides j (drop n (schedule n b)) ≡ drop (n + j) (schedule (n + j) b)
unfolding slides
slides_are zero n b = ap (λ (k : ℕ). drop k (schedule k b)) (sym (add-zero n))
slides_are (suc j) n b = ap (slides j) (slide_is n b) ∙ slides_are j (suc n) b ∙ ap (λ (k : ℕ). drop k (schedule k b)) (moved n j)
  where
    moved : (n j : ℕ) → suc n + j ≡ n + suc j
    moved n j = omega arith

-- more words leave the first as they are
schedule_front : (j n : ℕ) (b : List ℕ) → take (n + 16) (schedule (n + j) b) ≡ schedule n b
unfolding schedule
schedule_front zero n b = ap (λ (k : ℕ). take (n + 16) (schedule k b)) (add-zero n) ∙ take_all (n + 16) (schedule n b) (omega (arith, length-schedule n b))
schedule_front (suc j) n b =
    ap (λ (k : ℕ). take (n + 16) (schedule k b)) (add-suc n j)
    ∙ take-append-le (n + 16) (schedule (n + j) b) (next (n + j) (schedule (n + j) b) ∷ []) (omega (arith, length-schedule (n + j) b))
    ∙ schedule_front j n b

-- the words from turn t on begin with the last sixteen of the first t + 16
words_from : (t j : ℕ) (b : List ℕ) → drop t (schedule (t + j) b) ≡ drop t (schedule t b) ++ drop (t + 16) (schedule (t + j) b)
words_from t j b =
    ap (drop t) (sym (take-append-drop (t + 16) (schedule (t + j) b)) ∙ ap (λ (l : List ℕ). l ++ drop (t + 16) (schedule (t + j) b)) (schedule_front j t b))
    ∙ drop-append-le t (schedule t b) (drop (t + 16) (schedule (t + j) b)) (omega (arith, length-schedule t b))

-- ---- sixteen words, one by one

listed : ℕ → (ℕ → ℕ) → List ℕ
listed zero f = []
listed (suc n) f = f 0 ∷ listed n (λ i. f (suc i))

listed_is : (w : List ℕ) → w ≡ listed (length w) (λ i. get_or w i 0)
unfolding listed
listed_is [] = refl
listed_is (x ∷ xs) = ap (λ (l : List ℕ). x ∷ l) (listed_is xs)

sixteen : (w : List ℕ) → length w ≡ 16 → w ≡ listed 16 (λ i. get_or w i 0)
sixteen w e = listed_is w ∙ ap (λ (n : ℕ). listed n (λ i. get_or w i 0)) e

-- the words of a block, one by one
pub words_read : (at : ℕ) (m ws : List ℕ) → length ws ≡ 16
    → get_or ws 0 0 ≡ word (drop at m) 0
    → get_or ws 1 0 ≡ word (drop (at + 4) m) 0
    → get_or ws 2 0 ≡ word (drop (at + 8) m) 0
    → get_or ws 3 0 ≡ word (drop (at + 12) m) 0
    → get_or ws 4 0 ≡ word (drop (at + 16) m) 0
    → get_or ws 5 0 ≡ word (drop (at + 20) m) 0
    → get_or ws 6 0 ≡ word (drop (at + 24) m) 0
    → get_or ws 7 0 ≡ word (drop (at + 28) m) 0
    → get_or ws 8 0 ≡ word (drop (at + 32) m) 0
    → get_or ws 9 0 ≡ word (drop (at + 36) m) 0
    → get_or ws 10 0 ≡ word (drop (at + 40) m) 0
    → get_or ws 11 0 ≡ word (drop (at + 44) m) 0
    → get_or ws 12 0 ≡ word (drop (at + 48) m) 0
    → get_or ws 13 0 ≡ word (drop (at + 52) m) 0
    → get_or ws 14 0 ≡ word (drop (at + 56) m) 0
    → get_or ws 15 0 ≡ word (drop (at + 60) m) 0
    → ws ≡ first_words 16 (take 64 (drop at m))
unfolding listed first_words
words_read at m ws e h0 h1 h2 h3 h4 h5 h6 h7 h8 h9 h10 h11 h12 h13 h14 h15 =
    sixteen ws e ∙ rw (h0, h1, h2, h3, h4, h5, h6, h7, h8, h9, h10, h11, h12, h13, h14, h15)
    (rw (
      word_at at 1 m,
      word_at at 2 m,
      word_at at 3 m,
      word_at at 4 m,
      word_at at 5 m,
      word_at at 6 m,
      word_at at 7 m,
      word_at at 8 m,
      word_at at 9 m,
      word_at at 10 m,
      word_at at 11 m,
      word_at at 12 m,
      word_at at 13 m,
      word_at at 14 m,
      word_at at 15 m,
    ) (sym (words_front 16 64 (drop at m) (omega arith))))

-- the four words that follow
pub four_more : (w : List ℕ) (a b c d : ℕ) → length w ≡ 16
    → a ≡ σ1 (get_or w 14 0) ⊞ get_or w 9 0 ⊞ σ0 (get_or w 1 0) ⊞ get_or w 0 0
    → b ≡ σ1 (get_or w 15 0) ⊞ get_or w 10 0 ⊞ σ0 (get_or w 2 0) ⊞ get_or w 1 0
    → c ≡ σ1 a ⊞ get_or w 11 0 ⊞ σ0 (get_or w 3 0) ⊞ get_or w 2 0
    → d ≡ σ1 b ⊞ get_or w 12 0 ⊞ σ0 (get_or w 4 0) ⊞ get_or w 3 0
    → get_or w 4 0 ∷ get_or w 5 0 ∷ get_or w 6 0 ∷ get_or w 7 0 ∷ get_or w 8 0 ∷ get_or w 9 0 ∷ get_or w 10 0 ∷ get_or w 11 0 ∷
    get_or w 12 0 ∷ get_or w 13 0 ∷ get_or w 14 0 ∷ get_or w 15 0 ∷ a ∷ b ∷ c ∷ d ∷ [] ≡ slides 4 w
unfolding listed slides slide next
four_more w a b c d e ha hb hc hd = rw (hd, hc, hb, ha) (sym (ap (slides 4) (sixteen w e)))

-- sixteen turns, one by one
pub turns_written : (t : ℕ) (k w s : List ℕ) → length w ≡ 16
    → turns t k w s ≡ step (get_or k (t + 15) 0) (get_or w 15 0) (step (get_or k (t + 14) 0) (get_or w 14 0)
    (step (get_or k (t + 13) 0) (get_or w 13 0) (step (get_or k (t + 12) 0) (get_or w 12 0) (step (get_or k (t + 11) 0) (get_or w 11 0)
    (step (get_or k (t + 10) 0) (get_or w 10 0) (step (get_or k (t + 9) 0) (get_or w 9 0) (step (get_or k (t + 8) 0) (get_or w 8 0)
    (step (get_or k (t + 7) 0) (get_or w 7 0) (step (get_or k (t + 6) 0) (get_or w 6 0) (step (get_or k (t + 5) 0) (get_or w 5 0)
    (step (get_or k (t + 4) 0) (get_or w 4 0) (step (get_or k (t + 3) 0) (get_or w 3 0) (step (get_or k (t + 2) 0) (get_or w 2 0)
    (step (get_or k (t + 1) 0) (get_or w 1 0) (step (get_or k t 0) (get_or w 0 0) s)))))))))))))))
unfolding listed turns
turns_written t k w s e = ap (λ (l : List ℕ). turns t k l s) (sixteen w e) ∙ simp add_assoc

pub by_fours : (w : List ℕ) → slides 4 (slides 4 (slides 4 (slides 4 w))) ≡ slides 16 w
unfolding slides
by_fours w = refl

pub due_first : (t : ℕ) (w : List ℕ) → t ≡ 0 → w ≡ due t w
unfolding due
due_first t w e = sym (ap (λ (n : ℕ). due n w) e)

pub due_later : (t : ℕ) (w : List ℕ) → (t ≡ 0 → ⊥) → slides 16 w ≡ due t w
unfolding due
due_later zero w h = absurd (h refl)
due_later (suc t) w h = refl

-- ---- turns

steps-add : (a b t : ℕ) (k w s : List ℕ) → steps (a + b) t k w s ≡ steps b (t + a) k w (steps a t k w s)
unfolding steps
steps-add zero b t k w s = rw (zero-add b, add-zero t)
steps-add (suc a) b t k w s =
    rw (suc-add a b)
    (steps-add a b (t + 1) k w (step (get_or k t 0) (get_or w t 0) s)
    ∙ ap (λ (n : ℕ). steps b n k w (steps a (t + 1) k w (step (get_or k t 0) (get_or w t 0) s))) (moved t a))
  where
    moved : (t a : ℕ) → t + 1 + a ≡ t + suc a
    moved t a = omega arith

-- turns over the words that stand at t are the standard's
turns_are : (ws rest w k s : List ℕ) (t : ℕ) → drop t w ≡ ws ++ rest → turns t k ws s ≡ steps (length ws) t k w s
unfolding turns steps
turns_are [] rest w k s t e = refl
turns_are (x ∷ ws) rest w k s t e =
    turns_are ws rest w k (step (get_or k t 0) x s) (t + 1) (sym (drop-drop 1 t w) ∙ ap (drop 1) e)
    ∙ ap (λ (y : ℕ). steps (length ws) (t + 1) k w (step (get_or k t 0) y s)) (sym (ap (λ (i : ℕ). get_or w i 0) (sym (add-zero t)) ∙ sym (get_or-drop t w 0 0) ∙ ap (λ (l : List ℕ). get_or l 0 0) e))

groups_are : (n t : ℕ) (b k s : List ℕ) → t + 16 * n ≡ 64 → groups n t k (drop t (schedule t b)) s ≡ steps (16 * n) t k (schedule 48 b) s
unfolding groups steps
groups_are zero t b k s h = refl
groups_are (suc n) t b k s h =
    ap₂ (λ (w v : List ℕ). groups n (t + 16) k w v) (slides_are 16 t b) turned
    ∙ groups_are n (t + 16) b k (steps 16 t k (schedule 48 b) s) (omega arith)
    ∙ sym (ap (λ (j : ℕ). steps j t k (schedule 48 b) s) (split n) ∙ steps-add 16 (16 * n) t k (schedule 48 b) s)
  where
    split : (n : ℕ) → 16 * suc n ≡ 16 + 16 * n
    split n = omega arith

    all : t + (48 - t) ≡ 48
    all = omega arith

    from : drop t (schedule 48 b) ≡ drop t (schedule t b) ++ drop (t + 16) (schedule 48 b)
    from =
        sym (ap (λ (j : ℕ). drop t (schedule j b)) all) ∙ words_from t (48 - t) b
        ∙ ap (λ (j : ℕ). drop t (schedule t b) ++ drop (t + 16) (schedule j b)) all

    long : length (drop t (schedule t b)) ≡ 16
    long = length-drop t (schedule t b) ∙ omega (arith, length-schedule t b)

    turned : turns t k (drop t (schedule t b)) s ≡ steps 16 t k (schedule 48 b) s
    turned =
        turns_are (drop t (schedule t b)) (drop (t + 16) (schedule 48 b)) (schedule 48 b) k s t from
        ∙ ap (λ (j : ℕ). steps j t k (schedule 48 b) s) long

-- the four groups are the 64 turns
pub all_groups : (b k s : List ℕ) → groups 4 0 k (first_words 16 b) s ≡ steps 64 0 k (schedule 48 b) s
unfolding schedule
all_groups b k s = groups_are 4 0 b k s refl

-- one group more of those that are left
pub group_more : (i : ℕ) (k w s : List ℕ) → i < 4
    → groups (4 - i) (16 * i) k w s ≡ groups (4 - (i + 1)) (16 * (i + 1)) k (due (16 * (i + 1)) w) (turns (16 * i) k w s)
unfolding groups
group_more i k w s h =
    ap (λ (n : ℕ). groups n (16 * i) k w s) (split i h)
    ∙ ap₂ (λ (t : ℕ) (l : List ℕ). groups (4 - (i + 1)) t k l (turns (16 * i) k w s)) (later i) (due_later (16 * (i + 1)) w (λ z. omega arith))
  where
    split : (i : ℕ) → i < 4 → 4 - i ≡ suc (4 - (i + 1))
    split i h = omega arith

    later : (i : ℕ) → 16 * i + 16 ≡ 16 * (i + 1)
    later i = omega arith

pub group_none : (i t : ℕ) (k w s : List ℕ) → 4 ≤ i → groups (4 - i) t k w s ≡ s
unfolding groups
group_none i t k w s h = ap (λ (n : ℕ). groups n t k w s) (none i h)
  where
    none : (i : ℕ) → 4 ≤ i → 4 - i ≡ zero
    none i h = omega arith

-- ---- the block at a place

pub block_at : (s m : List ℕ) (at : ℕ) → at + 64 ≤ length m → compress_at s m at ≡ compress s (take 64 (drop at m))
unfolding compress_at
block_at s m at h = simp (le-leb (at + 64) (length m) h)

-- a slice that is one block
pub block_alone : (s b : List ℕ) → length b ≡ 64 → compress_at s b 0 ≡ compress s b
block_alone s b e = block_at s b 0 (omega arith) ∙ ap (compress s) (take_all 64 b (omega arith))

pub no_block : (s m : List ℕ) (at : ℕ) → length m < at + 64 → compress_at s m at ≡ s
unfolding compress_at
no_block s m at h = simp (lt-leb (at + 64) (length m) h)

-- the groups over the words of the block at a place
pub block_groups : (s m : List ℕ) (at : ℕ) → at + 64 ≤ length m
    → added s (groups 4 0 K (first_words 16 (take 64 (drop at m))) s) ≡ compress_at s m at
unfolding compress
block_groups s m at h = ap (added s) (all_groups (take 64 (drop at m)) K s) ∙ sym (block_at s m at h)
