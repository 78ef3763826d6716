-- Answers that the system gives. What a call of the system does, no contract can say.
use Rattle.std.specs.Prelude.{ℕ, ◌<◌, ◌≡◌, Bool, true, false, List, length}

-- an answer that the system gives: nothing is promised of it
abbrev pub OfSystem : {A : Type 0} → A → Type 0
OfSystem answer = Unit {0}

-- such an answer about a path, of which 4,096 bytes at most are taken: a longer one is answered false, and the system is not asked
abbrev pub OfSystemAt : List ℕ → Bool → Type 0
OfSystemAt path answer = 4096 < length path → answer ≡ false

-- such an answer about a process, of which numbers to 2,147,483,647 are taken: a larger one is answered false, and the system is not asked
abbrev pub OfSystemFor : ℕ → Bool → Type 0
OfSystemFor process answer = 2147483647 < process → answer ≡ false

-- n bytes of a file were read into so much room: whether that is all of it the system answers, but where the room is filled, no more is
-- asked for
abbrev pub Filled : ℕ → ℕ → Bool → Type 0
Filled room n whole = 0 < n → n ≡ room → whole ≡ true
