-- The commands by their names, and how many words each takes, its name among them.
use Rattle.std.specs.Prelude.{ℕ, Bool, true, false, cond, List, eqb, leb}
use Rattle.octets.specs.Compare.{same}
use Rattle.text.specs.Ascii.{ascii}
use Rattle.words.specs.declared.Command.{Command}
use Rattle.words.specs.declared.Command.TheVariants.{New, Key, Insert, Find, Count, Erase, Compact, Order, Token, Show, Check, Help, Unknown}

-- by the name, of those that change nothing
abbrev pub reader_of : List ℕ → Command
reader_of w =
    cond (same w (ascii "find")) Find
    (cond (same w (ascii "count")) Count
    (cond (same w (ascii "token")) Token
    (cond (same w (ascii "show")) Show
    (cond (same w (ascii "check")) Check (cond (same w (ascii "help")) Help Unknown)))))

-- by the name
abbrev pub command_of : List ℕ → Command
command_of w =
    cond (same w (ascii "new")) New
    (cond (same w (ascii "key")) Key
    (cond (same w (ascii "insert")) Insert
    (cond (same w (ascii "erase")) Erase
    (cond (same w (ascii "compact")) Compact (cond (same w (ascii "order")) Order (reader_of w))))))

-- new takes STORE P M C S R, key KEYFILE, insert STORE KEYFILE FIELD VALUE SHARE and the ids, find and count STORE KEYFILE FIELD
-- VALUE, erase STORE ID, compact STORE KEYFILE, order, show and check STORE; insert, find, count and compact with a token take STORE --token TOKEN
-- in place of what comes before the ids; token takes a command and KEYFILE at least; what may follow a find's or a count's words is said by its request
abbrev pub words_fit : Command → Bool → ℕ → Bool
words_fit New b n = eqb n 7
words_fit Key b n = eqb n 2
words_fit Insert b n = cond b (leb 4 n) (leb 6 n)
words_fit Find b n = cond b (eqb n 4) (leb 5 n)
words_fit Count b n = cond b (leb 4 n) (leb 5 n)
words_fit Erase b n = eqb n 3
words_fit Compact b n = cond b (eqb n 4) (eqb n 3)
words_fit Order b n = eqb n 2
words_fit Token b n = leb 3 n
words_fit Show b n = eqb n 2
words_fit Check b n = eqb n 2
words_fit Help b n = true
words_fit Unknown b n = false
