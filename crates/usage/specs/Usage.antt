-- What each command takes.
use Rattle.std.specs.Prelude.{ℕ, List, ◌++◌}
use Rattle.text.specs.Ascii.{ascii}
use Rattle.words.specs.declared.Command.{Command}
use Rattle.words.specs.declared.Command.TheVariants.{New, Key, Insert, Find, Count, Erase, Compact, Order, Token, Show, Check, Help, Unknown}

unfoldable pub usage_line : Command → List ℕ
usage_line New = ascii "mazhkuri new STORE P M C S R: makes a store for shares 0 to P (at most 15) with M entries, C counters, S log rows and R labels (1 to 4096 each)\n"
usage_line Key = ascii "mazhkuri key KEYFILE: makes a key file of 32 random bytes, for its owner alone\n"
usage_line Insert = ascii "mazhkuri insert STORE KEYFILE FIELD VALUE SHARE ID..., or insert STORE --token TOKEN ID...: inserts 1 to 64 ids of 32 hex digits each; prints the new count of this share\n"
usage_line Find = ascii "mazhkuri find STORE KEYFILE FIELD VALUE [FIELD VALUE]..., or find STORE --token TOKEN: prints each id on a line; by 2 to 8 fields, the ids that are under each of them\n"
usage_line Count = ascii "mazhkuri count STORE KEYFILE FIELD VALUE [--rows], or count STORE --token TOKEN [--rows]: prints how many ids were ever inserted, erased ones among them; with --rows, the rows looked at too\n"
usage_line Erase = ascii "mazhkuri erase STORE ID: erases an id from every field; prints how many entries it had\n"
usage_line Compact = ascii "mazhkuri compact STORE KEYFILE, or compact STORE --token TOKEN: frees counter and log rows; prints the anchors written and the counters freed\n"
usage_line Order = ascii "mazhkuri order STORE: puts the rows of a store in byte order, as 20 asks for; prints how many rows are used; takes no key\n"
usage_line Token = ascii "mazhkuri token insert KEYFILE FIELD VALUE P SHARE, token find KEYFILE FIELD VALUE, token count KEYFILE FIELD VALUE, token compact KEYFILE: prints a TOKEN; @FILE stands for what a file holds\n"
usage_line Show = ascii "mazhkuri show STORE: prints the sizes of a store and how full it is; takes no key\n"
usage_line Check = ascii "mazhkuri check STORE: counts the rows of a store that do not go together, in seven lines, and says what to do where there are any; takes no key\n"
usage_line Help = ascii "mazhkuri help [COMMAND]: prints what a command takes\n"
usage_line Unknown = ascii "a command of: new key insert find count erase compact order token show check help\n"

-- the commands that make files, those that take a field, and erase
unfoldable pub first_lines : List ℕ
first_lines = usage_line New ++ (usage_line Key ++ (usage_line Insert ++ (usage_line Find ++ (usage_line Count ++ usage_line Erase))))

-- compact, order, token, show and check
unfoldable pub later_lines : List ℕ
later_lines = usage_line Compact ++ (usage_line Order ++ (usage_line Token ++ (usage_line Show ++ usage_line Check)))

-- a command's line; every command's where none is named
unfoldable pub help_text : Command → List ℕ
help_text New = usage_line New
help_text Key = usage_line Key
help_text Insert = usage_line Insert
help_text Find = usage_line Find
help_text Count = usage_line Count
help_text Erase = usage_line Erase
help_text Compact = usage_line Compact
help_text Order = usage_line Order
help_text Token = usage_line Token
help_text Show = usage_line Show
help_text Check = usage_line Check
help_text Help = usage_line Help
help_text Unknown =
    first_lines ++ (later_lines ++ (usage_line Help ++ ascii "a command that is not done prints `refused` and a rule's number, `misused` or `failed` to standard output, and what to do to standard error\n"))
