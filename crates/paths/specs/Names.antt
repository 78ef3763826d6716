-- The names of the files beside a store or a key.
use Rattle.std.specs.Prelude.{ℕ, List, ◌++◌, take}
use Rattle.text.specs.Ascii.{ascii}
use Rattle.paths.specs.Folder.{folder_of}

-- whoever changes the store makes this file first
abbrev pub lock_of : List ℕ → List ℕ
lock_of path = path ++ ascii ".lock"

-- the store's new bytes stand here until they are whole
abbrev pub new_of : List ℕ → List ℕ
new_of path = path ++ ascii ".new"

-- a file of that name is made under this one, whose last six bytes the system chooses
abbrev pub temporary_of : List ℕ → List ℕ
temporary_of name = take (folder_of name) name ++ ascii "mazhkuri.XXXXXX"
