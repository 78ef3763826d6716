-- What `check` prints of a store. [check:12]
use Rattle.std.specs.Prelude.{ℕ, cond, List, [], ◌++◌, eqb}
use Rattle.table.specs.Lists.{sum}
use Rattle.answer.specs.Answer.{faults_of}
use Rattle.answer.specs.declared.Faults.{Faults}
use Rattle.text.specs.Ascii.{ascii}
use Rattle.buffer.specs.Decimal.{counted}

-- a kind of fault with its number; where that is not 0, what it means and what to do, on a line of its own
unfoldable pub fault_line : List ℕ → ℕ → List ℕ → List ℕ
fault_line what n means =
    what
    ++ (counted n (ascii "\n")
    ++ cond (eqb n 0) [] (means ++ ascii ": restore a copy in which check counts none, then make the later inserts and erases again\n"))

-- rows of M and of C that have the tag of another [check:2 check:3]
unfoldable pub tag_lines : Faults → List ℕ
tag_lines f =
    fault_line (ascii "entries (M) whose tag an earlier entry has: ") f.mm
    (ascii "  a find gives only the first entry of a tag, so a document may be missing from it, and an erase of one takes the others too")
    ++ fault_line (ascii "counters (C) whose tag an earlier counter has: ") f.cc
    (ascii "  make no insert: only the first counter of a tag is read, so a count may be wrong, and an insert may take an address in use and hide a document from finds")

-- rows of V without one of M, and of M without one of V [check:4 check:5]
unfoldable pub entry_lines : Faults → List ℕ
entry_lines f =
    fault_line (ascii "reverse rows (V) whose tag no entry has: ") f.vm
    (ascii "  a find does not give these entries, though an erase of their ids still counts them")
    ++ fault_line (ascii "entries (M) whose tag no reverse row has: ") f.mv
    (ascii "  no erase takes these entries, so a find may give a document that was erased")

-- rows of V without one of R, of R without one of V, and more of R than of V [check:6 check:7 check:8]
unfoldable pub label_lines : Faults → List ℕ
label_lines f =
    fault_line (ascii "reverse rows (V) whose id no label has: ") f.vr
    (ascii "  a find by several fields leaves these documents out, and a test of them says no")
    ++ (fault_line (ascii "labels (R) whose id no reverse row has: ") f.rv
    (ascii "  a test may say yes of a document that has no entry, and an erase of its id frees these labels and answers 0")
    ++ fault_line (ascii "labels (R) more than reverse rows (V): ") f.excess
    (ascii "  an id has more labels than reverse rows: a find by several fields may give it under a field that it is not under, and 21 may refuse inserts early"))

-- how many there are, of all kinds
abbrev pub total_of : Faults → ℕ
total_of f = sum (faults_of f)

-- on the last line, by which the exit status goes [check:13]
unfoldable pub total_line : ℕ → List ℕ
total_line n = ascii "faults: " ++ counted n (ascii "\n")

unfoldable pub fault_lines : Faults → List ℕ
fault_lines f = tag_lines f ++ (entry_lines f ++ (label_lines f ++ total_line (total_of f)))
