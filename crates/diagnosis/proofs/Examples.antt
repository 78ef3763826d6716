-- What is printed, read off: of a sound store, and of one kind of fault. [check:12]
use mathlib.Core.Path.{◌≡◌, refl}
use Rattle.text.specs.Ascii.{ascii}
use Rattle.buffer.specs.Decimal.{spelled, decimal_text}
use Rattle.diagnosis.specs.Diagnosis.{fault_line, tag_lines, entry_lines, label_lines, total_line, fault_lines}

sound : fault_lines (record { mm = 0; cc = 0; vm = 0; mv = 0; vr = 0; rv = 0; excess = 0 }) ≡ ascii "entries (M) whose tag an earlier entry has: 0\ncounters (C) whose tag an earlier counter has: 0\nreverse rows (V) whose tag no entry has: 0\nentries (M) whose tag no reverse row has: 0\nreverse rows (V) whose id no label has: 0\nlabels (R) whose id no reverse row has: 0\nlabels (R) more than reverse rows (V): 0\nfaults: 0\n"
unfolding spelled decimal_text fault_line tag_lines entry_lines label_lines total_line fault_lines
sound = refl

-- a kind of which there are two
found : entry_lines (record { mm = 0; cc = 0; vm = 0; mv = 2; vr = 0; rv = 0; excess = 0 }) ≡ ascii "reverse rows (V) whose tag no entry has: 0\nentries (M) whose tag no reverse row has: 2\n  no erase takes these entries, so a find may give a document that was erased: restore a copy in which check counts none, then make the later inserts and erases again\n"
unfolding spelled decimal_text fault_line entry_lines
found = refl

-- the sum of all
total : total_line 31 ≡ ascii "faults: 31\n"
unfolding spelled decimal_text total_line
total = refl
