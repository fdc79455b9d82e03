-- The marks before place i are those of the test.
use Rattle.std.proofs.Common.{◌≡◌, List, map, take}
use Rattle.occurrences.specs.Occurrences.{is_before}
use Rattle.occurrences.specs.Packed.{NotesOf, Stands}
use Rattle.occurrences.specs.declared.Occurrence.{Occurrence}
use Rattle.sequences.specs.Marks.{padded}
use Rattle.waiting_lists.specs.Lists.{Waits}
use Rattle.waiting_lists.specs.Marks.{marks_of}
use Rattle.contexts.proofs.before_arrival.Given as goal

abbrev pub invariant-loop-i : goal.invariant-loop-i
invariant-loop-i v =
    (t : NotesOf v.notes) (l : List Occurrence) (x : Occurrence) → Waits t v.list l → Stands t v.o x
    → marks_of v.marks ≡ padded 16 (take v.i (map (λ w. is_before t.clocks w x) l))
