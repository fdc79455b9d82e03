-- What is left to look at tells the whole.
use Rattle.std.proofs.Common.{◌≡◌, List}
use Rattle.occurrences.specs.Occurrences.{is_before}
use Rattle.occurrences.specs.Packed.{NotesOf, Stands}
use Rattle.occurrences.specs.declared.Occurrence.{Occurrence}
use Rattle.sequences.specs.Marks.{marked}
use Rattle.sequences.specs.Select.{some_passes}
use Rattle.waiting_lists.specs.Lists.{Waits}
use Rattle.waiting_lists.specs.Marks.{marks_of}
use Rattle.contexts.proofs.some_before.Given as goal

abbrev pub invariant-loop-i : goal.invariant-loop-i
invariant-loop-i v =
    (t : NotesOf v.notes) (l : List Occurrence) (x : Occurrence) → Waits t v.list l → Stands t v.middle x
    → some_passes (λ w. is_before t.clocks w x) (marked l (marks_of v.rest)) ≡ some_passes (λ w. is_before t.clocks w x) (marked l (marks_of v.marks))

abbrev pub decreases-loop-i : goal.decreases-loop-i
decreases-loop-i l = l.rest
