-- Every candidate that waits; else the marks before place i are those of the rule.
use Rattle.std.proofs.Common.{◌≡◌, ◌&&◌, List, take}
use Rattle.contexts.specs.Choice.{takes}
use Rattle.occurrences.specs.Packed.{NotesOf}
use Rattle.occurrences.specs.declared.Occurrence.{Occurrence}
use Rattle.sequences.specs.Marks.{marked, padded}
use Rattle.waiting_lists.specs.Lists.{Waits}
use Rattle.waiting_lists.specs.Marks.{marks_of}
use mathlib.Core.List.{zip_with}
use Rattle.contexts.proofs.taken_by.Given as goal

abbrev pub invariant-loop-i : goal.invariant-loop-i
invariant-loop-i v =
    (t : NotesOf v.notes) (l : List Occurrence) → Waits t v.list l
    → marks_of v.marks ≡ padded 16 (take v.i (zip_with (λ w m. m && takes v.rule t.clocks (marked l (marks_of v.candidates)) w) l (marks_of v.candidates)))
