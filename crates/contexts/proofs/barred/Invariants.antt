-- No other candidate before place j bars it.
use Rattle.std.proofs.Common.{◌≡◌, List, length, get_or, drop}
use Rattle.contexts.specs.Steps.{Lows, bars_of}
use Rattle.occurrences.specs.Occurrences.{no_occurrence}
use Rattle.occurrences.specs.Packed.{NotesOf}
use Rattle.occurrences.specs.declared.Occurrence.{Occurrence}
use Rattle.sequences.specs.Marks.{marked}
use Rattle.sequences.specs.Select.{some_passes}
use Rattle.waiting_lists.specs.Lists.{Waits}
use Rattle.waiting_lists.specs.Marks.{marks_of}
use Rattle.contexts.proofs.barred.Given as goal

abbrev pub invariant-loop-j : goal.invariant-loop-j
invariant-loop-j v =
    (t : NotesOf v.notes) (l : List Occurrence) → Waits t v.list l → Lows v.notes v.list (length l) v.lows
    → some_passes (bars_of v.rule t.clocks (get_or l v.i no_occurrence)) (marked (drop v.j l) (drop v.j (marks_of v.candidates)))
    ≡ some_passes (bars_of v.rule t.clocks (get_or l v.i no_occurrence)) (marked l (marks_of v.candidates))
