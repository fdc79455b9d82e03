-- What is left to make, from the state so far, is the whole.
use Rattle.arrivals.proofs.Views.{Left}
use Rattle.contexts.specs.Made.{accumulated_of, accumulation_of, groups_of}
use Rattle.contexts.specs.Choice.{seq_candidates}
use Rattle.contexts.specs.Table.{row_of}
use Rattle.detections.specs.Writing.{Beyond}
use Rattle.std.specs.Prelude.{None}
use Rattle.emissions.specs.Emissions.{Emits, Emitting, emitted, emitted_all}
use Rattle.occurrences.specs.Packed.{NotesOf, Stands}
use Rattle.occurrences.specs.declared.Occurrence.{Occurrence}
use Rattle.sequences.specs.Loops.{fold}
use Rattle.sequences.specs.Marks.{marked}
use Rattle.waiting_lists.specs.Lists.{Waits}
use Rattle.waiting_lists.specs.Marks.{marks_of}
use lib.ListN.{length}
use mathlib.Core.List.{List, map}
use mathlib.Core.Path.{◌≡◌}
use Rattle.arrivals.proofs.emit_accumulated.Given as goal

abbrev pub invariant-loop-i : goal.invariant-loop-i
invariant-loop-i v =
    (length v.out ≡ length v.initial.out) × Beyond v.initial.out v.out v.initial.made.bytes v.made.findings v.made.bytes
    × ((t : NotesOf v.setting.notes.now) (k l : List Occurrence) (s : Emitting) (x : Occurrence) → Waits t v.middles k → Waits t v.lefts l → Emits t None v.initial.made v.initial.out s → Stands t v.o x
    → marks_of v.earlier ≡ seq_candidates t.clocks k x
    → Left t v.made v.out
    (fold (emitted (length v.initial.out) v.setting.loggers.now v.place) (map (λ g. accumulation_of t.clocks g k x) (groups_of (row_of v.context).finds (marked l (marks_of v.rest)))))
    (emitted_all (length v.initial.out) v.setting.loggers.now v.place s (accumulated_of (row_of v.context).finds t.clocks (marked l (marks_of v.taken)) k x)))

abbrev pub decreases-loop-i : goal.decreases-loop-i
decreases-loop-i l = l.rest
