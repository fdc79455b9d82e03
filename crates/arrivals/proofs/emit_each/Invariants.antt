-- What is left to make, from the state so far, is the whole.
use Rattle.arrivals.proofs.Views.{Left}
use Rattle.detections.specs.Writing.{Beyond}
use Rattle.std.specs.Prelude.{None}
use Rattle.emissions.specs.Emissions.{Emits, Emitting, emitted, emitted_all}
use Rattle.occurrences.specs.Combination.{combined_of}
use Rattle.occurrences.specs.Packed.{NotesOf, Stands}
use Rattle.occurrences.specs.declared.Occurrence.{Occurrence}
use Rattle.sequences.specs.Loops.{fold}
use Rattle.sequences.specs.Marks.{marked}
use Rattle.waiting_lists.specs.Lists.{Waits}
use Rattle.waiting_lists.specs.Marks.{marks_of}
use lib.ListN.{length}
use mathlib.Core.List.{List, map}
use mathlib.Core.Path.{◌≡◌}
use Rattle.arrivals.proofs.emit_each.Given as goal

abbrev pub invariant-loop-i : goal.invariant-loop-i
invariant-loop-i v =
    (length v.out ≡ length v.initial.out) × Beyond v.initial.out v.out v.initial.made.bytes v.made.findings v.made.bytes
    × ((t : NotesOf v.setting.notes.now) (l : List Occurrence) (s : Emitting) (x : Occurrence) → Waits t v.list l → Emits t None v.initial.made v.initial.out s → Stands t v.o x
    → Left t v.made v.out (fold (emitted (length v.initial.out) v.setting.loggers.now v.place) (map (λ w. combined_of t.clocks w x) (marked l (marks_of v.rest))))
    (emitted_all (length v.initial.out) v.setting.loggers.now v.place s (map (λ w. combined_of t.clocks w x) (marked l (marks_of v.taken)))))

abbrev pub decreases-loop-i : goal.decreases-loop-i
decreases-loop-i l = l.rest
