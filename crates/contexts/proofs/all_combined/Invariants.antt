-- The rest from place i on, combined with what there is, is the whole.
use Rattle.timestamps.specs.Notes.{globals_of, ticks_of}
use Rattle.contexts.proofs.Combines.{Combines}
use Rattle.waiting_lists.specs.Marks.{marks_of}
use Rattle.contexts.proofs.all_combined.Given as goal

abbrev pub invariant-loop-i : goal.invariant-loop-i
invariant-loop-i l = Combines (ticks_of l.notes) (globals_of l.notes) l.list (marks_of l.taken) l.o l.all l.i
