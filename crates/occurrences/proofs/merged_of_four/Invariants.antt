-- The bytes before k name the later ones, and h is the highest of these.
use Rattle.std.proofs.Common.{get_or}
use Rattle.timestamps.specs.Notes.{globals_of, ticks_of}
use Rattle.occurrences.specs.Steps.{Bytes, Highest, later_at}
use Rattle.occurrences.proofs.merged_of_four.Given as goal

abbrev pub invariant-loop-k : goal.invariant-loop-k
invariant-loop-k l = Bytes l.k (later_at (ticks_of l.notes) l.a l.b) l.events × Highest l.k (λ j. get_or (globals_of l.notes) (later_at (ticks_of l.notes) l.a l.b j) 0) l.highest.0
