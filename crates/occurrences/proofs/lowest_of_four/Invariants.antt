-- The number so far is the lowest at the places before k.
use Rattle.timestamps.specs.Notes.{globals_of}
use Rattle.occurrences.specs.Steps.{Lowest, note_at}
use Rattle.occurrences.proofs.lowest_of_four.Given as goal

abbrev pub invariant-loop-k : goal.invariant-loop-k
invariant-loop-k l = Lowest l.k (note_at (globals_of l.notes) l.w) l.low.0
