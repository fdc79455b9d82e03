-- The bytes before k name those kept.
use Rattle.occurrences.specs.Packed.{byte_at}
use Rattle.timestamps.specs.Notes.{globals_of}
use Rattle.occurrences.specs.Steps.{Bytes, kept_of}
use Rattle.occurrences.proofs.settled_of_four.Given as goal

abbrev pub invariant-loop-k : goal.invariant-loop-k
invariant-loop-k l = Bytes l.k (λ j. kept_of (globals_of l.notes) l.highest.0 (byte_at l.c j)) l.events
