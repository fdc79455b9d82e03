-- The stamps that the bytes left name, written from here, make all of them.
use Rattle.timestamps.specs.Notes.{ticks_of}
use Prim.Native.Nat.{◌^◌, ◌<◌}
use Rattle.occurrences.specs.Steps.{Inside}
use Rattle.detections.specs.Steps.{named_bytes}
use Rattle.detections.proofs.Writing.{Writes}
use Rattle.detections.proofs.put_named.Given as goal

abbrev pub invariant-loop-rest : goal.invariant-loop-rest
invariant-loop-rest l =
    (l.rest < 2 ^ 64) × Inside 8 l.notes l.rest × Writes l.initial.out l.at (named_bytes (ticks_of l.notes) l.loggers 8 0 l.packed) l.out l.to (named_bytes (ticks_of l.notes) l.loggers 8 0 l.rest)

abbrev pub decreases-loop-rest : goal.decreases-loop-rest
decreases-loop-rest l = l.rest
