-- The count so far and what is left from place k on make the whole.
use Rattle.std.proofs.Common.{◌≡◌, ◌+◌, ◌≤◌, length}
use Rattle.timestamps.specs.Composite.{members}
use Rattle.occurrences.specs.Packed.{words_of}
use Rattle.timestamps.specs.Notes.{ticks_of}
use Rattle.occurrences.proofs.Words.{latest_of}
use Rattle.detections.proofs.Stamps.{count_from}
use Rattle.detections.proofs.timestamp_count.Given as goal

abbrev pub invariant-loop-k : goal.invariant-loop-k
invariant-loop-k l = (l.n ≤ l.k) × (l.n + count_from (words_of (ticks_of l.notes) l.o) l.k ≡ length (members (latest_of (words_of (ticks_of l.notes) l.o))))
