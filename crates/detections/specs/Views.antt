-- The finding that the code's values stand for.
use Rattle.std.specs.Prelude.{ℕ, List, map, get_or}
use Rattle.timestamps.specs.declared.Timestamp.{Timestamp}
use Rattle.timestamps.specs.declared.CompositeTimestamp.{CompositeTimestamp}
use Rattle.timestamps.specs.Composite.{members}
use Rattle.event_sets.specs.declared.EventSet.{EventSet}
use Rattle.event_sets.specs.Sets.{elements}
use Rattle.occurrences.specs.Packed.{occurrence_of}
use Rattle.detections.specs.declared.Stamp.{Stamp}
use Rattle.detections.specs.Findings.{Finding, finding_bytes}

-- a timestamp as it is written: the number of its logger, under the numbers by place, and its local tick
abbrev pub written : List ℕ → Timestamp → Stamp
written loggers t = record { logger = get_or loggers t.logger 0; tick = t.tick }

-- the numbers of the loggers by place, the node, its latest timestamps, its events
unfoldable pub finding_of : List ℕ → ℕ → CompositeTimestamp → EventSet → Finding
finding_of loggers node latest events =
    record {
      node = node;
      stamps = map (written loggers) (members latest);
      events = elements events;
    }

-- ---- of packed numbers o, beside the table of ticks
-- their stamps
abbrev pub written_stamps : (ticks loggers o : List ℕ) → List Stamp
written_stamps ticks loggers o = map (written loggers) (members (occurrence_of ticks o).latest)

-- the bytes of their finding
abbrev pub written_bytes : (ticks loggers : List ℕ) → ℕ → (o : List ℕ) → List ℕ
written_bytes ticks loggers node o = finding_bytes (finding_of loggers node (occurrence_of ticks o).latest (occurrence_of ticks o).events)
