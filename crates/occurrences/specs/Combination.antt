-- Document 01, "How an event is worked": a combined occurrence has the join of its parts' stamps and the union of their events.
use Rattle.std.specs.Prelude.{List, [], ◌∷◌, ◌++◌}
use Rattle.event_sets.specs.declared.EventSet.{EventSet}
use Rattle.event_sets.specs.Sets.{no_events, union_of}
use Rattle.timestamps.specs.declared.Timestamp.{Timestamp}
use Rattle.timestamps.specs.Composite.{members}
use Rattle.timestamps.specs.Join.{join_of}
use Rattle.timestamps.specs.Order.{Clocks}
use Rattle.occurrences.specs.declared.Occurrence.{Occurrence}

-- the stamps of all parts
unfoldable pub stamps_of : List Occurrence → List Timestamp
stamps_of [] = []
stamps_of (o ∷ parts) = members o.latest ++ stamps_of parts

-- the union of their events
unfoldable pub events_of : List Occurrence → EventSet
events_of [] = no_events
events_of (o ∷ parts) = union_of o.events (events_of parts)

-- the combination of one or more parts
unfoldable pub combination_of : Clocks → List Occurrence → Occurrence
combination_of clocks parts = record { latest = join_of clocks (stamps_of parts); events = events_of parts }

-- the combination of two
unfoldable pub combined_of : Clocks → Occurrence → Occurrence → Occurrence
combined_of clocks a b = record { latest = join_of clocks (members a.latest ++ members b.latest); events = union_of a.events b.events }
