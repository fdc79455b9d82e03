-- Document 01, demand 3: the latest stamps of an occurrence are exactly those of its events' stamps that are before none of the others.
use Rattle.std.specs.Prelude.{◌≡◌, ℕ, ◌<◌, true, List, map, length, slice_index_or}
use Rattle.event_sets.specs.declared.EventSet.{EventSet}
use Rattle.event_sets.specs.Sets.{elements, has}
use Rattle.timestamps.specs.declared.Timestamp.{Timestamp}
use Rattle.timestamps.specs.Join.{join_of}
use Rattle.timestamps.specs.Order.{Clocks, blank as blank_stamp}
use Rattle.occurrences.specs.declared.Occurrence.{Occurrence}

-- the stamps of the events of a set, where `stamps` has the stamp of each event by its number
unfoldable pub stamps_at : List Timestamp → EventSet → List Timestamp
stamps_at stamps s = map (λ j. slice_index_or stamps j blank_stamp) (elements s)

-- an occurrence of a passage: at least one event, only events of the passage, and its stamp is the join of its events' stamps
pub record Exact (clocks : Clocks) (stamps : List Timestamp) (o : Occurrence) : Type 0 where
  pub some : (j : ℕ) × (has o.events j ≡ true)
  pub within : (j : ℕ) → has o.events j ≡ true → j < length stamps
  pub latest : o.latest ≡ join_of clocks (stamps_at stamps o.events)
