-- A file event as an occurrence.
use Rattle.std.proofs.Common.{◌≡◌, ℕ, ◌<◌, [], ◌∷◌, sym}
use Rattle.event_sets.specs.Sets.{elements}
use Rattle.event_sets.proofs.Members.{elements_one}
use Rattle.timestamps.specs.declared.Timestamp.{Timestamp}
use Rattle.timestamps.specs.Join.{join_of}
use Rattle.timestamps.proofs.Join.{join_of_one}
use Rattle.occurrences.specs.Occurrences.{of_event}
use Rattle.timestamps.specs.Order.{Clocks}

-- its stamp is the join of the one, and its events are the one number
pub event-latest : (clocks : Clocks) (s : Timestamp) (number : ℕ) → (of_event s number).latest ≡ join_of clocks (s ∷ [])
unfolding of_event
event-latest clocks s number = sym (join_of_one clocks s)

pub event-events : (s : Timestamp) (number : ℕ) → number < 128 → elements (of_event s number).events ≡ number ∷ []
unfolding of_event
event-events s number h = elements_one number h
