-- Document 01, "How an event is worked": occurrences. An occurrence has a composite stamp and its events.
use Rattle.std.specs.Prelude.{ℕ, Bool, [], ◌∷◌}
use Rattle.event_sets.specs.Sets.{marked_with, no_events}
use Rattle.timestamps.specs.declared.Order.{Order}
use Rattle.timestamps.specs.declared.Order.TheVariants.{Before}
use Rattle.timestamps.specs.declared.Timestamp.{Timestamp}
use Rattle.timestamps.specs.Comparison.{order_of, same_order, stamps_weakly_before}
use Rattle.timestamps.specs.Composite.{composite_of, members}
use Rattle.timestamps.specs.Order.{Clocks}
use Rattle.occurrences.specs.declared.Occurrence.{Occurrence}

-- a file event: one stamp and its own number
unfoldable pub of_event : Timestamp → ℕ → Occurrence
of_event s number = record { latest = composite_of (s ∷ []); events = marked_with no_events number }

-- the word for how a's stamp stands to b's
unfoldable pub occurrence_order : Clocks → Occurrence → Occurrence → Order
occurrence_order clocks a b = order_of clocks (members a.latest) (members b.latest)

-- a's stamp is before b's
unfoldable pub is_before : Clocks → Occurrence → Occurrence → Bool
is_before clocks a b = same_order (occurrence_order clocks a b) Before

-- a's stamp is weakly before b's
unfoldable pub is_weakly_before : Clocks → Occurrence → Occurrence → Bool
is_weakly_before clocks a b = stamps_weakly_before clocks (members a.latest) (members b.latest)

-- what a list of occurrences is read as past its end
abbrev pub no_occurrence : Occurrence
no_occurrence = record { latest = record { present = []; ticks = [] }; events = no_events }
