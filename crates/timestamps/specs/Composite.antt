-- Document 01, "Stamps": composite stamps. A composite has at most one stamp for each logger place.
use Rattle.std.specs.Prelude.{Bool, true, false, List, [], ◌∷◌, map, ◌≡◌, ℕ, eqb, get_or}
use Rattle.sequences.specs.Choice.{pick}
use Rattle.sequences.specs.Members.{◌is_in◌}
use Rattle.sequences.specs.Range.{numbers_from}
use Rattle.sequences.specs.Select.{filter, some_passes}
use Rattle.timestamps.specs.declared.LocalTick.{LocalTick}
use Rattle.timestamps.specs.declared.Timestamp.{Timestamp}
use Rattle.timestamps.specs.declared.CompositeTimestamp.{CompositeTimestamp}
use Rattle.timestamps.specs.Order.{Clocks, concurrent}

-- the eight logger places
abbrev pub logger_places : List ℕ
logger_places = numbers_from 0 8

abbrev pub tick_zero : LocalTick
tick_zero = record { 0 = 0 }

-- a composite's stamp at a logger place, and whether it has one there
abbrev pub stamp_at : CompositeTimestamp → ℕ → Timestamp
stamp_at c k = record { logger = k; tick = get_or c.ticks k tick_zero }

abbrev pub present_at : CompositeTimestamp → ℕ → Bool
present_at c k = get_or c.present k false

-- its stamps, by rising logger
unfoldable pub members : CompositeTimestamp → List Timestamp
members c = map (stamp_at c) (filter (present_at c) logger_places)

-- a stamp is of the logger at place k
abbrev pub of_logger : ℕ → Timestamp → Bool
of_logger k s = eqb s.logger k

-- the tick of a list's stamp of the logger at place k; 0 where there is none
unfoldable pub tick_of : List Timestamp → ℕ → LocalTick
tick_of [] k = tick_zero
tick_of (s ∷ l) k = pick (of_logger k s) s.tick (tick_of l k)

-- the composite with the stamps of a list that has at most one for each logger place
unfoldable pub composite_of : List Timestamp → CompositeTimestamp
composite_of l = record { present = map (λ k. some_passes (of_logger k) l) logger_places; ticks = map (tick_of l) logger_places }

-- a composite stamp, by its stamps: there is one, and they are pairwise concurrent
pub record IsComposite (clocks : Clocks) (l : List Timestamp) : Type 0 where
  pub some : (s : Timestamp) × (s is_in l)
  pub pairwise : (s t : Timestamp) → s is_in l → t is_in l → concurrent clocks s t ≡ true
