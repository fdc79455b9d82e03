-- An occurrence as the code holds it, in three numbers: the bits of its events in the first two; in the third a byte for each logger place, which says what
-- event has its stamp there: the event's number plus one, 0 for none. Two tables say what is noted of each event.
use Rattle.std.specs.Prelude.{◌≡◌, ℕ, ◌+◌, ◌-◌, ◌*◌, ◌/◌, ◌%◌, ◌^◌, ◌<◌, ◌⊎◌, List, ◌∷◌, map, length, get_or, take, drop, nat_lt, slice_index, slice_index_or}
use Rattle.sequences.specs.Members.{◌is_in◌}
use Rattle.timestamps.specs.declared.Note.{Note}
use Rattle.timestamps.specs.declared.Timestamp.{Timestamp}
use Rattle.timestamps.specs.Notes.{globals_of, ticks_of}
use Rattle.timestamps.specs.Composite.{IsComposite, logger_places, members}
use Rattle.timestamps.specs.Order.{Clocks, blank, global_of}
use Rattle.occurrences.specs.declared.Occurrence.{Occurrence}

-- ---- what is noted of a passage's events: at an event's number plus one its local and its global tick, each plus one, and nothing at place 0.
-- The clocks and the stamps, by event, are what no code sees
pub record Notes (ticks globals : List ℕ) : Type 0 where
  pub clocks : Clocks
  pub stamps : List Timestamp
  pub no_tick : get_or ticks 0 0 ≡ 0
  pub no_global : get_or globals 0 0 ≡ 0
  pub tick-room : length stamps < length ticks
  pub global-room : length stamps < length globals
  pub tick : (e : ℕ) → e < length stamps → slice_index ticks (e + 1) ≡ (get_or stamps e blank).tick.0 + 1
  pub global : (e : ℕ) → e < length stamps → slice_index globals (e + 1) ≡ (global_of clocks (slice_index_or stamps e blank)).0 + 1

-- as the code has them
abbrev pub NotesOf : List Note → Type 0
NotesOf notes = Notes (ticks_of notes) (globals_of notes)

-- ---- the view
-- the byte at a logger place
unfoldable pub byte_at : ℕ → ℕ → ℕ
byte_at w k = w / 2 ^ (8 * k) % 256

-- with the table of local ticks: the events, then by logger place the local tick of its stamp plus one, 0 where there is none
unfoldable pub words_of : List ℕ → List ℕ → List ℕ
words_of ticks o = slice_index o 0 ∷ slice_index o 1 ∷ map (λ k. slice_index ticks (byte_at (slice_index o 2) k)) logger_places

-- what such ten words stand for
unfoldable pub from_words : List ℕ → Occurrence
from_words words =
    record {
      latest = record { present = map (nat_lt 0) (drop 2 words); ticks = map (λ w. record { 0 = w - 1 }) (drop 2 words) };
      events = record { low = slice_index words 0; high = slice_index words 1 };
    }

abbrev pub occurrence_of : List ℕ → List ℕ → Occurrence
occurrence_of ticks o = from_words (words_of ticks o)

-- ---- what is true of what is held
-- a byte names no event, or one of the logger at place k
abbrev pub Names : List Timestamp → ℕ → ℕ → Type 0
Names stamps k n = (n ≡ 0) ⊎ ((e : ℕ) × (n ≡ e + 1) × (e < length stamps) × ((get_or stamps e blank).logger ≡ k))

-- each stamp names a noted event of its logger, and together they are a composite stamp
pub record Sound {ticks globals : List ℕ} (t : Notes ticks globals) (p : List ℕ) : Type 0 where
  pub names : (k : ℕ) → k < 8 → Names t.stamps k (byte_at (slice_index p 2) k)
  pub composite : IsComposite t.clocks (members (occurrence_of ticks p).latest)

-- the numbers p stand for the occurrence o
pub record Stands {ticks globals : List ℕ} (t : Notes ticks globals) (p : List ℕ) (o : Occurrence) : Type 0 where
  pub same : occurrence_of ticks p ≡ o
  pub sound : Sound t p

-- those of a list stand for the occurrences l, in order
pub record Stand {ticks globals : List ℕ} (t : Notes ticks globals) (ps : List (List ℕ)) (l : List Occurrence) : Type 0 where
  pub same : map (occurrence_of ticks) ps ≡ l
  pub sound : (p : List ℕ) → p is_in ps → Sound t p

-- the first n of a row hold the occurrences l
abbrev pub Holds : {ticks globals : List ℕ} (t : Notes ticks globals) (row : List (List ℕ)) → ℕ → List Occurrence → Type 0
Holds t row n l = Stand t (take n row) l

-- ---- and enough of it to be looked up: what each byte names is noted
abbrev pub Within : List Note → List ℕ → Type 0
Within notes p = (k : ℕ) → k < 8 → byte_at (slice_index p 2) k < length notes
