-- What the code's values stand for, beside what is lent: a waiting list, what the node made, the output.
use Rattle.timestamps.specs.declared.Note.{Note}
use Rattle.std.specs.Prelude.{Bool, List, None, ◌⊎◌, ◌≡◌, ℕ, ◌+◌, ◌<◌, length}
use Rattle.timestamps.specs.Order.{Clocks}
use Rattle.occurrences.specs.declared.Occurrence.{Occurrence}
use Rattle.occurrences.specs.Packed.{NotesOf, Stands}
use Rattle.waiting_lists.specs.Lists.{Waits, list_of}
use Rattle.emissions.specs.declared.Made.{Made}
use Rattle.emissions.specs.Emissions.{Emits, Emitting}
use Rattle.arrivals.specs.Meetings.{Action, candidates_of, removed_by}

-- the list has places for n more, or for 16 in all
abbrev pub Spare : List (List ℕ) → ℕ → Type 0
Spare list n = ((list_of list).len + n < length list) ⊎ (length list ≡ 17)

-- the code is of an arrival that looks at those that wait: it is not passed on, does not wait at once, and is not nothing
abbrev pub Looks : ℕ → Type 0
Looks code = (1 < code) × (code < 7)

-- what it looks for: the candidates; where it deletes, those that it deletes
unfoldable pub looked_for : Action → Clocks → (own other : List Occurrence) → Occurrence → List Bool
looked_for action clocks own other o = removed_by action clocks other (candidates_of action clocks own other o) o

-- that there are such notes and occurrences: of an arrival at a list, and beside two, where no limit is met yet
abbrev pub Meets : (notes : List Note) (list : List (List ℕ)) (made : Made) (out o : List ℕ) → Type 0
Meets notes list made out o =
    (t : NotesOf notes) × (l : List Occurrence) × (s : Emitting) × (x : Occurrence) × Waits t list l × Emits t None made out s × Stands t o x

abbrev pub MeetsBoth : (notes : List Note) (own other : List (List ℕ)) (made : Made) (out o : List ℕ) → Type 0
MeetsBoth notes own other made out o =
    (t : NotesOf notes) × (k : List Occurrence) × (l : List Occurrence) × (s : Emitting) × (x : Occurrence)
    × Waits t own k × Waits t other l × Emits t None made out s × Stands t o x
