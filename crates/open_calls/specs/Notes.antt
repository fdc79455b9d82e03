-- The join of a list as the code holds it. Readers of the promises need none of these: the laws tie them to the answers.
use Rattle.std.specs.Prelude.{Bool, List, map, ◌≡◌, ℕ, ◌+◌, ◌-◌, ◌≤◌, ◌<◌, ltb, get_or, length, replicate, set}
use Rattle.sequences.specs.Choice.{pick}
use Rattle.sequences.specs.Members.{◌is_in◌}
use Rattle.timestamps.specs.declared.CompositeTimestamp.{CompositeTimestamp}
use Rattle.timestamps.specs.declared.Timestamp.{Timestamp}
use Rattle.timestamps.specs.Composite.{logger_places, members, present_at, stamp_at}
use Rattle.timestamps.specs.Join.{join_of}
use Rattle.open_calls.specs.declared.JoinNotes.{JoinNotes}
use Rattle.timestamps.specs.Order.{Clocks, blank, clearly_earlier, global_of}

-- the note of a tick: the tick plus one. 0 is noted where there is none
abbrev pub local_note : Timestamp → ℕ
local_note s = s.tick.0 + 1

abbrev pub global_note : Clocks → Timestamp → ℕ
global_note clocks s = (global_of clocks s).0 + 1

abbrev pub note_at : List ℕ → ℕ → ℕ
note_at notes place = get_or notes place 0

-- the note of the highest global tick of a composite
pub record HighestNote (clocks : Clocks) (c : CompositeTimestamp) (highest : ℕ) : Type 0 where
  pub most : (s : Timestamp) → s is_in members c → global_note clocks s ≤ highest
  pub some : 0 < highest → (s : Timestamp) × (s is_in members c) × (global_note clocks s ≡ highest)

-- both arrays have a place for each logger
pub record Sized (notes : JoinNotes) : Type 0 where
  pub ticks : length notes.ticks ≡ 8
  pub globals : length notes.globals ≡ 8

-- the notes of a composite: at place k those of the timestamp of logger k
pub record NotedJoin (clocks : Clocks) (c : CompositeTimestamp) (notes : JoinNotes) : Type 0 where
  pub sized : Sized notes
  pub local : (k : ℕ) → k < 8 → note_at notes.ticks k ≡ pick (present_at c k) (local_note (stamp_at c k)) 0
  pub global : (k : ℕ) → k < 8 → note_at notes.globals k ≡ pick (present_at c k) (global_note clocks (stamp_at c k)) 0
  pub highest : HighestNote clocks c notes.highest

-- nothing is noted
abbrev pub no_notes : JoinNotes
no_notes = record { ticks = replicate 8 0; globals = replicate 8 0; highest = 0 }

-- the notes of the join of a list
abbrev pub Joined : Clocks → List Timestamp → JoinNotes → Type 0
Joined clocks l notes = NotedJoin clocks (join_of clocks l) notes

-- of two notes of global ticks the first is clearly earlier
abbrev pub clear_note : ℕ → ℕ → Bool
clear_note note other = clearly_earlier (record { 0 = note }) (record { 0 = other })

-- what is noted at place k is clearly earlier
abbrev pub clear_at : JoinNotes → ℕ → ℕ → Bool
clear_at notes k note = clear_note (note_at notes.globals k) note

-- then it leaves
unfoldable pub left_by : JoinNotes → ℕ → ℕ → JoinNotes
left_by notes k note =
    pick (clear_at notes k note) (record { ticks = set notes.ticks k 0; globals = set notes.globals k 0; highest = notes.highest }) notes

-- all that are clearly earlier than a new highest have left
pub record Raised (notes : JoinNotes) (note : ℕ) (after : JoinNotes) : Type 0 where
  pub sized : Sized after
  pub local : (k : ℕ) → k < 8 → note_at after.ticks k ≡ pick (clear_at notes k note) 0 (note_at notes.ticks k)
  pub global : (k : ℕ) → k < 8 → note_at after.globals k ≡ pick (clear_at notes k note) 0 (note_at notes.globals k)
  pub highest : after.highest ≡ note

-- only one that is higher than the highest is a new highest
pub record RoomFor (notes : JoinNotes) (note : ℕ) (after : JoinNotes) : Type 0 where
  pub raised : notes.highest < note → Raised notes note after
  pub same : note ≤ notes.highest → after ≡ notes

-- the notes as the answer shows them
unfoldable pub shown_note : ℕ → ℕ → Timestamp
shown_note note k = pick (ltb 0 note) (record { logger = k; tick = record { 0 = note - 1 } }) blank

unfoldable pub shown_from : JoinNotes → List Timestamp
shown_from notes = map (λ k. shown_note (note_at notes.ticks k) k) logger_places
