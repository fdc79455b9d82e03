-- What the functions over packed occurrences compute, by notes: a tick plus one, or 0 for none. Readers of the promises need none of these.
use Rattle.std.specs.Prelude.{◌≡◌, ℕ, ◌+◌, ◌-◌, ◌*◌, ◌^◌, ◌<◌, ◌≤◌, Bool, true, false, ◌⊎◌, List, length, ◌==◌, ◌≢◌, nat_lt, slice_index}
use Rattle.sequences.specs.Choice.{pick}
use Rattle.timestamps.specs.declared.Note.{Note}
use Rattle.occurrences.specs.Packed.{byte_at}
use Rattle.timestamps.specs.Notes.{globals_of}

-- what a table has of the event that a place's byte names
abbrev pub note_at : List ℕ → ℕ → ℕ → ℕ
note_at table w k = slice_index table (byte_at w k)

-- what the first n bytes of w name has a place in a table
abbrev pub Inside : {A : Type 0} → ℕ → List A → ℕ → Type 0
Inside n table w = (k : ℕ) → k < n → byte_at w k < length table

-- r has the bytes f at the first n places, and none past them
pub record Bytes (n : ℕ) (f : ℕ → ℕ) (r : ℕ) : Type 0 where
  pub size : r < 2 ^ (8 * n)
  pub bytes : (k : ℕ) → k < n → byte_at r k ≡ f k

-- w has the byte n at one place, and 0 at the others
pub record Only (w n : ℕ) : Type 0 where
  pub place : ℕ
  pub within : place < 8
  pub here : byte_at w place ≡ n
  pub elsewhere : (k : ℕ) → k < 8 → (k ≢ place) → byte_at w k ≡ 0

-- of two events the one with the later tick
unfoldable pub later_of : List ℕ → ℕ → ℕ → ℕ
later_of ticks i j = pick (nat_lt (slice_index ticks i) (slice_index ticks j)) j i

abbrev pub later_at : List ℕ → ℕ → ℕ → ℕ → ℕ
later_at ticks a b k = later_of ticks (byte_at a k) (byte_at b k)

-- the event, unless its note is clearly earlier than h
unfoldable pub kept_of : List ℕ → ℕ → ℕ → ℕ
kept_of globals h i = pick (nat_lt (slice_index globals i + 1) h) 0 i

-- the highest note of the first n places
pub record Highest (n : ℕ) (g : ℕ → ℕ) (h : ℕ) : Type 0 where
  pub most : (k : ℕ) → k < n → g k ≤ h
  pub some : 0 < h → (k : ℕ) × (k < n) × (g k ≡ h)

-- r has those of the events f that are not clearly earlier than the highest
pub record Settled (globals : List ℕ) (f : ℕ → ℕ) (r : ℕ) : Type 0 where
  pub highest : ℕ
  pub top : Highest 8 (λ k. slice_index globals (f k)) highest
  pub kept : Bytes 8 (λ k. kept_of globals highest (f k)) r

-- the lowest tick that the notes of the first n places tell; the largest number where there is none
pub record Lowest (n : ℕ) (g : ℕ → ℕ) (low : ℕ) : Type 0 where
  pub size : low < 2 ^ 64
  pub least : (k : ℕ) → k < n → 0 < g k → low < g k
  pub some : (((k : ℕ) → k < n → g k ≡ 0) × (low ≡ 2 ^ 64 - 1)) ⊎ ((k : ℕ) × (k < n) × (g k ≡ low + 1))

-- that of a packed occurrence
abbrev pub LowestOf : List Note → List ℕ → ℕ → Type 0
LowestOf notes p low = Lowest 8 (note_at (globals_of notes) (slice_index p 2)) low

-- v is one, and before w on one clock
unfoldable pub own_before : ℕ → ℕ → Bool
own_before v w = pick (v == 0) false (nat_lt v w)

-- the stamp with local note w and global note g, if it is one, has one before it: v of its own logger, or the lowest of all
unfoldable pub has_before : ℕ → ℕ → ℕ → ℕ → Bool
has_before low v w g = pick (w == 0) true (pick (own_before v w) true (nat_lt (low + 1) (g - 1)))

-- the same, where there is one
unfoldable pub is_reached : ℕ → ℕ → ℕ → ℕ → Bool
is_reached low v w g = pick (w == 0) false (has_before low v w g)
