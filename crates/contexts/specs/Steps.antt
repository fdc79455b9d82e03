-- What the functions compute step by step. Readers of the promises need none of these: the laws tie each to the definitions beside this file.
use Rattle.std.specs.Prelude.{◌≡◌, ℕ, ◌+◌, ◌<◌, Bool, false, ◌&&◌, List, [], ◌∷◌, slice_index_or}
use mathlib.Core.List.{zip_with}
use Rattle.sequences.specs.Marks.{padded}
use Rattle.sequences.specs.Select.{some_passes}
use Rattle.timestamps.specs.declared.Note.{Note}
use Rattle.timestamps.specs.declared.GlobalTick.{GlobalTick}
use Rattle.timestamps.specs.declared.Order.{Order}
use Rattle.timestamps.specs.declared.Order.TheVariants.{Before, After}
use Rattle.timestamps.specs.Comparison.{same_order}
use Rattle.timestamps.specs.Order.{Clocks}
use Rattle.occurrences.specs.declared.Occurrence.{Occurrence}
use Rattle.occurrences.specs.Occurrences.{is_before}
use Rattle.occurrences.specs.Steps.{LowestOf}
use Rattle.waiting_lists.specs.Lists.{list_of, place_in}
use Rattle.contexts.specs.Table.{Taken, latest, earliest, every}

-- candidate c keeps w from being taken
unfoldable pub bars_of : Taken → Clocks → Occurrence → Occurrence → Bool
bars_of latest clocks w c = is_before clocks w c
bars_of earliest clocks w c = is_before clocks c w
bars_of every clocks w c = false

-- the same by the word for how w stands to c
unfoldable pub bars_by : Taken → Order → Bool
bars_by latest word = same_order word Before
bars_by earliest word = same_order word After
bars_by every word = false

-- what is read past the end of those ticks
abbrev pub no_tick : GlobalTick
no_tick = record { 0 = 0 }

-- the lowest global tick of each of the first n that wait
abbrev pub Lows : List Note → List (List ℕ) → ℕ → List GlobalTick → Type 0
Lows notes w n lows = (i : ℕ) → i < n → LowestOf notes (slice_index_or w (place_in (list_of w).order i + 1) []) (slice_index_or lows i no_tick).0

-- of the middles marked, the marks of those after one of these lefts
unfoldable pub after_marks : Clocks → (lefts middles : List Occurrence) → List Bool → List Bool
after_marks clocks lefts middles marks = padded 16 (zip_with (λ m c. c && some_passes (λ l. is_before clocks l m) lefts) middles marks)

-- there is one of them
abbrev pub Some : List Occurrence → Type 0
Some l = (w : Occurrence) × (rest : List Occurrence) × (l ≡ w ∷ rest)
