-- Document 01, "How an event is worked": what an arrival makes of those taken.
use Rattle.std.specs.Prelude.{Bool, ◌&&◌, List, [], ◌∷◌, ◌++◌, map}
use Rattle.sequences.specs.Select.{filter, some_passes}
use Rattle.timestamps.specs.Order.{Clocks}
use Rattle.occurrences.specs.declared.Occurrence.{Occurrence}
use Rattle.occurrences.specs.Combination.{combination_of, combined_of}
use Rattle.occurrences.specs.Occurrences.{is_before}
use Rattle.contexts.specs.Table.{Findings, each, together}

-- one occurrence for each taken, in waiting order, or one for all together, each combined with the arrival
unfoldable pub made_of : Findings → Clocks → List Occurrence → Occurrence → List Occurrence
made_of each clocks those o = map (λ w. combined_of clocks w o) those
made_of together clocks [] o = []
made_of together clocks (w ∷ those) o = combination_of clocks (o ∷ w ∷ those) ∷ []

-- ---- accumulated

-- the lefts of each finding: one for each taken, or all together
unfoldable pub groups_of : Findings → List Occurrence → List (List Occurrence)
groups_of each those = map (λ l. l ∷ []) those
groups_of together [] = []
groups_of together (l ∷ those) = (l ∷ those) ∷ []

-- a middle is between those lefts and the arrival: after one of them, and before it
unfoldable pub is_between : Clocks → List Occurrence → Occurrence → Occurrence → Bool
is_between clocks lefts o m = some_passes (λ l. is_before clocks l m) lefts && is_before clocks m o

-- a finding has its lefts, the arrival, and every waiting middle that is between
unfoldable pub accumulation_of : Clocks → (lefts middles : List Occurrence) → Occurrence → Occurrence
accumulation_of clocks lefts middles o = combination_of clocks (o ∷ lefts ++ filter (is_between clocks lefts o) middles)

unfoldable pub accumulated_of : Findings → Clocks → (those middles : List Occurrence) → Occurrence → List Occurrence
accumulated_of finds clocks those middles o = map (λ lefts. accumulation_of clocks lefts middles o) (groups_of finds those)
