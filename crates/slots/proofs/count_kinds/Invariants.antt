-- There are places enough for the events so far.
use mathlib.Core.Path.{◌≡◌}
use lib.ListN.{length}
use Rattle.progress.specs.Seats.{Enough}
use Rattle.slots.proofs.count_kinds.Given as goal

abbrev pub invariant-loop-kind : goal.invariant-loop-kind
invariant-loop-kind l = (length l.places ≡ 34) × Enough l.kind-index l.kinds l.places
