-- The places before k are shown.
use Rattle.std.proofs.Common.{◌≡◌}
use Rattle.timestamps.specs.Order.{blank}
use Rattle.timestamps.proofs.Steps.{filled_to}
use Rattle.open_calls.specs.Notes.{note_at, shown_note}
use Rattle.open_calls.proofs.JoinNotes.show.Given as goal

abbrev pub invariant-loop-k : goal.invariant-loop-k
invariant-loop-k l = l.shown ≡ filled_to blank (λ j. shown_note (note_at l.self.ticks j) j) l.k
