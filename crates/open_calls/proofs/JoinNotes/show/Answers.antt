-- The places before k are shown.
use Rattle.std.proofs.Common.{replicate, ap, ◌∙◌}
use Rattle.timestamps.proofs.Steps.{filled_start, filled_turn, filled_end}
use Rattle.open_calls.specs.Notes.{shown_from}
use Rattle.open_calls.proofs.JoinNotes.show.Goals as goal

pub loop-k-init : goal.loop-k-init
loop-k-init c = ap (replicate 8) c.blank-shown.ensures ∙ filled_start _ _

pub loop-k-preserved : goal.loop-k-preserved
loop-k-preserved c = filled_turn _ _ _ _ _ c.loop-k-test.true c.loop-k.invariant c.show_note.ensures

pub returns : goal.returns
unfolding shown_from
returns c = filled_end _ _ _ _ c.loop-k.auto.k-end c.loop-k-test.false c.loop-k.invariant
