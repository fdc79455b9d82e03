-- By the two cases.
use Rattle.open_calls.specs.Notes.{left_by}
use mathlib.Core.Path.{sym, ◌∙◌}
use Rattle.open_calls.proofs.JoinNotes.leave.Goals as goal

pub returns-then-is_clear : goal.returns-then-is_clear
unfolding left_by
returns-then-is_clear c = rw (sym c.is_clear.ensures ∙ c.if-is_clear.true)

pub returns-else-is_clear : goal.returns-else-is_clear
unfolding left_by
returns-else-is_clear c = rw (sym c.is_clear.ensures ∙ c.if-is_clear.false)
