-- By the two cases.
use Rattle.std.proofs.Common.{sym, ◌∙◌}
use Rattle.open_calls.proofs.Clearing.{room-raised, room-same}
use Rattle.open_calls.proofs.JoinNotes.make_room.Goals as goal

pub returns-then-earlier : goal.returns-then-earlier
returns-then-earlier c = room-raised _ _ _ (sym c.earlier.ensures ∙ c.if-earlier.true) c.raise_to.ensures

pub returns-else-earlier : goal.returns-else-earlier
returns-else-earlier c = room-same _ _ (sym c.earlier.ensures ∙ c.if-earlier.false)
