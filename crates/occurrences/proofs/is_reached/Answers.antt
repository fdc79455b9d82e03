-- Where there is a timestamp, as `has_before` tells it.
use Rattle.occurrences.specs.Steps.{is_reached}
use Rattle.std.proofs.Common.{eq-eqb, ne_eqb}
use Rattle.occurrences.proofs.is_reached.Goals as goal

pub returns-then-other-ne0 : goal.returns-then-other-ne0
unfolding is_reached
returns-then-other-ne0 c = λ h. rw (ne_eqb _ _ c.if-other-ne0.true) (c.has_before.ensures h)

pub returns-else-other-ne0 : goal.returns-else-other-ne0
unfolding is_reached
returns-else-other-ne0 c = λ h. rw (eq-eqb _ _ c.if-other-ne0.false)
