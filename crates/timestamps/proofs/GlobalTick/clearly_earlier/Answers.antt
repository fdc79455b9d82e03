-- One less than the other, where there is one less.
use Rattle.std.proofs.Common.{eq-eqb}
use Rattle.timestamps.specs.Order.{clearly_earlier}
use Rattle.timestamps.proofs.Stamps.{clear_below, clear_none}
use Rattle.timestamps.proofs.GlobalTick.clearly_earlier.Goals as goal

pub returns-then-other-ne0 : goal.returns-then-other-ne0
unfolding clearly_earlier
returns-then-other-ne0 c = clear_below _ _ c.if-other-ne0.true

pub returns-else-other-ne0 : goal.returns-else-other-ne0
unfolding clearly_earlier
returns-else-other-ne0 c = rw (eq-eqb _ _ c.if-other-ne0.false) (clear_none _ _ c.if-other-ne0.false)
