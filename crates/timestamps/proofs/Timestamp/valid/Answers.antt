-- Both limits.
use Rattle.std.proofs.Common.{le-leb}
use Rattle.std.proofs.lemmas.Bool.{lt-leb}
use Rattle.timestamps.specs.Order.{valid}
use Rattle.timestamps.proofs.Timestamp.valid.Goals as goal

pub returns-then-self-le7 : goal.returns-then-self-le7
unfolding valid
returns-then-self-le7 c = simp (le-leb _ _ c.if-self-le7.true)

pub returns-else-self-le7 : goal.returns-else-self-le7
unfolding valid
returns-else-self-le7 c = simp (lt-leb _ _ c.if-self-le7.false)
