-- Both limits.
use Rattle.std.proofs.Common.{le-leb}
use Rattle.std.proofs.lemmas.Bool.{lt-leb}
use Rattle.timestamps.specs.Order.{valid_ratio}
use Rattle.timestamps.proofs.valid_ratio.Goals as goal

pub returns-then-ratio-ge1 : goal.returns-then-ratio-ge1
unfolding valid_ratio
returns-then-ratio-ge1 c = simp (le-leb _ _ c.if-ratio-ge1.true)

pub returns-else-ratio-ge1 : goal.returns-else-ratio-ge1
unfolding valid_ratio
returns-else-ratio-ge1 c = simp (lt-leb _ _ c.if-ratio-ge1.false)
