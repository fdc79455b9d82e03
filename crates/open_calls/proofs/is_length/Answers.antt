-- Both limits.
use Rattle.std.proofs.Common.{le-leb}
use Rattle.std.proofs.lemmas.Bool.{lt-leb}
use Rattle.open_calls.specs.Answers.{valid_length}
use Rattle.open_calls.proofs.is_length.Goals as goal

pub returns-then-n-ge1 : goal.returns-then-n-ge1
unfolding valid_length
returns-then-n-ge1 c = simp (le-leb _ _ c.if-n-ge1.true)

pub returns-else-n-ge1 : goal.returns-else-n-ge1
unfolding valid_length
returns-else-n-ge1 c = simp (lt-leb _ _ c.if-n-ge1.false)
