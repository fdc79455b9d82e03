-- Turned back, or related.
use Rattle.std.proofs.Common.{◌∙◌}
use Rattle.comparisons.proofs.Comparisons.{answer-refused, answer-related}
use Rattle.comparisons.proofs.compare.Goals as goal

pub returns-in-Ok : goal.returns-in-Ok
returns-in-Ok c = rw c.number.ensures (answer-related _ _ _ _ c.in-Ok.ensures)

pub returns-in-Err : goal.returns-in-Err
returns-in-Err c = c.refused_comparison.ensures ∙ answer-refused _ _ _ _ c.in-Err.ensures
