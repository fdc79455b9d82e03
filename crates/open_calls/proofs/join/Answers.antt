-- Turned back, or joined.
use Rattle.std.proofs.Common.{refl, ◌∙◌}
use Rattle.open_calls.proofs.Entries.{answer-joined, answer-refused}
use Rattle.open_calls.proofs.join.Goals as goal

pub returns-in-Ok : goal.returns-in-Ok
returns-in-Ok c = rw c.show.ensures (answer-joined _ _ _ c.in-Ok.ensures.judged (c.in-Ok.ensures.joined refl))

pub returns-in-Err : goal.returns-in-Err
returns-in-Err c = c.refused_join.ensures ∙ answer-refused _ _ _ c.in-Err.ensures.judged
