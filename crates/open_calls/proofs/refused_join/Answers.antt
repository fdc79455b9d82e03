-- The number of the refusal.
use Rattle.open_calls.specs.Answers.{refused_join}
use Rattle.open_calls.proofs.refused_join.Goals as goal

pub returns : goal.returns
unfolding refused_join
returns c = simp (c.number.ensures, c.blank.ensures)
