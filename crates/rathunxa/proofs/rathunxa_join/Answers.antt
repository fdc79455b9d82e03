-- The answer is the join's.
use Rattle.rathunxa.proofs.rathunxa_join.Goals as goal

pub returns : goal.returns
returns c = c.join.ensures
