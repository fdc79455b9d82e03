-- The answer is the comparison's.
use Rattle.rathunxa.proofs.rathunxa_compare.Goals as goal

pub returns : goal.returns
returns c = c.compare.ensures
