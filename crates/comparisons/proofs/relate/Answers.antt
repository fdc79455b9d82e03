-- What is left from place k on, with the replies so far, is the whole.
use Rattle.std.proofs.Common.{◌∙◌}
use Rattle.comparisons.proofs.Relations.{rest_end, rest-start, rest_turn}
use Rattle.comparisons.proofs.relate.Goals as goal

pub loop-k-init : goal.loop-k-init
loop-k-init c = rest-start _ _

pub loop-k-preserved : goal.loop-k-preserved
loop-k-preserved c = rest_turn _ _ _ _ _ c.loop-k-test.true c.relate_at-r.ensures ∙ c.loop-k.invariant

pub returns : goal.returns
returns c = rest_end _ _ _ _ c.loop-k-test.false ∙ c.loop-k.invariant
