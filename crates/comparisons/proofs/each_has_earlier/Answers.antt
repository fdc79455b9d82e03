-- What is left from place k on is the whole: so far each has one.
use Rattle.std.proofs.Common.{true, false, sym, ◌∙◌}
use Rattle.comparisons.proofs.Relations.{earlier_end, earlier_start, earlier_turn}
use Rattle.comparisons.proofs.each_has_earlier.Goals as goal

pub loop-k-init : goal.loop-k-init
loop-k-init c = earlier_start _ _ _

pub returns-then-not-has_earlier : goal.returns-then-not-has_earlier
returns-then-not-has_earlier c = earlier_turn c.args.ratio c.args.first.now c.args.second.now c.loop-k.k false c.loop-k-test.true (sym c.if-not-has_earlier.true ∙ c.has_earlier.ensures) ∙ c.loop-k.invariant

pub loop-k-preserved : goal.loop-k-preserved
loop-k-preserved c = earlier_turn c.args.ratio c.args.first.now c.args.second.now c.loop-k.k true c.loop-k-test.true (sym c.if-not-has_earlier.false ∙ c.has_earlier.ensures) ∙ c.loop-k.invariant

pub returns : goal.returns
returns c = earlier_end _ _ _ _ c.loop-k-test.false ∙ c.loop-k.invariant
